-- What each shelf holds.
use Rattle.std.specs.Prelude.{ℕ, List}
use Rattle.shelf.specs.Kept.{laid, rows, packed}
use Rattle.shelf.specs.declared.laid.Laid.{Laid}
use Rattle.shelf.specs.declared.rows.InRows.{InRows}
use Rattle.shelf.specs.declared.packed.EndToEnd.{EndToEnd}

-- what a shelf holds whose sequences begin where `start` says, by their lengths
abbrev pub held : {E L : Type 0} → (List ℕ → ℕ → ℕ) → Laid E L → ℕ → List E
held start s = laid (start s.lengths.table) s.lengths.table s.lent.cells.now

abbrev pub in_rows : {E : Type 0} → Laid E InRows → ℕ → List E
in_rows s = rows s.lengths.table s.lent.cells.now

abbrev pub in_packed : {E : Type 0} → Laid E EndToEnd → ℕ → List E
in_packed s = packed s.lengths.table s.lent.cells.now
