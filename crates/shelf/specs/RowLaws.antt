-- Rows of 64 cells lie apart.
use Rattle.std.specs.Prelude.{◌≢◌, ℕ, ◌+◌, ◌-◌, ◌<◌, ◌≤◌}
use Rattle.std.proofs.Common.{⊎_elim, arith}
use Rattle.std.proofs.lemmas.Bool.{cases_order}
use Rattle.shelf.specs.Kept.{Lawful, row}

apart : (p q j k : ℕ) → 1 ≤ p → 1 ≤ q → q ≢ p → j < 64 → k < 64 → row q + j ≢ row p + k
apart p q j k lp lq n lj lk e =
    ⊎_elim n (⊎_elim (λ (l : q < p). omega arith) (λ (l : p < q). omega arith)) (cases_order q p)

pub lawful : Lawful (λ _. row)
lawful =
    record {
      fits = λ ls p short lp hp. omega (arith, short (p - 1));
      apart = λ ls p q j k short lp hp lq hq n lj lk. apart p q j k lp lq n (omega (arith, short (q - 1), lj)) (omega (arith, short (p - 1), lk));
    }
