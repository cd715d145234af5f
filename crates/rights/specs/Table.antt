-- What the two rules answer, written out.
use Rattle.std.specs.Prelude.{◌≡◌}
use Rattle.rights.specs.Bits.{bits}
use Rattle.rights.specs.Steps.{steps}

abbrev pub Table : Type 0
Table =
    (bits.restrict 8191 68 ≡ 68) ×
    (bits.strip 8191 ≡ 6655) ×
    (bits.strip 1536 ≡ 0) ×
    (bits.add_delete 68 ≡ 69) ×
    (bits.admit 69 8191 ≡ 6653) ×
    (bits.admit 1538 70 ≡ 70) ×
    (steps.strip 3 ≡ 1) ×
    (steps.admit 0 2 ≡ 1) ×
    (steps.admit 2 3 ≡ 2)
