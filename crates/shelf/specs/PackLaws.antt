-- Sequences end to end lie apart.
use Rattle.std.specs.Prelude.{◌≢◌, ℕ, ◌+◌, ◌-◌, ◌<◌, ◌≤◌, List, slice_index}
use Rattle.std.proofs.Common.{⊎_elim, arith}
use Rattle.std.proofs.lemmas.Bool.{cases_order}
use Rattle.shelf.specs.Kept.{Lawful, begin}
use Rattle.shelf.specs.Sums.{before_mono, before_next, before_fits}

-- a place's sequence ends before that of a later one begins
pub follows : (ls : List ℕ) (p q : ℕ) → 1 ≤ p → p < q → begin ls p + slice_index ls (p - 1) ≤ begin ls q
follows ls p q lp l = omega (arith, before_next ls p lp, before_mono ls p (q - 1) (omega arith))

apart : (ls : List ℕ) (p q j k : ℕ) → 1 ≤ p → 1 ≤ q → q ≢ p → j < slice_index ls (q - 1) → k < slice_index ls (p - 1) → begin ls q + j ≢ begin ls p + k
apart ls p q j k lp lq n lj lk e =
    ⊎_elim n (⊎_elim (λ (l : q < p). omega (arith, follows ls q p lq l)) (λ (l : p < q). omega (arith, follows ls p q lp l))) (cases_order q p)

pub lawful : Lawful begin
lawful =
    record {
      fits = λ ls p short lp hp. before_fits ls p short lp hp;
      apart = λ ls p q j k short lp hp lq hq n lj lk. apart ls p q j k lp lq n lj lk;
    }
