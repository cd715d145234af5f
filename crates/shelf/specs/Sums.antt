-- Sums of the first lengths.
use Rattle.std.specs.Prelude.{◌≡◌, ℕ, zero, suc, ◌+◌, ◌-◌, ◌*◌, ◌<◌, ◌≤◌, List, [], ◌∷◌, length, take, sum, slice_index, slice_set}
use Rattle.std.proofs.Common.{sym, refl, ap, ◌∙◌, zero-le, le_of_suc-le-suc, not-suc-le-zero, length-take, arith}
use Rattle.std.proofs.lemmas.List.{get_or-take, take-set-le}
use Rattle.std.proofs.lemmas.List.Sums.{sum_by-cons, sum_by-set}
use Rattle.std.proofs.Math.Seq.{take-set-lt}
use Rattle.shelf.specs.Places.{most}
use Rattle.shelf.specs.Kept.{Short, before}

before_cons : (n : ℕ) (ls : List ℕ) (i : ℕ) → before (n ∷ ls) (suc i) ≡ n + before ls i
before_cons n ls i = sum_by-cons (λ (m : ℕ). m) n (take i ls)

before_suc : (ls : List ℕ) (i : ℕ) → before ls (suc i) ≡ before ls i + slice_index ls i
before_suc [] zero = refl
before_suc [] (suc i) = refl
before_suc (n ∷ ls) zero = before_cons n ls 0 ∙ omega arith
before_suc (n ∷ ls) (suc i) = omega (arith, before_cons n ls (suc i), before_cons n ls i, before_suc ls i)

pub before_mono : (ls : List ℕ) (i j : ℕ) → i ≤ j → before ls i ≤ before ls j
before_mono ls zero j h = zero-le
before_mono ls (suc i) zero h = absurd (not-suc-le-zero h)
before_mono [] (suc i) (suc j) h = zero-le
before_mono (n ∷ ls) (suc i) (suc j) h =
    omega (arith, before_cons n ls i, before_cons n ls j, before_mono ls i j (le_of_suc-le-suc h))

before_le : (ls : List ℕ) (i : ℕ) → Short ls → before ls i ≤ 64 * i
before_le ls zero h = zero-le
before_le [] (suc i) h = zero-le
before_le (n ∷ ls) (suc i) h = omega (arith, before_cons n ls i, h 0, before_le ls i (λ k. h (suc k)))

pub before_low : (ls : List ℕ) (i j v : ℕ) → i ≤ j → before (slice_set ls j v) i ≡ before ls i
before_low ls i j v h = ap sum (take-set-le i ls j v h)

pub before_high : (ls : List ℕ) (i j v : ℕ) → j < i → j < length ls → before (slice_set ls j v) i + slice_index ls j ≡ before ls i + v
before_high ls i j v h l =
    let inside : j < length (take i ls) = simp length-take (omega arith) in
    ap (λ (m : ℕ). m + slice_index ls j) (ap sum (take-set-lt i ls j v h)) ∙
    (ap (λ (m : ℕ). sum (slice_set (take i ls) j v) + m) (sym (get_or-take i ls j 0 h)) ∙ sum_by-set (λ (m : ℕ). m) (take i ls) j v 0 inside)

-- the sequence of place q, from 1, ends where the next one begins
pub before_next : (ls : List ℕ) (q : ℕ) → 1 ≤ q → before ls (q - 1) + slice_index ls (q - 1) ≡ before ls q
before_next ls q h =
    let e : suc (q - 1) ≡ q = omega arith in sym (before_suc ls (q - 1)) ∙ ap (λ (i : ℕ). before ls i) e

pub before_most : (ls : List ℕ) (i : ℕ) → Short ls → i ≤ 160 → before ls i ≤ most
before_most ls i h l = omega (arith, before_le ls i h)

pub before_fits : (ls : List ℕ) (q : ℕ) → Short ls → 1 ≤ q → q ≤ 160 → before ls (q - 1) + slice_index ls (q - 1) ≤ most
before_fits ls q h low high = omega (arith, before_next ls q low, before_most ls q h high)
