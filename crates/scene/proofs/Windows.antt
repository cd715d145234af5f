-- A part of a list, and a write to the list.
use Rattle.std.proofs.Common.{◌≡◌, ℕ, ◌+◌, ◌-◌, ◌<◌, ◌≤◌, ◌⊎◌, List, take, drop, set, ap, ◌∙◌, subst, inl, inr, arith}
use Rattle.std.proofs.Math.Seq.{take-set-lt}
use Rattle.std.proofs.lemmas.List.{drop-set-lt, drop-set-add, take-set-le}

module _ {A : Type 0} (xs : List A) (b k : ℕ) (v : A) where
  pub window_set : (i : ℕ) → i < k → take k (drop b (set xs (b + i) v)) ≡ set (take k (drop b xs)) i v
  window_set i h = ap (take k) (drop-set-add b xs i v) ∙ take-set-lt k (drop b xs) i v h

  pub window_other : (j : ℕ) → (j < b) ⊎ (b + k ≤ j) → take k (drop b (set xs j v)) ≡ take k (drop b xs)
  window_other j (inl l) = ap (take k) (drop-set-lt b xs j v l)
  window_other j (inr l) =
      let e : b + (j - b) ≡ j = omega arith in
      ap (take k) (subst (λ (x : ℕ). drop b (set xs x v) ≡ set (drop b xs) (j - b) v) e (drop-set-add b xs (j - b) v)) ∙ take-set-le k (drop b xs) (j - b) v (omega arith)
