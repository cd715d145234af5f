-- The first place that passes, in a list that is known element by element.
use Rattle.std.proofs.Common.{◌≡◌, ℕ, ◌<◌, ◌≤◌, Bool, true, false, List, length, get_or, set, Some, None, position, AllPairs, sym, subst, ⊎_elim, arith, get_or-set_other, get_or-set_same}
use Rattle.std.specs.List.{position_or_len}
use Rattle.std.proofs.lemmas.Bool.{le-ltb, lt-ltb, cases_eq, cases_lt}
use Rattle.std.proofs.lemmas.Option.{none-some}
use Rattle.std.proofs.lemmas.List.{length-set}
use Rattle.std.proofs.lemmas.List.Folds.{position_or_len-set}
use Rattle.std.proofs.lemmas.List.Sums.{position_or_len_is}

module _ {X : Type 0} (p : X → Bool) (xs : List X) where
  pub position_none : (d : X) → ((k : ℕ) → k < length xs → p (get_or xs k d) ≡ false) → position p xs ≡ None
  position_none d h =
      let e = position_or_len_is p xs (length xs) d (omega arith) h (λ l. absurd (omega arith)) in
      rw (e, le-ltb (length xs) (length xs) (omega arith))

  pub position_at : (i : ℕ) (d : X) → i < length xs → p (get_or xs i d) ≡ true → ((k : ℕ) → k < i → p (get_or xs k d) ≡ false) → position p xs ≡ Some i
  position_at i d l h before =
      let e = position_or_len_is p xs i d (omega arith) before (λ _. h) in
      rw (e, lt-ltb i (length xs) l)

  pub position-set : (i : ℕ) (y d : X) → p y ≡ p (get_or xs i d) → position p (set xs i y) ≡ position p xs
  position-set i y d h = rw (position_or_len-set p xs i y d h, length-set xs i y)

  pub position_past : None ≡ position p xs → length xs ≤ position_or_len p xs
  position_past e =
      ⊎_elim
      (λ (l : position_or_len p xs < length xs). let z : None ≡ Some (position_or_len p xs) = rw (lt-ltb (position_or_len p xs) (length xs) l) at e in absurd (none-some (position_or_len p xs) z))
      (λ (l : length xs ≤ position_or_len p xs). l)
      (cases_lt (position_or_len p xs) (length xs))

pub all_pairs_set : {X : Type 0} (R : X → X → Type 0) (xs : List X) (i : ℕ) (y : X) → AllPairs R xs
    → ((k : ℕ) (d : X) → k < i → k < length xs → R (get_or xs k d) y)
    → ((k : ℕ) (d : X) → i < k → k < length xs → R y (get_or xs k d))
    → AllPairs R (set xs i y)
all_pairs_set {X} R xs i y all before after j k d l m =
    let n : k < length xs = omega (arith, m, length-set xs i y) in
    ⊎_elim
    (λ (e : j ≡ i).
    subst (λ (x : X). R x (get_or (set xs i y) k d)) (sym (rw e (get_or-set_same xs i y d (omega arith))))
    (subst (R y) (sym (get_or-set_other xs i k y d (omega arith))) (after k d (omega arith) n)))
    (λ (e : j ≡ i → ⊥).
    subst (λ (x : X). R x (get_or (set xs i y) k d)) (sym (get_or-set_other xs i j y d e))
    (⊎_elim
    (λ (f : k ≡ i). subst (R (get_or xs j d)) (sym (rw f (get_or-set_same xs i y d (omega arith)))) (before j d (omega arith) (omega arith)))
    (λ (f : k ≡ i → ⊥). subst (R (get_or xs j d)) (sym (get_or-set_other xs i k y d f)) (all j k d l n))
    (cases_eq k i)))
    (cases_eq j i)
