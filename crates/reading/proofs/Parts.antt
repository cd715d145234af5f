-- Data parts where they lie on a shelf.
use Rattle.std.proofs.Common.{◌≡◌, ℕ, zero, suc, ◌+◌, ◌-◌, ◌<◌, ◌≤◌, true, List, [], ◌∷◌, length, get_or, is_ok, Ok, Result, refl, ap, ◌∙◌, arith}
use Rattle.std.proofs.lemmas.Bool.{le-leb}
use Rattle.std.proofs.lemmas.Option.{slice_get-get_or}
use Rattle.std.specs.List.{slice_get}
use Rattle.model.specs.declared.signals.Fault.{Fault}
use Rattle.shelf.proofs.Answering.{is_place_of}
use Rattle.shelf.specs.Places.{is_place, found, length_at, element_at}

is_there : {E : Type 0} (xs : List E) (i : ℕ) → i < length xs → is_ok (found (slice_get xs i)) ≡ true
is_there [] i l = absurd (omega arith)
is_there (x ∷ xs) zero l = refl
is_there (x ∷ xs) (suc i) l = is_there xs i (omega arith)

module _ {E : Type 0} (p : ℕ) (low : 1 ≤ p) (high : p ≤ 160) (h : ℕ → List E) where
  a_place : is_place p ≡ true
  a_place = is_place_of p low high

  pub length_told : (n : ℕ) → Ok n ≡ length_at p h → n ≡ length (h p)
  unfolding length_at
  length_told n e = let q : Ok n ≡ Ok (length (h p)) = rw a_place at e in cc

  pub length_answers : (r : Result ℕ Fault) → r ≡ length_at p h → is_ok r ≡ true
  unfolding length_at
  length_answers r e = ap is_ok e ∙ rw a_place

  -- an element by its index from 0
  element_is : (i : ℕ) → element_at p (i + 1) h ≡ found (slice_get (h p) i)
  unfolding element_at
  element_is i =
      let back : i + 1 - 1 ≡ i = omega arith in
      rw (a_place, le-leb 1 (i + 1) (omega arith), back)

  pub element_answers : (r : Result E Fault) (i : ℕ) → r ≡ element_at p (i + 1) h → i < length (h p) → is_ok r ≡ true
  element_answers r i e l = ap is_ok (e ∙ element_is i) ∙ is_there (h p) i l

  pub element_told : (x : E) (i : ℕ) → Ok x ≡ element_at p (i + 1) h → i < length (h p) → x ≡ get_or (h p) i x
  element_told x i e l =
      let q : Ok x ≡ Ok (get_or (h p) i x) = e ∙ element_is i ∙ ap found (slice_get-get_or (h p) i x l) in cc
