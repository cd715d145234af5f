-- A place filled: cleared, and then element by element.
use Rattle.std.proofs.Common.{◌≡◌, ℕ, ◌+◌, ◌<◌, ◌≤◌, true, eqb, ltb, List, [], ◌∷◌, ◌++◌, length, get_or, take, IsErrAnd, Ok, Err, Result, sym, refl, ap, ◌∙◌, subst, ⊎_elim, arith}
use mathlib.Core.Path.{fun_ext}
use Rattle.std.proofs.lemmas.Bool.{eq-eqb, cases_Bool, le-leb, lt-ltb}
use Rattle.std.proofs.lemmas.List.{take_all, take_more, length-take-le}
use Rattle.model.specs.declared.signals.Fault.{Fault}
use Rattle.std.proofs.lemmas.Result.{err_from_is_err_and}
use Rattle.shelf.specs.Places.{is_place, with_place, cleared, appended, Writes}
use Rattle.scene.specs.Fill.{filled}

pub not_ok : {A : Type 0} {x : A} {e : Fault} → ◌≡◌ {A = Result A Fault} (Err e) (Ok x) → ⊥
not_ok q = let z : ◌≡◌ {A = ℕ} 0 1 = cc in omega arith

module _ {E : Type 0} (p : ℕ) (h : ℕ → List E) where
  pub here : (xs : List E) → with_place p xs h p ≡ xs
  unfolding with_place
  here xs = rw (eq-eqb p p refl)

  pub again : (xs ys : List E) → with_place p xs (with_place p ys h) ≡ with_place p xs h
  unfolding with_place
  again xs ys = fun_ext (λ q. ⊎_elim (λ t. rw t) (λ t. rw t) (cases_Bool (eqb q p)))

  pub no_place : (xs : List E) (e : Fault) → Err e ≡ cleared p h → Err e ≡ filled p xs h
  unfolding cleared
  no_place xs e q = ⊎_elim (λ t. absurd (not_ok (rw t at q))) (λ t. rw t (rw t at q)) (cases_Bool (is_place p))

  empty : (h' : ℕ → List E) → Ok h' ≡ cleared p h → (is_place p ≡ true) × (h' ≡ with_place p [] h)
  unfolding cleared
  empty h' q =
      ⊎_elim
      (λ t. (t, let r : Ok h' ≡ Ok (with_place p [] h) = rw t at q in cc))
      (λ t. absurd (not_ok (sym (rw t at q))))
      (cases_Bool (is_place p))

  pub emptied : (h' : ℕ → List E) → Ok h' ≡ cleared p h → (is_place p ≡ true) × (h' ≡ with_place p [] h')
  emptied h' q =
      let e = empty h' q in
      (e.0, e.1 ∙ sym (ap (with_place p []) e.1 ∙ again [] []))

  module _ (xs : List E) (i : ℕ) (x : E) (place : is_place p ≡ true) (few : length xs ≤ 64) (more : i < length xs) (is : get_or xs i x ≡ x) (h' : ℕ → List E) (so_far : h' ≡ with_place p (take i xs) h) where
    sequence : h' p ≡ take i xs
    sequence = ap (λ (f : ℕ → List E). f p) so_far ∙ here (take i xs)

    appends : appended p x h' ≡ Ok (with_place p (take (i + 1) xs) h)
    unfolding appended
    appends =
        let n : length (take i xs) ≡ i = length-take-le i xs (omega arith) in
        let room : ltb (length (take i xs)) 64 ≡ true = rw n (lt-ltb i 64 (omega arith)) in
        rw (sequence, place, room, so_far)
        (ap Ok (again (take i xs ++ (x ∷ [])) (take i xs) ∙ ap (λ (l : List E). with_place p l h) (sym (take_more xs i x more ∙ rw is))))

    pub one_more : (h'' : ℕ → List E) → Ok h'' ≡ appended p x h' → h'' ≡ with_place p (take (i + 1) xs) h
    one_more h'' q = let r : Ok h'' ≡ Ok (with_place p (take (i + 1) xs) h) = q ∙ appends in cc

    pub no_refusal : (e : Fault) → Err e ≡ appended p x h' → ⊥
    no_refusal e q = not_ok (q ∙ appends)

  pub all_there : (xs : List E) (i : ℕ) (h₁ h' : ℕ → List E) → Ok h₁ ≡ cleared p h → length xs ≤ 64 → length xs ≤ i → h' ≡ with_place p (take i xs) h₁ → Ok h' ≡ filled p xs h
  all_there xs i h₁ h' q few end so_far =
      let e = empty h₁ q in
      rw (e.0, le-leb (length xs) 64 few)
      (ap Ok (so_far ∙ ap (λ (l : List E). with_place p l h₁) (take_all i xs end) ∙ ap (with_place p xs) e.1 ∙ again xs []))

-- the way out of a refused call
pub refused : {E : Type 0} (r : Result (Unit {0}) Fault) (e : Fault) (h h' : ℕ → List E) (m : Result (ℕ → List E) Fault) → IsErrAnd r (λ y. y ≡ e) → Err e ≡ m → h' ≡ h → Writes r h h' m
refused r e h h' m q a b =
    let p = err_from_is_err_and r q in
    subst (λ (x : Result (Unit {0}) Fault). Writes x h h' m) (sym (p.1 ∙ ap Err p.2)) (a, b)
