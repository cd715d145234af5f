-- What the table of lengths answers is what the sequences answer: h holds sequences, and ls has the length of place p's.
use Rattle.std.proofs.Common.{◌≡◌, ℕ, ◌+◌, ◌-◌, ◌<◌, ◌≤◌, Bool, true, false, cond, ◌&&◌, ltb, leb, List, [], ◌∷◌, ◌++◌, length, get_or, set, IsErrAnd, Ok, Err, Result, sym, refl, ap, ◌∙◌, ⊎_elim, arith}
use Rattle.std.proofs.lemmas.Bool.{cases_Bool}
use Rattle.std.proofs.lemmas.Bool.Decides.{nat_tests}
use Rattle.std.specs.List.{slice_get}
use Rattle.std.proofs.lemmas.Option.{slice_get_read, slice_get_past}
use Rattle.std.proofs.lemmas.Result.{err_from_is_err_and}
use Rattle.model.specs.declared.signals.Fault.{Fault}
use Rattle.shelf.specs.Places.{is_place, is_index, if_so, greatest, refusal, with_place, found, length_at, element_at, replaced, appended, cleared, Writes}
use Rattle.shelf.specs.Kept.{kept_longer, kept_cell}

-- what an answer of `if-so` tells
pub told : {A : Type 0} (b : Bool) (x y : A) → Ok y ≡ if_so b x → (b ≡ true) × (y ≡ x)
told true x y e = (refl, cc)
told false x y e = let z : ◌≡◌ {A = ℕ} 0 1 = cc in absurd (omega arith)

pub not_told : {A : Type 0} (b : Bool) (x : A) (e : Fault) → Err e ≡ if_so b x → (b ≡ false) × (e ≡ refusal)
not_told true x e h = let z : ◌≡◌ {A = ℕ} 0 1 = cc in absurd (omega arith)
not_told false x e h = (refl, cc)

-- one refusal, where the second test fails as the first does
pub refused : {A B : Type 0} (b c : Bool) (x : A) (y : B) (e : Fault) → (b ≡ false → c ≡ false) → Err e ≡ if_so b x → Err e ≡ if_so c y
refused b c x y e f h = let t = not_told b x e h in rw (f t.0, t.1)

-- the exit of a `?`
pub answer_no : {A : Type 0} {m : Result A Fault} {e : Fault} (r : Result A Fault) → IsErrAnd r (λ y. y ≡ e) → Err e ≡ m → r ≡ m
answer_no r q h = let t = err_from_is_err_and r q in t.1 ∙ ap Err t.2 ∙ h

pub writes_no : {E : Type 0} (h : ℕ → List E) (m : Result (ℕ → List E) Fault) (e : Fault) (r : Result (Unit {0}) Fault) → IsErrAnd r (λ y. y ≡ e) → Err e ≡ m → Writes r h h m
writes_no h m e (Ok x) q w = absurd q
writes_no h m e (Err y) q w = (ap Err q ∙ w, refl)

pub place_told : (p : ℕ) → is_place p ≡ true → (1 ≤ p) × (p ≤ 160)
place_told p e = (grind (arith, nat_tests), grind (arith, nat_tests))

pub is_place_of : (p : ℕ) → 1 ≤ p → p ≤ 160 → is_place p ≡ true
is_place_of p low high = grind (arith, nat_tests)

-- what a cell that was found tells
pub record Found (s : ℕ → ℕ) (ls : List ℕ) (p i a : ℕ) : Type 0 where
  pub place : is_place p ≡ true
  pub from_one : 1 ≤ i
  pub below : i - 1 < get_or ls (p - 1) 0
  pub is : a ≡ s p + (i - 1)

pub cell_told : (s : ℕ → ℕ) (ls : List ℕ) (p i a : ℕ) → Ok a ≡ kept_cell s p i ls → Found s ls p i a
cell_told s ls p i a e =
    let t = told (is_place p && (leb 1 i && leb i (get_or ls (p - 1) 0))) (s p + (i - 1)) a e in
    record { place = grind (arith, nat_tests, t.0); from_one = grind (arith, nat_tests, t.0); below = grind (arith, nat_tests, t.0); is = t.1 }

pub longer_told : (ls : List ℕ) (p n : ℕ) → Ok n ≡ kept_longer p ls → n ≡ get_or ls (p - 1) 0 + 1
longer_told ls p n e = (told (ltb (get_or ls (p - 1) 0) greatest) (get_or ls (p - 1) 0 + 1) n e).1

module _ {E : Type 0} (h : ℕ → List E) (ls : List ℕ) (p : ℕ) (size : is_place p ≡ true → length (h p) ≡ get_or ls (p - 1) 0) where
  -- a test of the length alone
  same_test : (f : ℕ → Bool) (b : Bool) → b ≡ is_place p → (b && f (get_or ls (p - 1) 0)) ≡ (b && f (length (h p)))
  same_test f true e = ap f (sym (size (sym e)))
  same_test f false e = refl

  same_index : (i : ℕ) → (is_place p && (leb 1 i && leb i (get_or ls (p - 1) 0))) ≡ (is_place p && is_index i (h p))
  same_index i = same_test (λ n. leb 1 i && leb i n) (is_place p) refl

  pub length_yes : is_place p ≡ true → Ok (get_or ls (p - 1) 0) ≡ length_at p h
  unfolding length_at
  length_yes place = rw place (ap Ok (sym (size place)))

  pub element_yes : (s : ℕ → ℕ) (i a : ℕ) (x : E) → Ok a ≡ kept_cell s p i ls → x ≡ get_or (h p) (i - 1) x → Ok x ≡ element_at p i h
  unfolding element_at
  element_yes s i a x e is =
      let t = cell_told s ls p i a e in
      let short : i - 1 < length (h p) = omega (arith, t.below, size t.place) in
      let place = t.place in
      let first : leb 1 i ≡ true = grind (arith, nat_tests, t.from_one) in
      let found_it = slice_get_read (h p) (length (h p)) (i - 1) x refl short is in
      rw (place, first, found_it)

  pub element_no : (s : ℕ → ℕ) (i : ℕ) (e : Fault) → Err e ≡ kept_cell s p i ls → Err e ≡ element_at p i h
  unfolding element_at
  element_no s i e q =
      let t = not_told _ (s p + (i - 1)) e (q ∙ ap (λ (b : Bool). if_so b (s p + (i - 1))) (same_index i)) in
      ap Err t.1 ∙ sym (⊎_elim (past t.0) (λ (n : (is_place p && leb 1 i) ≡ false). rw n) (cases_Bool (is_place p && leb 1 i)))
    where
      past : (is_place p && is_index i (h p)) ≡ false → (is_place p && leb 1 i) ≡ true → cond (is_place p && leb 1 i) (found (slice_get (h p) (i - 1))) (Err refusal) ≡ Err refusal
      past out_of_lem first =
          let out : length (h p) ≤ i - 1 = grind (arith, nat_tests) in
          let none = slice_get_past (h p) (i - 1) out in
          rw (first, none)

  pub replaced_yes : (s : ℕ → ℕ) (i a : ℕ) (x : E) (h' : ℕ → List E) → Ok a ≡ kept_cell s p i ls → h' ≡ with_place p (set (h p) (i - 1) x) h → Ok h' ≡ replaced p i x h
  unfolding replaced
  replaced_yes s i a x h' e is =
      let t = told (is_place p && (leb 1 i && leb i (get_or ls (p - 1) 0))) (s p + (i - 1)) a e in
      let test = sym (same_index i) ∙ t.0 in
      rw test (ap Ok is)

  pub replaced_no : (s : ℕ → ℕ) (i : ℕ) (x : E) (e : Fault) → Err e ≡ kept_cell s p i ls → Err e ≡ replaced p i x h
  unfolding replaced
  replaced_no s i x e q = refused _ _ (s p + (i - 1)) _ e (λ f. sym (same_index i) ∙ f) q

  same_room : (is_place p && ltb (get_or ls (p - 1) 0) greatest) ≡ (is_place p && ltb (length (h p)) greatest)
  same_room = same_test (λ n. ltb n greatest) (is_place p) refl

  pub appended_yes : (n : ℕ) (x : E) (h' : ℕ → List E) → is_place p ≡ true → Ok n ≡ kept_longer p ls → h' ≡ with_place p (h p ++ (x ∷ [])) h → Ok h' ≡ appended p x h
  unfolding appended
  appended_yes n x h' place e is =
      let t = told (ltb (get_or ls (p - 1) 0) greatest) (get_or ls (p - 1) 0 + 1) n e in
      let test : (is_place p && ltb (length (h p)) greatest) ≡ true = sym same_room ∙ rw (place, t.0) refl in
      rw test (ap Ok is)

  pub appended_no : (x : E) (e : Fault) → is_place p ≡ true → Err e ≡ kept_longer p ls → Err e ≡ appended p x h
  unfolding appended
  appended_no x e place q = refused (ltb (get_or ls (p - 1) 0) greatest) _ _ _ e (λ f. sym same_room ∙ rw (place, f) refl) q

-- a number that is no place
module _ {E : Type 0} (h : ℕ → List E) (p : ℕ) (e : Fault) (no : Err e ≡ if_so (is_place p) p) where
  not_and : (c : Bool) → is_place p ≡ false → (is_place p && c) ≡ false
  not_and c f = rw f refl

  pub length_nowhere : Err e ≡ length_at p h
  unfolding length_at
  length_nowhere = refused (is_place p) _ p _ e (λ f. f) no

  pub appended_nowhere : (x : E) → Err e ≡ appended p x h
  unfolding appended
  appended_nowhere x = refused (is_place p) _ p _ e (not_and _) no

  pub cleared_nowhere : Err e ≡ cleared p h
  unfolding cleared
  cleared_nowhere = refused (is_place p) _ p _ e (λ f. f) no

pub cleared_yes : {E : Type 0} (h h' : ℕ → List E) (p : ℕ) → is_place p ≡ true → h' ≡ with_place p [] h → Ok h' ≡ cleared p h
unfolding cleared
cleared_yes h h' p place is = rw place (ap Ok is)
