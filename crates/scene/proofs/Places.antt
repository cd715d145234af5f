-- The places of the shares, and a write to one of them.
use Rattle.std.proofs.Common.{◌≡◌, ℕ, ◌+◌, ◌<◌, ◌≤◌, ◌⊎◌, Bool, true, false, List, length, get_or, set, drop, Some, None, Option, IfSome, is_none, position, sym, refl, ap, ◌∙◌, subst, inl, inr, ⊎_elim, arith}
use Rattle.std.proofs.lemmas.Bool.{eqb-true, ne_eqb, cases_eq, cases_lt, false≢true}
use Rattle.std.proofs.lemmas.Bool.Decides.{nat_tests}
use Rattle.std.proofs.lemmas.List.{length-take-le, length-drop, get_or-take, get_or-drop}
use Rattle.std.proofs.lemmas.List.Quantifiers.{position-Some}
use Rattle.model.specs.Plan.{places}
use Rattle.scene.specs.declared.kinds.Object.{Object}
use Rattle.scene.specs.Sound.{GivenOut, Differ}
use Rattle.scene.specs.Places.{base_of, part_of, placed, is_numbered, place_of}
use Rattle.scene.proofs.Windows.{window_set, window_other}
use Rattle.scene.proofs.Position.{position-set}

pub small : (s i : ℕ) → i < places s → (s < 9) × (base_of s + i < 160)
small s i h = (grind (arith, nat_tests), grind (arith, nat_tests))

pub shares : (s t p : ℕ) → base_of s ≤ p → p < base_of s + places s → base_of t ≤ p → p < base_of t + places t → s ≡ t
shares s t p a b c d = grind (arith, nat_tests)

pub ends : (s : ℕ) → (base_of s + places s ≤ 160) ⊎ (places s ≡ 0)
ends s = grind (arith, nat_tests)

module _ (objects : List (Option Object)) where
  pub part_long : (s : ℕ) → length objects ≡ 160 → length (part_of objects s) ≡ places s
  unfolding part_of
  part_long s long =
      ⊎_elim
      (λ h. length-take-le (places s) (drop (base_of s) objects) (omega (arith, length-drop (base_of s) objects)))
      (λ (z : places s ≡ 0). rw z)
      (ends s)

  pub part_get : (s i : ℕ) → i < places s → get_or (part_of objects s) i None ≡ get_or objects (base_of s + i) None
  unfolding part_of
  part_get s i h = get_or-take (places s) (drop (base_of s) objects) i None h ∙ get_or-drop (base_of s) objects i None

  -- an object is written at the place p of the share s, or none
  module _ (s i p : ℕ) (v : Option Object) (is : p ≡ base_of s + i) (h : i < places s) where
    pub part_set : part_of (set objects p v) s ≡ set (part_of objects s) i v
    unfolding part_of
    part_set = rw is (window_set objects (base_of s) (places s) v i h)

    pub part_other : (t : ℕ) → (t ≡ s → ⊥) → part_of (set objects p v) t ≡ part_of objects t
    unfolding part_of
    part_other t ne =
        window_other objects (base_of t) (places t) v p
        (⊎_elim inl (λ (a : base_of t ≤ p). ⊎_elim (λ (b : p < base_of t + places t). absurd (ne (shares t s p a b (omega arith) (omega arith)))) inr (cases_lt p (base_of t + places t))) (cases_lt p (base_of t)))

    -- what holds of each share's places
    pub each_part : (P : ℕ → List (Option Object) → Type 0) → P s (set (part_of objects s) i v) → ((t : ℕ) → (t ≡ s → ⊥) → P t (part_of objects t)) → (t : ℕ) → P t (part_of (set objects p v) t)
    each_part P here there t =
        ⊎_elim
        (λ (e : t ≡ s). subst (λ (x : ℕ). P x (part_of (set objects p v) x)) (sym e) (subst (P s) (sym part_set) here))
        (λ (e : t ≡ s → ⊥). subst (P t) (sym (part_other t e)) (there t e))
        (cases_eq t s)

    -- a name that is at neither object lies where it was
    pub place_kept : (t n : ℕ) → (t ≡ s → is_numbered n v ≡ is_numbered n (get_or objects p None)) → place_of (set objects p v) t n ≡ place_of objects t n
    place_kept t n off =
        ap (placed t)
        (⊎_elim
        (λ (e : t ≡ s). subst (λ (x : ℕ). position (is_numbered n) (part_of (set objects p v) x) ≡ position (is_numbered n) (part_of objects x)) (sym e)
        (ap (position (is_numbered n)) part_set ∙ position-set (is_numbered n) (part_of objects s) i v None (off e ∙ ap (λ (x : ℕ). is_numbered n (get_or objects x None)) is ∙ ap (is_numbered n) (sym (part_get s i h)))))
        (λ (e : t ≡ s → ⊥). ap (position (is_numbered n)) (part_other t e))
        (cases_eq t s))

-- what is known of a place that was found
pub record Found (objects : List (Option Object)) (test : Option Object → Bool) (s p : ℕ) : Type 0 where
  pub index : ℕ
  pub is : p ≡ base_of s + index
  pub within : index < places s
  pub passes : test (get_or objects p None) ≡ true

pub found : (objects : List (Option Object)) (test : Option Object → Bool) (s p : ℕ) → length objects ≡ 160 → Some p ≡ placed s (position test (part_of objects s)) → Found objects test s p
found objects test s p long e = go (position test (part_of objects s)) refl e
  where
    go : (o : Option ℕ) → position test (part_of objects s) ≡ o → Some p ≡ placed s o → Found objects test s p
    go None q d = let z : ◌≡◌ {A = ℕ} 0 1 = cc in absurd (omega arith)
    go (Some i) q d =
        let h = position-Some test (part_of objects s) i None q in
        let within : i < places s = omega (arith, h.0, part_long objects s long) in
        let is : p ≡ base_of s + i = cc in
        record { index = i; is = is; within = within; passes = ap test (ap (λ (x : ℕ). get_or objects x None) is ∙ sym (part_get objects s i within)) ∙ h.1 }

pub record Named (n : ℕ) (x : Option Object) : Type 0 where
  pub object : Object
  pub is : x ≡ Some object
  pub number : object.number ≡ n

pub named : (n : ℕ) (x : Option Object) → is_numbered n x ≡ true → Named n x
named n None h = absurd (false≢true h)
named n (Some o) h = record { object = o; is = refl; number = eqb-true o.number n h }

pub same_number : (m n : ℕ) (x : Option Object) → is_numbered m x ≡ true → is_numbered n x ≡ true → m ≡ n
same_number m n None a b = absurd (false≢true a)
same_number m n (Some o) a b = sym (eqb-true o.number m a) ∙ eqb-true o.number n b

-- an object of a number that its share has not given out is told apart, and so are two objects
pub not_above : (g : ℕ) (x : Option Object) → GivenOut g x → is_numbered (g + 1) x ≡ false
not_above g None h = refl
not_above g (Some o) h = let l : o.number ≤ g = (h o refl).1 in ne_eqb o.number (g + 1) (omega arith)

pub not_both : (n : ℕ) (x y : Option Object) → Differ x y → is_numbered n x ≡ true → is_numbered n y ≡ false
not_both n x None d h = refl
not_both n None (Some q) d h = absurd (false≢true h)
not_both n (Some o) (Some q) d h = ne_eqb q.number n (λ e. d o refl q refl (eqb-true o.number n h ∙ sym e))

pub place_bound : (objects : List (Option Object)) (s n : ℕ) (r : Option ℕ) → length objects ≡ 160 → r ≡ place_of objects s n → IfSome r (λ p. p < 160)
place_bound objects s n None long e = tt
place_bound objects s n (Some p) long e = let f = found objects (is_numbered n) s p long e in omega (arith, f.is, (small s f.index f.within).1)

pub unused_bound : (objects : List (Option Object)) (s : ℕ) (r : Option ℕ) → length objects ≡ 160 → r ≡ placed s (position is_none (part_of objects s)) → IfSome r (λ p. (s < 9) × (p < 160))
unused_bound objects s None long e = tt
unused_bound objects s (Some p) long e =
    let f = found objects is_none s p long e in
    let b = small s f.index f.within in
    (b.0, omega (arith, f.is, b.1))
