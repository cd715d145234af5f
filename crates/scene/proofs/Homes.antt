-- Where elements lie: no two names have one place, and a name with none has no object.
use Rattle.std.proofs.Common.{◌≡◌, ℕ, ◌+◌, false, List, length, Some, None, Ok, Option, IfSome, option_map, sym, refl, ap, ◌∙◌, ⊎_elim, arith}
use Rattle.std.proofs.lemmas.Bool.{ne_eqb, cases_Bool}
use Rattle.model.specs.declared.kinds.Name.{Name}
use Rattle.model.specs.Plan.{part_limit, most_of}
use Rattle.model.specs.Kalls.{same_name, refilled}
use Rattle.shelf.specs.Places.{with_place}
use Rattle.scene.specs.declared.kinds.Object.{Object}
use Rattle.scene.specs.declared.tables.Tables.{Tables}
use Rattle.scene.specs.Places.{place_of}
use Rattle.scene.specs.Abstract.{frame, homes, home_of, elements_at}
use Rattle.scene.proofs.Changed.{at_name, name_is, name_other}
use Rattle.scene.proofs.Filling.{here}
use Rattle.scene.proofs.Bodies.{at, one_place, object_none}

record Before (p : ℕ) (o : Option ℕ) : Type 0 where
  index : ℕ
  is : Some index ≡ o
  next : p ≡ index + 1

before : (p : ℕ) (o : Option ℕ) → Some p ≡ option_map (λ q. q + 1) o → Before p o
before p None e = let z : ◌≡◌ {A = ℕ} 0 1 = cc in absurd (omega arith)
before p (Some q) e = record { index = q; is = refl; next = cc }

none_before : (o : Option ℕ) → None ≡ option_map (λ q. q + 1) o → None ≡ o
none_before None e = refl
none_before (Some q) e = let z : ◌≡◌ {A = ℕ} 0 1 = cc in absurd (omega arith)

pub one_home : (objects : List (Option Object)) (m n : Name) (p q : ℕ) → length objects ≡ 160 → Some q ≡ home_of objects m → Some p ≡ home_of objects n → same_name m n ≡ false → q ≡ p → ⊥
unfolding home_of
one_home objects m n p q long a b t e =
    let x = before q (place_of objects m.share m.number) a in
    let y = before p (place_of objects n.share n.number) b in
    one_place objects m n y.index x.index (at objects m x.index long x.is) (at objects n y.index long y.is) t (omega (arith, x.next, y.next))

pub no_limit : (t : Tables) (n : Name) → None ≡ homes t n → part_limit n (frame t) ≡ Ok 0
unfolding home_of part_limit
no_limit t n e = ap (λ o. Ok (most_of o)) (object_none t.objects t.slots n (none_before (place_of t.objects n.share n.number) e))

-- no other name has an object's place
pub alone : (objects : List (Option Object)) (n : Name) (r : Option ℕ) → length objects ≡ 160 → r ≡ home_of objects n → IfSome r (λ p. (m : Name) → Some p ≡ home_of objects m → m ≡ n)
alone objects n None long e = tt
alone objects n (Some p) long e = λ m f. ⊎_elim (λ t. name_is m n t) (λ t. absurd (one_home objects m n p p long f e t refl)) (cases_Bool (same_name m n))

module _ {E : Type 0} (n : Name) (p : ℕ) (xs : List E) (h : ℕ → List E) (lie : Name → Option ℕ) (lies : Some p ≡ lie n) (only : (m : Name) → Some p ≡ lie m → m ≡ n) where
  there : (m : Name) → same_name m n ≡ false → (o : Option ℕ) → o ≡ lie m → elements_at (with_place p xs h) o ≡ elements_at h o
  unfolding with_place
  there m s None e = refl
  there m s (Some q) e =
      let apart : q ≡ p → ⊥ = λ x. let same : m ≡ n = only m (ap Some (sym x) ∙ e) in name_other m n s (ap (λ (k : Name). k.share) same) (ap (λ (k : Name). k.number) same) in
      rw (ne_eqb q p apart)

  -- an object's elements are others where its place holds others
  pub refills : (λ (m : Name). elements_at (with_place p xs h) (lie m)) ≡ refilled n xs (λ m. elements_at h (lie m))
  unfolding refilled
  refills =
      at_name (λ _. xs) n (λ m. elements_at h (lie m)) (λ m. elements_at (with_place p xs h) (lie m))
      (ap (elements_at (with_place p xs h)) (sym lies) ∙ here p h xs)
      (λ m s. there m s (lie m) refl)
