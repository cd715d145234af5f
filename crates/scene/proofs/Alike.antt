-- Lists that a test tells apart at one place at the most, and tables that are so.
use Rattle.std.proofs.Common.{◌≡◌, ℕ, zero, suc, ◌+◌, ◌<◌, Bool, true, false, cond, List, [], ◌∷◌, length, get_or, None, Option, is_some, position, sym, refl, ap, ◌∙◌, arith}
use Rattle.std.specs.List.{position_or_len, count_by}
use Rattle.std.proofs.lemmas.List.Sums.{sum_by-cons}
use Rattle.model.specs.Plan.{places}
use Rattle.scene.specs.declared.kinds.Object.{Object}
use Rattle.scene.specs.Places.{base_of, part_of, placed, is_numbered, place_of}
use Rattle.scene.specs.Abstract.{living_of}
use Rattle.scene.proofs.Places.{part_long, part_get}

module _ {X : Type 0} (p : X → Bool) (d : X) where
  abbrev one : X → ℕ
  one x = cond (p x) 1 0

  before_like : (xs ys : List X) → length ys ≡ length xs → ((k : ℕ) → k < length xs → p (get_or ys k d) ≡ p (get_or xs k d)) → position_or_len p ys ≡ position_or_len p xs
  before_like [] [] l h = refl
  before_like [] (y ∷ ys) l h = absurd (omega (arith, l))
  before_like (x ∷ xs) [] l h = absurd (omega (arith, l))
  before_like (x ∷ xs) (y ∷ ys) l h =
      let e : p y ≡ p x = h 0 (omega arith) in
      rw (e, before_like xs ys (omega (arith, l)) (λ k m. h (suc k) (omega arith)))

  pub position_like : (xs ys : List X) → length ys ≡ length xs → ((k : ℕ) → k < length xs → p (get_or ys k d) ≡ p (get_or xs k d)) → position p ys ≡ position p xs
  position_like xs ys l h = rw (before_like xs ys l h, l)

  pub count_like : (xs ys : List X) → length ys ≡ length xs → ((k : ℕ) → k < length xs → p (get_or ys k d) ≡ p (get_or xs k d)) → count_by p ys ≡ count_by p xs
  count_like [] [] l h = refl
  count_like [] (y ∷ ys) l h = absurd (omega (arith, l))
  count_like (x ∷ xs) [] l h = absurd (omega (arith, l))
  count_like (x ∷ xs) (y ∷ ys) l h =
      let e : one y ≡ one x = ap (λ (b : Bool). cond b 1 0) (h 0 (omega arith)) in
      let rest : count_by p ys ≡ count_by p xs = count_like xs ys (omega (arith, l)) (λ k m. h (suc k) (omega arith)) in
      omega (arith, e, rest, sum_by-cons one x xs, sum_by-cons one y ys)

  -- one more passes
  pub count_more : (xs ys : List X) (i : ℕ) → length ys ≡ length xs → i < length xs → p (get_or xs i d) ≡ false → p (get_or ys i d) ≡ true
      → ((k : ℕ) → k < length xs → (k ≡ i → ⊥) → p (get_or ys k d) ≡ p (get_or xs k d)) → count_by p ys ≡ count_by p xs + 1
  count_more [] ys i l b f t h = absurd (omega arith)
  count_more (x ∷ xs) [] i l b f t h = absurd (omega (arith, l))
  count_more (x ∷ xs) (y ∷ ys) zero l b f t h =
      let rest : count_by p ys ≡ count_by p xs = count_like xs ys (omega (arith, l)) (λ k m. h (suc k) (omega arith) (omega arith)) in
      let out : one x ≡ 0 = ap (λ (b : Bool). cond b 1 0) f in
      let within : one y ≡ 1 = ap (λ (b : Bool). cond b 1 0) t in
      omega (arith, out, within, rest, sum_by-cons one x xs, sum_by-cons one y ys)
  count_more (x ∷ xs) (y ∷ ys) (suc i) l b f t h =
      let e : one y ≡ one x = ap (λ (b : Bool). cond b 1 0) (h 0 (omega arith) (omega arith)) in
      let rest : count_by p ys ≡ count_by p xs + 1 = count_more xs ys i (omega (arith, l)) (omega arith) f t (λ k m n. h (suc k) (omega arith) (λ q. n (omega (arith, q)))) in
      omega (arith, e, rest, sum_by-cons one x xs, sum_by-cons one y ys)

module _ (objects objects' : List (Option Object)) (long : length objects ≡ 160) (long' : length objects' ≡ 160) (s : ℕ) where
  as_long : length (part_of objects' s) ≡ length (part_of objects s)
  as_long = part_long objects' s long' ∙ sym (part_long objects s long)

  alike : (p : Option Object → Bool) → ((i : ℕ) → i < places s → p (get_or objects' (base_of s + i) None) ≡ p (get_or objects (base_of s + i) None))
      → (k : ℕ) → k < length (part_of objects s) → p (get_or (part_of objects' s) k None) ≡ p (get_or (part_of objects s) k None)
  alike p h k m =
      let l : k < places s = omega (arith, part_long objects s long) in
      ap p (part_get objects' s k l) ∙ h k l ∙ sym (ap p (part_get objects s k l))

  -- a name that its share's places tell alike lies where it was
  pub place_like : (n : ℕ) → ((i : ℕ) → i < places s → is_numbered n (get_or objects' (base_of s + i) None) ≡ is_numbered n (get_or objects (base_of s + i) None))
      → place_of objects' s n ≡ place_of objects s n
  place_like n h = ap (placed s) (position_like (is_numbered n) None (part_of objects s) (part_of objects' s) as_long (alike (is_numbered n) h))

  -- and a share whose places are in use alike has as many living
  pub living_like : ((i : ℕ) → i < places s → is_some (get_or objects' (base_of s + i) None) ≡ is_some (get_or objects (base_of s + i) None)) → living_of objects' s ≡ living_of objects s
  unfolding living_of
  living_like h = count_like is_some None (part_of objects s) (part_of objects' s) as_long (alike is_some h)
