-- Sequences in cells: their lengths, and a write that changes one of them.
use Rattle.std.proofs.Common.{◌≡◌, ℕ, ◌+◌, ◌-◌, ◌<◌, ◌≤◌, Bool, true, false, cond, eqb, List, [], ◌∷◌, ◌++◌, length, get_or, take, drop, set, replicate, Ok, sym, refl, ap, ◌∙◌, ⊎_elim, arith, length-drop, length-take}
use mathlib.Core.Path.{fun_ext}
use Rattle.std.proofs.lemmas.List.{length-set, get_or-take, get_or-drop, get_or-set_same, get_or-set_other, same_lists, take_more, drop-set-add}
use Rattle.std.proofs.Math.Seq.{take-set-lt}
use Rattle.std.proofs.lemmas.Bool.{cases_eq, eq-eqb, ne_eqb}
use Rattle.shelf.specs.Places.{is_place, with_place, element_at, replaced}
use Rattle.shelf.specs.Kept.{Lawful, Moved, lot, laid, kept_cell}
use Rattle.shelf.specs.Held.{held}
use Rattle.shelf.specs.declared.laid.Laid.{Laid}
use Rattle.shelf.specs.declared.place.Place.{Place}
use Rattle.shelf.proofs.Shortness.{zeros}
use Rattle.shelf.proofs.Answering.{place_told, is_place_of, Found, cell_told, element_yes, replaced_yes}

module _ {E : Type 0} where
  length_lot : (xs : List E) (a n : ℕ) → a + n ≤ length xs → length (lot xs a n) ≡ n
  length_lot xs a n h = simp (length-take, length-drop) (omega arith)

  lot_at : (xs : List E) (a n k : ℕ) (d : E) → k < n → get_or (lot xs a n) k d ≡ get_or xs (a + k) d
  lot_at xs a n k d h = get_or-take n (drop a xs) k d h ∙ get_or-drop a xs k d

  -- lots that agree place by place
  lot_same : (xs ys : List E) (a b n : ℕ) → a + n ≤ length xs → b + n ≤ length ys → ((k : ℕ) (d : E) → k < n → get_or ys (b + k) d ≡ get_or xs (a + k) d) → lot ys b n ≡ lot xs a n
  lot_same xs ys a b n fx fy same =
      same_lists (lot ys b n) (lot xs a n) (length_lot ys b n fy ∙ sym (length_lot xs a n fx))
      (λ k d h. let l : k < n = omega (arith, length_lot ys b n fy) in lot_at ys b n k d l ∙ same k d l ∙ sym (lot_at xs a n k d l))

  -- one more at the end
  lot_push : (xs ys : List E) (a b n : ℕ) (x : E) → a + n ≤ length xs → b + (n + 1) ≤ length ys → ((k : ℕ) (d : E) → k < n → get_or ys (b + k) d ≡ get_or xs (a + k) d) → get_or ys (b + n) x ≡ x → lot ys b (n + 1) ≡ lot xs a n ++ (x ∷ [])
  lot_push xs ys a b n x fx fy same last =
      take_more (drop b ys) n x (simp length-drop (omega arith)) ∙ ap (λ (zs : List E). zs ++ (get_or (drop b ys) n x ∷ [])) (lot_same xs ys a b n fx (omega arith) same) ∙
      ap (λ (y : E). lot xs a n ++ (y ∷ [])) (get_or-drop b ys n x ∙ last)

  -- one cell of it written
  lot_set : (xs : List E) (a n k : ℕ) (x : E) → k < n → lot (set xs (a + k) x) a n ≡ set (lot xs a n) k x
  lot_set xs a n k x h = ap (λ (zs : List E). take n zs) (drop-set-add a xs k x) ∙ take-set-lt n (drop a xs) k x h

  laid_at : (s : ℕ → ℕ) (ls : List ℕ) (xs : List E) (p : ℕ) → is_place p ≡ true → laid s ls xs p ≡ lot xs (s p) (get_or ls (p - 1) 0)
  unfolding laid
  laid_at s ls xs p e = rw e

  -- what is laid where all places but p have what they had
  laid_wrote : (s s' : ℕ → ℕ) (ls ls' : List ℕ) (xs ys : List E) (p : ℕ) (zs : List E) → is_place p ≡ true → lot ys (s' p) (get_or ls' (p - 1) 0) ≡ zs →
      ((q : ℕ) → 1 ≤ q → q ≤ 160 → (q ≡ p → ⊥) → lot ys (s' q) (get_or ls' (q - 1) 0) ≡ lot xs (s q) (get_or ls (q - 1) 0)) → laid s' ls' ys ≡ with_place p zs (laid s ls xs)
  unfolding laid with_place
  laid_wrote s s' ls ls' xs ys p zs place here there =
      fun_ext (λ q. ⊎_elim (λ (e : q ≡ p). same q e) (other q) (cases_eq q p))
    where
      same : (q : ℕ) → q ≡ p → cond (is_place q) (lot ys (s' q) (get_or ls' (q - 1) 0)) [] ≡ cond (eqb q p) zs (cond (is_place q) (lot xs (s q) (get_or ls (q - 1) 0)) [])
      same q e = rw (eq-eqb q p e, e, place) here

      by : (q : ℕ) (b : Bool) → is_place q ≡ b → (q ≡ p → ⊥) → cond b (lot ys (s' q) (get_or ls' (q - 1) 0)) [] ≡ cond b (lot xs (s q) (get_or ls (q - 1) 0)) []
      by q true e n = let r = place_told q e in there q r.0 r.1 n
      by q false e n = refl

      other : (q : ℕ) → (q ≡ p → ⊥) → cond (is_place q) (lot ys (s' q) (get_or ls' (q - 1) 0)) [] ≡ cond (eqb q p) zs (cond (is_place q) (lot xs (s q) (get_or ls (q - 1) 0)) [])
      other q n = rw (ne_eqb q p n) (by q (is_place q) refl n)

  -- a shelf begins empty
  pub empty : (s : ℕ → ℕ) (xs : List E) → laid s (replicate 160 0) xs ≡ (λ _. [])
  unfolding laid
  empty s xs = fun_ext (λ p. both p (is_place p))
    where
      both : (p : ℕ) (b : Bool) → cond b (lot xs (s p) (get_or {A = ℕ} (replicate 160 0) (p - 1) 0)) [] ≡ []
      both p true = rw (zeros 160 (p - 1)) refl
      both p false = refl

  -- a cell of a sequence is its element
  pub read_laid : (s : ℕ → ℕ) (ls : List ℕ) (xs : List E) (p : ℕ) → is_place p ≡ true → (k : ℕ) (x : E) → k < get_or ls (p - 1) 0 → x ≡ get_or xs (s p + k) x → x ≡ get_or (laid s ls xs p) k x
  read_laid s ls xs p place k x below is =
      is ∙ sym (ap (λ (zs : List E). get_or zs k x) (laid_at s ls xs p place) ∙ lot_at xs (s p) (get_or ls (p - 1) 0) k x below)

-- a shelf's sequences, where their starts are lawful
module _ {E L : Type 0} (start : List ℕ → ℕ → ℕ) (law : Lawful start) (s : Laid E L) where
  abbrev ls : List ℕ
  ls = s.lengths.table

  abbrev xs : List E
  xs = s.lent.cells.now

  fit : (q : ℕ) → 1 ≤ q → q ≤ 160 → start ls q + get_or ls (q - 1) 0 ≤ length xs
  fit q low high = omega (arith, law.fits ls q s.lengths.short low high, s.lent.enough)

  pub held_size : (p : ℕ) → is_place p ≡ true → length (held start s p) ≡ get_or ls (p - 1) 0
  held_size p e =
      let r = place_told p e in ap length (laid_at (start ls) ls xs p e) ∙ length_lot xs (start ls p) (get_or ls (p - 1) 0) (fit p r.0 r.1)

  pub held_read : (p i a : ℕ) (x : E) → Ok a ≡ kept_cell (start ls) p i ls → x ≡ get_or xs a x → Ok x ≡ element_at p i (held start s)
  held_read p i a x e is =
      let t = cell_told (start ls) ls p i a e in
      element_yes (held start s) ls p (held_size p) (start ls) i a x e
      (read_laid (start ls) ls xs p t.place (i - 1) x t.below (is ∙ ap (λ (b : ℕ). get_or xs b x) t.is))

  pub held_replaced : (p i a : ℕ) (x : E) → Ok a ≡ kept_cell (start ls) p i ls → Ok (laid (start ls) ls (set xs a x)) ≡ replaced p i x (held start s)
  held_replaced p i a x e = replaced_yes (held start s) ls p (held_size p) (start ls) i a x _ e (rw t.is wrote)
    where
      t : Found (start ls) ls p i a
      t = cell_told (start ls) ls p i a e

      wrote : laid (start ls) ls (set xs (start ls p + (i - 1)) x) ≡ with_place p (set (held start s p) (i - 1) x) (held start s)
      wrote =
          let r = place_told p t.place in
          laid_wrote (start ls) (start ls) ls ls xs (set xs (start ls p + (i - 1)) x) p (set (held start s p) (i - 1) x) t.place
          (lot_set xs (start ls p) (get_or ls (p - 1) 0) (i - 1) x t.below ∙ ap (λ (zs : List E). set zs (i - 1) x) (sym (laid_at (start ls) ls xs p t.place)))
          (λ q lq hq n.
          let f = fit q lq hq in
          lot_same xs (set xs (start ls p + (i - 1)) x) (start ls q) (start ls q) (get_or ls (q - 1) 0) f (simp length-set f)
          (λ j d lj. get_or-set_other xs (start ls p + (i - 1)) (start ls q + j) x d (law.apart ls p q j (i - 1) s.lengths.short r.0 r.1 lq hq n lj t.below)))

  -- place p's length becomes v, and the elements move along
  module _ (p : Place) (v : ℕ) (after : Laid E L) (is_new : after.lengths.table ≡ set ls (p.number - 1) v) (moved : Moved start ls after.lengths.table xs after.lent.cells.now) where
    abbrev new : List ℕ
    new = after.lengths.table

    abbrev ys : List E
    ys = after.lent.cells.now

    new_length : get_or new (p.number - 1) 0 ≡ v
    new_length = rw is_new (get_or-set_same ls (p.number - 1) v 0 (omega (arith, p.from_one, p.to_last, s.lengths.whole)))

    same_length : (q : ℕ) → 1 ≤ q → (q ≡ p.number → ⊥) → get_or new (q - 1) 0 ≡ get_or ls (q - 1) 0
    same_length q lq n =
        rw is_new (get_or-set_other ls (p.number - 1) (q - 1) v 0 (λ e. n (omega (arith, e, p.from_one))))

    -- the other sequences are as they were, also after a write that keeps their cells
    others : (zs : List E) → length zs ≡ length ys → ((q j : ℕ) (d : E) → 1 ≤ q → q ≤ 160 → (q ≡ p.number → ⊥) → j < get_or new (q - 1) 0 → get_or zs (start new q + j) d ≡ get_or ys (start new q + j) d) →
        (q : ℕ) → 1 ≤ q → q ≤ 160 → (q ≡ p.number → ⊥) → lot zs (start new q) (get_or new (q - 1) 0) ≡ lot xs (start ls q) (get_or ls (q - 1) 0)
    others zs size kept q lq hq n =
        let e = same_length q lq n in
        let f = law.fits new q after.lengths.short lq hq in
        ap (λ (m : ℕ). lot zs (start new q) m) e ∙
        lot_same xs zs (start ls q) (start new q) (get_or ls (q - 1) 0) (fit q lq hq) (omega (arith, f, e, size, after.lent.enough))
        (λ j d lj. kept q j d lq hq n (omega (arith, e)) ∙ moved.left q j d lq hq lj (omega (arith, e)))

    pub held_cleared : v ≡ 0 → held start after ≡ with_place p.number [] (held start s)
    held_cleared none =
        laid_wrote (start ls) (start new) ls new xs ys p.number [] (is_place_of p.number p.from_one p.to_last)
        (ap (λ (m : ℕ). lot ys (start new p.number) m) (new_length ∙ none))
        (others ys refl (λ q j d lq hq n lj. refl))

    pub held_appended : (at : ℕ) (x : E) → at ≡ start new p.number → v ≡ get_or ls (p.number - 1) 0 + 1 → laid (start new) new (set ys (at + v - 1) x) ≡ with_place p.number (held start s p.number ++ (x ∷ [])) (held start s)
    held_appended at x begins is =
        let n = get_or ls (p.number - 1) 0 in
        let b = start new p.number in
        let place = is_place_of p.number p.from_one p.to_last in
        let room : n < get_or new (p.number - 1) 0 = omega (arith, new_length, is) in
        let f = law.fits new p.number after.lengths.short p.from_one p.to_last in
        let in_cells : b + n < length ys = omega (arith, f, new_length, is, after.lent.enough) in
        let last : at + v - 1 ≡ b + n = omega (arith, begins, is) in
        rw last
        (laid_wrote (start ls) (start new) ls new xs (set ys (b + n) x) p.number (held start s p.number ++ (x ∷ [])) place
        (ap (λ (m : ℕ). lot (set ys (b + n) x) b m) (new_length ∙ is) ∙
        lot_push xs (set ys (b + n) x) (start ls p.number) b n x (fit p.number p.from_one p.to_last) (simp length-set (omega arith))
        (λ k d lk. get_or-set_other ys (b + n) (b + k) x d (omega arith) ∙ moved.left p.number k d p.from_one p.to_last lk (omega (arith, room)))
        (get_or-set_same ys (b + n) x x in_cells) ∙
        ap (λ (zs : List E). zs ++ (x ∷ [])) (sym (laid_at (start ls) ls xs p.number place)))
        (others (set ys (b + n) x) (length-set ys (b + n) x)
        (λ q j d lq hq o lj. get_or-set_other ys (b + n) (start new q + j) x d (law.apart new p.number q j n after.lengths.short p.from_one p.to_last lq hq o lj room))))
