-- What edits keep: the invariant, and what the cast sees.
use Rattle.std.proofs.Common.{◌≡◌, ℕ, ◌+◌, ◌-◌, ◌≤◌, Bool, true, false, cond, ◌&&◌, eqb, ltb, List, [], ◌∷◌, set, Some, None, Option, sym, refl, ap, ◌∙◌, subst, eqb→eq}
use mathlib.Core.Bool.{false≢true}
use Rattle.model.specs.declared.kinds.Name.{Name}
use Rattle.model.specs.declared.kinds.Slot.{Slot}
use Rattle.model.specs.declared.kinds.Space.{Space}
use Rattle.model.specs.declared.kinds.Holder.TheVariants.{Mine, Listed}
use Rattle.model.specs.Model.{Body, Task, Frame, World}
use Rattle.model.specs.Isolation.{If}
use Rattle.model.specs.Kalls.{
  same_name,
  on_object,
  on_living,
  on_given,
  on_process,
  lifted,
  put_top,
  respaced,
  relisted,
  put_own,
  put_listed,
  fresh,
  refilled,
  Edit,
  put,
  make,
  apply,
  apply_all,
  fill,
  finish,
}
use Rattle.model.specs.Kalls.{next as next_name}
use Rattle.model.proofs.Safe.{Setting, level, Fit, Fits, FitsSpaces, Own, OwnAt, Inv, Alike, AlikeAll}
use Rattle.model.proofs.Views.{fits_set, fits_empty}

-- a test of two numbers, or of two names, each way
pub by_eq {ℓ} : (M : Bool → Type ℓ) (m n : ℕ) → (m ≡ n → M true) → M false → M (eqb m n)
by_eq M m n f g = go (eqb m n) refl
  where
    go : (c : Bool) → eqb m n ≡ c → M c
    go true e = f (eqb→eq m n (rw e tt))
    go false e = g

pub by_name {ℓ} : (M : Bool → Type ℓ) (m n : Name) → (m ≡ n → M true) → M false → M (same_name m n)
by_name M m n f g = by_eq (λ c. M (c && eqb m.number n.number)) m.share n.share (λ p. by_eq M m.number n.number (λ q. f (λ i. record { share = p i; number = q i })) g) g

own_one : (S : Setting) (n : Name) (b c : Bool) → Own S b n → Own S c n → b ≡ c
own_one S n true true h k = refl
own_one S n true false h k = absurd (k h)
own_one S n false true h k = absurd (h k)
own_one S n false false h k = refl

module _ (S : Setting) where
  fits_put : (b : Bool) (i : ℕ) (s : Slot) (l : List Space) → Fit S (level b true) s → FitsSpaces S b l → FitsSpaces S b (put_top i s l)
  fits_put b i s [] f h = tt
  fits_put b i s (sp ∷ l) f h = test (ltb i 12)
    where
      test : (x : Bool) → FitsSpaces S b (cond x (record { slots = set sp.slots i s; back = sp.back } ∷ l) (sp ∷ l))
      test true = (fits_set S (level b true) sp.slots i s h.0 f, h.1)
      test false = h

  -- a new name of the caller's own share
  pub own_new : (b : Bool) (p k : ℕ) → S.cast p ≡ b → 1 ≤ p → Own S b (record { share = p; number = k })
  own_new true p k c h = S.made (record { share = p; number = k }) c
  own_new false p k c h = S.unmade (record { share = p; number = k }) h c

  pub alike_self : (w : Frame) → Alike S w w
  alike_self w = record { process = λ p c. refl; living = λ p c. refl; given = λ p c. refl; object = λ n k. refl }

  pub alike_sym : {v w : Frame} → Alike S v w → Alike S w v
  alike_sym a =
      record {
        process = λ p c. sym (a.process p c);
        living = λ p c. sym (a.living p c);
        given = λ p c. sym (a.given p c);
        object = λ n k. sym (a.object n k);
      }

  pub alike_trans : {u v w : Frame} → Alike S u v → Alike S v w → Alike S u w
  alike_trans a b =
      record {
        process = λ p c. a.process p c ∙ b.process p c;
        living = λ p c. a.living p c ∙ b.living p c;
        given = λ p c. a.given p c ∙ b.given p c;
        object = λ n k. a.object n k ∙ b.object n k;
      }

  -- the changes, each: it keeps the invariant; done in two alike frames it leaves them alike; of the others it leaves the frame alike
  module _ (p : ℕ) (g : Option Task → Option Task) where
    process_inv : (b : Bool) → S.cast p ≡ b
        → ((o : Option Task) → If (λ pr. FitsSpaces S b pr.spaces) o → If (λ pr. FitsSpaces S b pr.spaces) (g o))
        → (w : Frame) → Inv S w → Inv S (on_process p g w)
    unfolding on_process
    process_inv b c h w i =
        record {
          spaces = λ q. by_eq
              (λ x. If (λ pr. FitsSpaces S (S.cast q) pr.spaces) (cond x (g (w.process q)) (w.process q)))
              q p
              (λ e. let cq : S.cast q ≡ b = ap S.cast e ∙ c in
              subst (λ x. If (λ pr. FitsSpaces S x pr.spaces) (g (w.process q))) (sym cq)
              (h (w.process q) (subst (λ x. If (λ pr. FitsSpaces S x pr.spaces) (w.process q)) cq (i.spaces q))))
              (i.spaces q);
          lists = i.lists;
          gone = i.gone;
        }

    process_alike : {v w : Frame} → Alike S v w → Alike S (on_process p g v) (on_process p g w)
    unfolding on_process
    process_alike a =
        record {
          process = λ q c. ap (λ o. cond (eqb q p) (g o) o) (a.process q c);
          living = a.living;
          given = a.given;
          object = a.object;
        }

    process_quiet : S.cast p ≡ false → (w : Frame) → Alike S (on_process p g w) w
    unfolding on_process
    process_quiet t w =
        record {
          process = λ q c. by_eq
              (λ x. cond x (g (w.process q)) (w.process q) ≡ w.process q)
              q p (λ e. absurd (false≢true (sym t ∙ (ap S.cast (sym e) ∙ c)))) refl;
          living = λ q c. refl;
          given = λ q c. refl;
          object = λ n k. refl;
        }

  module _ (n : Name) (g : Option Body → Option Body) where
    object_inv : (b : Bool) → Own S b n
        → ((o : Option Body) → If (λ o. Fits S (level b true) o.list) o → If (λ o. Fits S (level b true) o.list) (g o))
        → (S.Gone n → g None ≡ None) → (w : Frame) → Inv S w → Inv S (on_object n g w)
    unfolding on_object
    object_inv b m h z w i =
        record {
          spaces = i.spaces;
          lists = λ c k l. by_name
              (λ x. If (λ o. Fits S (level c true) o.list) (cond x (g (w.object k)) (w.object k)))
              k n
              (λ e. subst
              (λ x. If (λ o. Fits S (level x true) o.list) (g (w.object k)))
              (own_one S k b c (subst (Own S b) (sym e) m) l)
              (h (w.object k) (i.lists b k (subst (Own S b) (sym e) m))))
              (i.lists c k l);
          gone = λ k q. by_name
              (λ x. cond x (g (w.object k)) (w.object k) ≡ None)
              k n
              (λ e. ap g (i.gone k q) ∙ z (subst S.Gone e q))
              (i.gone k q);
        }

    object_alike : {v w : Frame} → Alike S v w → Alike S (on_object n g v) (on_object n g w)
    unfolding on_object
    object_alike a =
        record {
          process = a.process;
          living = a.living;
          given = a.given;
          object = λ k q. ap (λ o. cond (same_name k n) (g o) o) (a.object k q);
        }

    object_quiet : Own S false n → (w : Frame) → Alike S (on_object n g w) w
    unfolding on_object
    object_quiet m w =
        record {
          process = λ q c. refl;
          living = λ q c. refl;
          given = λ q c. refl;
          object = λ k q. by_name
              (λ x. cond x (g (w.object k)) (w.object k) ≡ w.object k)
              k n (λ e. absurd (m (subst S.Kept e q))) refl;
        }

  module _ (s : ℕ) (g : ℕ → ℕ) where
    living_inv : {w : Frame} → Inv S w → Inv S (on_living s g w)
    unfolding on_living
    living_inv i = record { spaces = i.spaces; lists = i.lists; gone = i.gone }

    given_inv : {w : Frame} → Inv S w → Inv S (on_given s g w)
    unfolding on_given
    given_inv i = record { spaces = i.spaces; lists = i.lists; gone = i.gone }

    living_alike : {v w : Frame} → Alike S v w → Alike S (on_living s g v) (on_living s g w)
    unfolding on_living
    living_alike a =
        record { process = a.process; living = λ q c. ap (λ k. cond (eqb q s) (g k) k) (a.living q c); given = a.given; object = a.object }

    given_alike : {v w : Frame} → Alike S v w → Alike S (on_given s g v) (on_given s g w)
    unfolding on_given
    given_alike a =
        record { process = a.process; living = a.living; given = λ q c. ap (λ k. cond (eqb q s) (g k) k) (a.given q c); object = a.object }

    uncounted : (k : ℕ → ℕ) → S.cast s ≡ false → (t : ℕ) → S.cast t ≡ true → cond (eqb t s) (g (k t)) (k t) ≡ k t
    uncounted k d t c =
        by_eq (λ x. cond x (g (k t)) (k t) ≡ k t) t s (λ q. absurd (false≢true (sym d ∙ (ap S.cast (sym q) ∙ c)))) refl

    living_quiet : S.cast s ≡ false → (w : Frame) → Alike S (on_living s g w) w
    unfolding on_living
    living_quiet d w = record { process = λ q c. refl; living = uncounted w.living d; given = λ q c. refl; object = λ n k. refl }

    given_quiet : S.cast s ≡ false → (w : Frame) → Alike S (on_given s g w) w
    unfolding on_given
    given_quiet d w = record { process = λ q c. refl; living = λ q c. refl; given = uncounted w.given d; object = λ n k. refl }

  -- what is not the cast's is of a share outside it
  pub others : (n : Name) → ¬ S.Kept n → S.cast n.share ≡ false
  others n h = go (S.cast n.share) refl
    where
      go : (x : Bool) → S.cast n.share ≡ x → x ≡ false
      go true e = absurd (h (S.made n e))
      go false e = refl

  -- what the side b may do, p being the caller
  abbrev pub Admits : {E : Type 0} → Bool → ℕ → Edit E → Type 0
  Admits b p (put h i s) = OwnAt S b h × Fit S (level b true) s
  Admits b p (make kind xs) = 1 ≤ p
  Admits b p (fill n xs) = Own S b n
  Admits b p (finish n) = Own S b n

  abbrev pub AdmitsAll : {E : Type 0} → Bool → ℕ → List (Edit E) → Type 0
  AdmitsAll b p [] = Unit {0}
  AdmitsAll b p (e ∷ es) = Admits b p e × AdmitsAll b p es

  lifts : {A : Type 0} (F : A → Type 0) (g : A → A) → ((o : A) → F o → F (g o)) → (o : Option A) → If F o → If F (lifted g o)
  lifts F g h None k = tt
  lifts F g h (Some o) k = h o k

module _ {E : Type 0} (S : Setting) where
  pub edit_inv : (b : Bool) (p : ℕ) → S.cast p ≡ b → (e : Edit E) → Admits S b p e → (w : World E) → Inv S w.frame → Inv S (apply p e w).frame
  unfolding put_own put_listed
  edit_inv b p c (put Mine i s) h w v =
      process_inv S p (lifted (respaced (put_top (i - 1) s))) b c
      (lifts S (λ t. FitsSpaces S b t.spaces) (respaced (put_top (i - 1) s)) (λ t k. fits_put S b (i - 1) s t.spaces h.1 k)) w.frame v
  edit_inv b p c (put (Listed n) i s) h w v =
      object_inv S n (lifted (relisted (λ l. set l (i - 1) s))) b h.0
      (lifts S (λ o. Fits S (level b true) o.list) (relisted (λ l. set l (i - 1) s)) (λ o k. fits_set S (level b true) o.list (i - 1) s k h.1))
      (λ _. refl) w.frame v
  edit_inv b p c (make kind xs) h w v =
      living_inv S p (λ k. k + 1) (given_inv S p (λ k. k + 1)
      (object_inv S (next_name p w.frame) (λ o. fresh kind) b (own_new S b p (w.frame.given p + 1) c h)
      (λ o k. fits_empty S (level b true) 8)
      (λ z. absurd (S.house (next_name p w.frame) h z)) w.frame v))
  edit_inv b p c (fill n xs) h w v = v
  edit_inv b p c (finish n) h w v =
      living_inv S n.share (λ k. k - 1) (object_inv S n (λ o. None) b h (λ o k. tt) (λ _. refl) w.frame v)

  refilled_alike : (n : Name) (xs : List E) (v w : Name → List E) → ((m : Name) → S.Kept m → v m ≡ w m)
      → (m : Name) → S.Kept m → refilled n xs v m ≡ refilled n xs w m
  unfolding refilled
  refilled_alike n xs v w h m k = ap (cond (same_name m n) xs) (h m k)

  refilled_quiet : (n : Name) (xs : List E) (w : Name → List E) → ¬ S.Kept n → (m : Name) → S.Kept m → refilled n xs w m ≡ w m
  unfolding refilled
  refilled_quiet n xs w h m k = by_name (λ x. cond x xs (w m) ≡ w m) m n (λ e. absurd (h (subst S.Kept e k))) refl

  pub edit_alike : (p : ℕ) → S.cast p ≡ true → (e : Edit E) → {v w : World E} → AlikeAll S v w → AlikeAll S (apply p e v) (apply p e w)
  unfolding put_own put_listed
  edit_alike p c (put Mine i s) a = record { frame = process_alike S p (lifted (respaced (put_top (i - 1) s))) a.frame; elements = a.elements }
  edit_alike p c (put (Listed n) i s) a = record { frame = object_alike S n (lifted (relisted (λ l. set l (i - 1) s))) a.frame; elements = a.elements }
  edit_alike p c (make kind xs) {v} {w} a =
      record {
        frame = living_alike S p (λ k. k + 1) (given_alike S p (λ k. k + 1)
            (subst (λ k. Alike S (on_object (next_name p v.frame) (λ o. fresh kind) v.frame)
            (on_object (record { share = p; number = k + 1 }) (λ o. fresh kind) w.frame))
            (a.frame.given p c)
            (object_alike S (next_name p v.frame) (λ o. fresh kind) a.frame)));
        elements = subst (λ k. (m : Name) → S.Kept m → refilled (next_name p v.frame) xs v.elements m ≡ refilled (record { share = p; number = k + 1 }) xs w.elements m)
            (a.frame.given p c)
            (refilled_alike (next_name p v.frame) xs v.elements w.elements a.elements);
      }
  edit_alike p c (fill n xs) {v} {w} a =
      record { frame = a.frame; elements = refilled_alike n xs v.elements w.elements a.elements }
  edit_alike p c (finish n) {v} {w} a =
      record {
        frame = living_alike S n.share (λ k. k - 1) (object_alike S n (λ o. None) a.frame);
        elements = refilled_alike n [] v.elements w.elements a.elements;
      }

  pub edit_quiet : (p : ℕ) → S.cast p ≡ false → (e : Edit E) → Admits S false p e → (w : World E) → AlikeAll S (apply p e w) w
  unfolding put_own put_listed
  edit_quiet p c (put Mine i s) h w = record { frame = process_quiet S p (lifted (respaced (put_top (i - 1) s))) c w.frame; elements = λ n k. refl }
  edit_quiet p c (put (Listed n) i s) h w = record { frame = object_quiet S n (lifted (relisted (λ l. set l (i - 1) s))) h.0 w.frame; elements = λ n k. refl }
  edit_quiet p c (make kind xs) h w =
      let n = next_name p w.frame in
      let own : Own S false (next_name p w.frame) = own_new S false p (w.frame.given p + 1) c h in
      let w₁ : Frame = on_object (next_name p w.frame) (λ o. fresh kind) w.frame in
      record {
        frame = alike_trans S (living_quiet S p (λ k. k + 1) c (on_given p (λ k. k + 1) w₁))
            (alike_trans S (given_quiet S p (λ k. k + 1) c w₁) (object_quiet S (next_name p w.frame) (λ o. fresh kind) own w.frame));
        elements = refilled_quiet (next_name p w.frame) xs w.elements own;
      }
  edit_quiet p c (fill n xs) h w = record { frame = alike_self S w.frame; elements = refilled_quiet n xs w.elements h }
  edit_quiet p c (finish n) h w =
      record {
        frame = alike_trans S (living_quiet S n.share (λ k. k - 1) (others S n h) (on_object n (λ o. None) w.frame)) (object_quiet S n (λ o. None) h w.frame);
        elements = refilled_quiet n [] w.elements h;
      }

  -- and so for lists of edits
  pub all_self : (w : World E) → AlikeAll S w w
  all_self w = record { frame = alike_self S w.frame; elements = λ n k. refl }

  pub all_trans : {u v w : World E} → AlikeAll S u v → AlikeAll S v w → AlikeAll S u w
  all_trans a b = record { frame = alike_trans S a.frame b.frame; elements = λ n k. a.elements n k ∙ b.elements n k }

  pub edits_inv : (b : Bool) (p : ℕ) → S.cast p ≡ b → (es : List (Edit E)) → AdmitsAll S b p es → (w : World E) → Inv S w.frame
      → Inv S (apply_all p es w).frame
  edits_inv b p c [] h w g = g
  edits_inv b p c (e ∷ es) h w g = edits_inv b p c es h.1 (apply p e w) (edit_inv b p c e h.0 w g)

  pub edits_alike : (p : ℕ) → S.cast p ≡ true → (es : List (Edit E)) → {v w : World E} → AlikeAll S v w → AlikeAll S (apply_all p es v) (apply_all p es w)
  edits_alike p c [] a = a
  edits_alike p c (e ∷ es) a = edits_alike p c es (edit_alike p c e a)

  pub edits_quiet : (p : ℕ) → S.cast p ≡ false → (es : List (Edit E)) → AdmitsAll S false p es → (w : World E) → AlikeAll S (apply_all p es w) w
  edits_quiet p c [] h w = all_self w
  edits_quiet p c (e ∷ es) h w = all_trans (edits_quiet p c es h.1 (apply p e w)) (edit_quiet p c e h.0 w)
