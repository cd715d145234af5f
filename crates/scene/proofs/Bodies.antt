-- Objects and their lists.
use Rattle.std.proofs.Common.{◌≡◌, ℕ, ◌+◌, ◌*◌, ◌<◌, ◌≤◌, true, false, List, length, get_or, set, Some, None, Option, option_map, option_and_then, is_some, sym, refl, ap, ◌∙◌, subst, inl, inr, ⊎_elim, arith}
use Rattle.std.proofs.lemmas.Bool.{cases_lt}
use Rattle.std.proofs.lemmas.List.{length-take-le, length-drop, set_past}
use Rattle.model.specs.declared.kinds.Name.{Name}
use Rattle.model.specs.declared.kinds.Slot.{Slot}
use Rattle.model.specs.Model.{Body}
use Rattle.std.specs.Option.{option_map_or}
use Rattle.model.specs.Plan.{places, lives, limits, elements_in, most_of, last_filled, list_of}
use Rattle.model.specs.Kalls.{same_name, on_object, lifted, relisted, put_listed}
use Rattle.scene.specs.declared.kinds.Object.{Object}
use Rattle.scene.specs.declared.kinds.Process.{Process}
use Rattle.scene.specs.Places.{base_of, is_numbered, place_of}
use Rattle.scene.specs.Abstract.{frame_of, process_of, object_of, living_of, list_at, body_at}
use Rattle.scene.proofs.Windows.{window_set, window_other}
use Rattle.scene.proofs.Places.{found, named, same_number, shares}
use Rattle.scene.proofs.Changed.{at_name, name_other}

pub list_set : (slots : List Slot) (p i : ℕ) (v : Slot) → i < 8 → list_at (set slots (8 * p + i) v) p ≡ set (list_at slots p) i v
unfolding list_at
list_set slots p i v h = window_set slots (8 * p) 8 v i h

pub list_other : (slots : List Slot) (p q i : ℕ) (v : Slot) → i < 8 → (q ≡ p → ⊥) → list_at (set slots (8 * p + i) v) q ≡ list_at slots q
unfolding list_at
list_other slots p q i v h ne = window_other slots (8 * q) 8 v (8 * p + i) (⊎_elim (λ (l : p < q). inl (omega arith)) (λ (l : q ≤ p). inr (omega arith)) (cases_lt p q))

pub list_long : (slots : List Slot) (p : ℕ) → 8 * p + 8 ≤ length slots → length (list_at slots p) ≡ 8
unfolding list_at
list_long slots p h = length-take-le 8 _ (omega (arith, length-drop (8 * p) slots))

-- where the object of a name lies
pub record At (objects : List (Option Object)) (n : Name) (p : ℕ) : Type 0 where
  pub index : ℕ
  pub is : p ≡ base_of n.share + index
  pub within : index < places n.share
  pub numbered : is_numbered n.number (get_or objects p None) ≡ true

pub at : (objects : List (Option Object)) (n : Name) (p : ℕ) → length objects ≡ 160 → Some p ≡ place_of objects n.share n.number → At objects n p
at objects n p long e =
    let f = found objects (is_numbered n.number) n.share p long e in
    record { index = f.index; is = f.is; within = f.within; numbered = f.passes }

pub one_place : (objects : List (Option Object)) (m n : Name) (p q : ℕ) → At objects m q → At objects n p → same_name m n ≡ false → q ≡ p → ⊥
one_place objects m n p q f g t same =
    name_other m n t
    (shares m.share n.share p (omega (arith, f.is)) (omega (arith, f.is, f.within)) (omega (arith, g.is)) (omega (arith, g.is, g.within)))
    (same_number m.number n.number (get_or objects p None) (subst (λ (x : ℕ). is_numbered m.number (get_or objects x None) ≡ true) same f.numbered) g.numbered)

module _ (objects : List (Option Object)) (slots : List Slot) (n : Name) where
  pub object_none : None ≡ place_of objects n.share n.number → object_of objects slots n ≡ None
  unfolding object_of
  object_none e = ap (option_and_then (body_at objects slots)) (sym e)

  pub object_some : (p : ℕ) → Some p ≡ place_of objects n.share n.number → object_of objects slots n ≡ body_at objects slots p
  unfolding object_of
  object_some p e = ap (option_and_then (body_at objects slots)) (sym e)

-- a name lives where an object of it is found
pub lives_is : (objects : List (Option Object)) (slots : List Slot) (given : List ℕ) (ps : List (Option Process)) (n : Name) (r : Option ℕ) → length objects ≡ 160 → r ≡ place_of objects n.share n.number → lives (frame_of objects slots given ps) n ≡ is_some r
lives_is objects slots given ps n None long e = rw (object_none objects slots n e)
lives_is objects slots given ps n (Some p) long e =
    let a = at objects n p long e in
    let x = named n.number (get_or objects p None) a.numbered in
    rw (object_some objects slots n p e, x.is)

-- tables in which a name lies where it was, with the same object
pub object_kept : (objects objects' : List (Option Object)) (slots slots' : List Slot) (m : Name) → place_of objects' m.share m.number ≡ place_of objects m.share m.number
    → ((q : ℕ) → Some q ≡ place_of objects m.share m.number → body_at objects' slots' q ≡ body_at objects slots q)
    → object_of objects' slots' m ≡ object_of objects slots m
unfolding object_of
object_kept objects objects' slots slots' m same body = ap (option_and_then (body_at objects' slots')) same ∙ go (place_of objects m.share m.number) refl
  where
    go : (o : Option ℕ) → place_of objects m.share m.number ≡ o → option_and_then (body_at objects' slots') o ≡ option_and_then (body_at objects slots) o
    go None e = refl
    go (Some q) e = body q (sym e)

relist : (l l' : List Slot) (g : List Slot → List Slot) (x : Option Object) → l' ≡ g l
    → ◌≡◌ {A = Option Body} (option_map (λ (o : Object). record { kind = o.kind; list = l' }) x) (lifted (relisted g) (option_map (λ (o : Object). record { kind = o.kind; list = l }) x))
relist l l' g None e = refl
relist l l' g (Some o) e = λ j. Some (record { kind = o.kind; list = e j })

-- the slot i of the object's list is put
module _ (objects : List (Option Object)) (slots : List Slot) (given : List ℕ) (ps : List (Option Process)) (n : Name) (i : ℕ) (v : Slot) where
  module _ (p : ℕ) (long : length objects ≡ 160) (is : Some p ≡ place_of objects n.share n.number) (small : i < 8) where
    put_other : (m : Name) → same_name m n ≡ false → object_of objects (set slots (8 * p + i) v) m ≡ object_of objects slots m
    put_other m t =
        object_kept objects objects slots (set slots (8 * p + i) v) m refl
        (λ q e. ap (λ (l : List Slot). option_map (λ (o : Object). record { kind = o.kind; list = l }) (get_or objects q None))
        (list_other slots p q i v small (one_place objects m n p q (at objects m q long e) (at objects n p long is) t)))

    put_here : object_of objects (set slots (8 * p + i) v) n ≡ lifted (relisted (λ l. set l i v)) (object_of objects slots n)
    put_here =
        object_some objects (set slots (8 * p + i) v) n p is
        ∙ relist (list_at slots p) (list_at (set slots (8 * p + i) v) p) (λ l. set l i v) (get_or objects p None) (list_set slots p i v small)
        ∙ sym (ap (lifted (relisted (λ l. set l i v))) (object_some objects slots n p is))

    pub put_frame : frame_of objects (set slots (8 * p + i) v) given ps ≡ put_listed n i v (frame_of objects slots given ps)
    unfolding on_object put_listed
    put_frame = λ j. record {
      object = at_name (lifted (relisted (λ l. set l i v))) n (object_of objects slots) (object_of objects (set slots (8 * p + i) v)) put_here put_other j;
      living = living_of objects;
      given = λ s. get_or given s 0;
      process = process_of ps;
    }

  -- where nothing is put
  kept_frame : object_of objects slots n ≡ lifted (relisted (λ l. set l i v)) (object_of objects slots n) → frame_of objects slots given ps ≡ put_listed n i v (frame_of objects slots given ps)
  unfolding on_object put_listed
  kept_frame same = λ j. record {
    object = at_name (lifted (relisted (λ l. set l i v))) n (object_of objects slots) (object_of objects slots) same (λ m t. refl) j;
    living = living_of objects;
    given = λ s. get_or given s 0;
    process = process_of ps;
  }

  pub put_none : None ≡ place_of objects n.share n.number → frame_of objects slots given ps ≡ put_listed n i v (frame_of objects slots given ps)
  put_none e = let o = object_none objects slots n e in kept_frame (o ∙ sym (ap (lifted (relisted (λ l. set l i v))) o))

  pub put_past : (p : ℕ) → Some p ≡ place_of objects n.share n.number → 8 * p + 8 ≤ length slots → 8 ≤ i → frame_of objects slots given ps ≡ put_listed n i v (frame_of objects slots given ps)
  put_past p is fits far =
      let o = object_some objects slots n p is in
      kept_frame (o ∙ relist (list_at slots p) (list_at slots p) (λ l. set l i v) (get_or objects p None) (sym (set_past (list_at slots p) i v (omega (arith, list_long slots p fits)))) ∙ sym (ap (lifted (relisted (λ l. set l i v))) o))

pub listed : (b : Option Body) → option_map_or (λ (b : Body). last_filled b.list) b 0 ≡ last_filled (list_of b)
unfolding last_filled
listed None = refl
listed (Some b) = refl

pub allowed : (b : Option Body) → option_map_or (λ (b : Body). elements_in (limits b.kind)) b 0 ≡ most_of b
allowed None = refl
allowed (Some b) = refl
