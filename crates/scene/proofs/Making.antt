-- A new object at an unused place.
use Rattle.std.proofs.Common.{◌≡◌, ℕ, ◌+◌, ◌-◌, ◌*◌, ◌<◌, ◌≤◌, ◌≢◌, true, false, cond, eqb, List, [], ◌∷◌, length, get_or, set, take, drop, replicate, Some, None, Option, All, AllPairs, position, count_by, is_some, is_none, option_map, sym, refl, ap, ◌∙◌, subst, ap₂, ⊎_elim, arith, get_or-set_other, get_or-set_same}
use Rattle.std.specs.List.{position_or_len}
use Rattle.std.proofs.lemmas.Bool.{eq-eqb, ne_eqb, cases_lt, false≢true}
use Rattle.std.proofs.lemmas.Option.{none-some}
use Rattle.std.proofs.lemmas.List.{length-set, drop-take}
use Rattle.std.proofs.lemmas.Slice.{between-put_mid, take-put_mid_below, drop-put_mid}
use borrow.Rule.Slice.PartMut.{put_mid}
use Rattle.std.proofs.lemmas.List.Elements.{All-set}
use Rattle.std.proofs.lemmas.List.Sums.{sum_by-cons, sum_by-set, count_by-le-length}
use Rattle.model.specs.declared.kinds.Slot.{Slot}
use Rattle.model.specs.declared.kinds.Slot.TheVariants.{Empty}
use Rattle.model.specs.declared.kinds.Name.{Name}
use Rattle.model.specs.Model.{Body}
use Rattle.model.specs.Kalls.{same_name, on_object, on_living, on_given, fresh, made}
use Rattle.scene.specs.declared.kinds.Object.{Object}
use Rattle.scene.specs.declared.kinds.Process.{Process}
use Rattle.model.specs.Plan.{places}
use Rattle.scene.specs.Places.{base_of, part_of, placed, is_numbered, place_of}
use Rattle.scene.specs.Sound.{GivenOut, Bounded, Differ, Distinct}
use Rattle.scene.specs.Abstract.{frame_of, process_of, object_of, living_of, list_at, home_of, homed}
use Rattle.scene.proofs.Position.{position_past, position_at, all_pairs_set}
use Rattle.scene.proofs.Places.{small, part_long, part_get, part_set, part_other, each_part, place_kept, not_above, found}
use Rattle.scene.proofs.Changed.{at_name, at_number, name_other}
use Rattle.scene.proofs.Bodies.{at, object_some, object_kept}

-- the slots of a list that is wiped, and of the others
module _ (slots : List Slot) (p k : ℕ) (eight : k ≡ 8) (fits : 8 * p + 8 ≤ length slots) where
  abbrev wiped : List Slot
  wiped = put_mid (8 * p) k slots (replicate 8 Empty)

  list_wiped : list_at wiped p ≡ replicate 8 Empty
  unfolding list_at
  list_wiped =
      let e : (8 * p + 8) - 8 * p ≡ 8 = omega arith in
      rw e at (between-put_mid (8 * p) k slots (replicate 8 Empty) (8 * p + 8) (omega arith) (sym e))

  list_unwiped : (q : ℕ) → (q ≡ p → ⊥) → list_at wiped q ≡ list_at slots q
  unfolding list_at
  list_unwiped q ne =
      ⊎_elim
      (λ (l : q < p).
      sym (drop-take (8 * q) 8 wiped) ∙ ap (drop (8 * q)) (take-put_mid_below (8 * p) k slots (replicate 8 Empty) (8 * q + 8) (omega arith) (omega arith)) ∙ drop-take (8 * q) 8 slots)
      (λ (l : p ≤ q). ap (take 8) (drop-put_mid (8 * p) k slots (replicate 8 Empty) (8 * q) (omega arith) (omega arith) (sym eight)))
      (cases_lt q p)

abbrev as_body : ℕ → List Slot → Body
as_body k l = record { kind = k; list = l }

some_left : (xs : List (Option Object)) (i : ℕ) → i < length xs → get_or xs i None ≡ None → count_by is_some xs < length xs
some_left xs i l e =
    let o : Option Object = Some (record { number = 0; kind = 0 }) in
    let more = sum_by-set (λ (x : Option Object). cond (is_some x) 1 0) xs i o None l in
    let few = count_by-le-length is_some (set xs i o) in
    omega (arith, rw e at more, few, length-set xs i o)

all_used : (xs : List (Option Object)) → length xs ≤ position_or_len is_none xs → length xs ≤ count_by is_some xs
all_used [] h = omega arith
all_used (None ∷ xs) h = absurd (omega arith)
all_used (Some o ∷ xs) h = let more = all_used xs (omega arith) in omega (arith, more, sum_by-cons (λ (x : Option Object). cond (is_some x) 1 0) (Some o) xs)

pub full : (objects : List (Option Object)) (s : ℕ) → length objects ≡ 160 → None ≡ placed s (position is_none (part_of objects s)) → places s ≤ living_of objects s
unfolding living_of
full objects s long e = go (position is_none (part_of objects s)) refl e
  where
    go : (o : Option ℕ) → position is_none (part_of objects s) ≡ o → None ≡ placed s o → places s ≤ count_by is_some (part_of objects s)
    go None q d = omega (arith, part_long objects s long, all_used (part_of objects s) (position_past is_none (part_of objects s) (sym q)))
    go (Some i) q d = absurd (none-some (base_of s + i) d)

free_is : (x : Option Object) → is_none x ≡ true → x ≡ None
free_is None h = refl
free_is (Some o) h = absurd (false≢true h)

pub record Free (objects : List (Option Object)) (s p : ℕ) : Type 0 where
  pub index : ℕ
  pub is : p ≡ base_of s + index
  pub within : index < places s
  pub free : get_or objects p None ≡ None

pub free_at : (objects : List (Option Object)) (s p : ℕ) → length objects ≡ 160 → Some p ≡ placed s (position is_none (part_of objects s)) → Free objects s p
free_at objects s p long e =
    let f = found objects is_none s p long e in
    record { index = f.index; is = f.is; within = f.within; free = free_is (get_or objects p None) f.passes }

module _ (objects : List (Option Object)) (given : List ℕ) (s p : ℕ) (long : length objects ≡ 160) (f : Free objects s p) where
  free_part : get_or (part_of objects s) f.index None ≡ None
  free_part = part_get objects s f.index f.within ∙ ap (λ (x : ℕ). get_or objects x None) (sym f.is) ∙ f.free

  pub room_left : living_of objects s < places s
  unfolding living_of
  room_left =
      let n = part_long objects s long in
      rw n at (some_left (part_of objects s) f.index (omega (arith, n, f.within)) free_part)

  module _ (k g : ℕ) (is_g : g ≡ get_or given s 0) (bounded : Bounded objects given) where
    abbrev new : Option Object
    new = Some (record { number = g + 1; kind = k })

    abbrev name : Name
    name = record { share = s; number = g + 1 }

    abbrev objects' : List (Option Object)
    objects' = set objects p new

    abbrev given' : List ℕ
    given' = set given s (g + 1)

    few : f.index < length (part_of objects s)
    few = omega (arith, part_long objects s long, f.within)

    below : (j : ℕ) (d : Option Object) → j < length (part_of objects s) → GivenOut g (get_or (part_of objects s) j d)
    below j d l = subst (λ (x : ℕ). GivenOut x (get_or (part_of objects s) j d)) (sym is_g) (bounded s j d l)

    -- the new name is at the place
    place_new : Some p ≡ place_of objects' s (g + 1)
    place_new =
        let here : is_numbered (g + 1) (get_or (set (part_of objects s) f.index new) f.index None) ≡ true = rw (get_or-set_same (part_of objects s) f.index new None few) (eq-eqb (g + 1) (g + 1) refl) in
        let before : (j : ℕ) → j < f.index → is_numbered (g + 1) (get_or (set (part_of objects s) f.index new) j None) ≡ false =
        λ j l. let ne : j ≢ f.index = omega arith in
        rw (get_or-set_other (part_of objects s) f.index j new None ne) (not_above g (get_or (part_of objects s) j None) (below j None (omega (arith, few)))) in
        ap Some f.is
        ∙ ap (placed s) (sym (ap (position (is_numbered (g + 1))) (part_set objects s f.index p new f.is f.within)
        ∙ position_at (is_numbered (g + 1)) (set (part_of objects s) f.index new) f.index None (omega (arith, few, length-set (part_of objects s) f.index new)) here before))

    -- every other name is where it was
    place_old : (m : Name) → same_name m name ≡ false → place_of objects' m.share m.number ≡ place_of objects m.share m.number
    place_old m t =
        place_kept objects s f.index p new f.is f.within m.share m.number
        (λ e. rw f.free (ne_eqb (g + 1) m.number (λ n. name_other m name t e (sym n))))

    away : (m : Name) (q : ℕ) → Some q ≡ place_of objects m.share m.number → q ≡ p → ⊥
    away m q e same =
        let a = at objects m q long e in
        false≢true (ap (is_numbered m.number) (sym f.free ∙ ap (λ (x : ℕ). get_or objects x None) (sym same)) ∙ a.numbered)

    pub unused : (m : Name) → Some (p + 1) ≡ home_of objects m → ⊥
    unfolding home_of
    unused m e = go (place_of objects m.share m.number) refl e
      where
        go : (o : Option ℕ) → place_of objects m.share m.number ≡ o → Some (p + 1) ≡ option_map (λ x. x + 1) o → ⊥
        go None q d = none-some (p + 1) (sym d)
        go (Some x) q d = let y : p + 1 ≡ x + 1 = cc in away m x (sym q) (omega arith)

    pub new_homes : home_of objects' ≡ homed name (p + 1) (home_of objects)
    unfolding home_of homed
    new_homes =
        at_name (λ _. Some (p + 1)) name (home_of objects) (home_of objects')
        (ap (option_map (λ x. x + 1)) (sym place_new))
        (λ m t. ap (option_map (λ x. x + 1)) (place_old m t))

    new_living : living_of objects' ≡ (λ t. cond (eqb t s) (living_of objects t + 1) (living_of objects t))
    unfolding living_of
    new_living =
        at_number (λ (n : ℕ). n + 1) s (living_of objects) (living_of objects')
        (rw (part_set objects s f.index p new f.is f.within) (omega (arith, rw free_part at (sum_by-set (λ (x : Option Object). cond (is_some x) 1 0) (part_of objects s) f.index new None few))))
        (λ t ne. ap (count_by is_some) (part_other objects s f.index p new f.is f.within t ne))

    module _ (wide : length given ≡ 9) where
      given_new : get_or given' s 0 ≡ g + 1
      given_new = get_or-set_same given s (g + 1) 0 (omega (arith, wide, (small s f.index f.within).0))

      new_given : ◌≡◌ {A = ℕ → ℕ} (λ t. get_or given' t 0) (λ t. cond (eqb t s) (get_or given t 0 + 1) (get_or given t 0))
      new_given =
          at_number (λ (n : ℕ). n + 1) s (λ t. get_or given t 0) (λ t. get_or given' t 0)
          (given_new ∙ ap (λ (n : ℕ). n + 1) is_g)
          (λ t ne. get_or-set_other given s t (g + 1) 0 ne)

      pub new_bounded : Bounded objects' given'
      new_bounded =
          each_part objects s f.index p new f.is f.within (λ t xs. All (GivenOut (get_or given' t 0)) xs)
          (All-set (GivenOut (get_or given' s 0)) (part_of objects s) f.index new (λ o e. let n : g + 1 ≡ o.number = cc in (omega (arith, n), omega (arith, given_new, n)))
          (λ j d l o e. let b = below j d l o e in (b.0, omega (arith, given_new, b.1))))
          (λ t ne. subst (λ (x : ℕ). All (GivenOut x) (part_of objects t)) (sym (get_or-set_other given s t (g + 1) 0 ne)) (bounded t))

    pub new_distinct : Distinct objects → Distinct objects'
    new_distinct old =
        each_part objects s f.index p new f.is f.within (λ t xs. AllPairs Differ xs)
        (all_pairs_set Differ (part_of objects s) f.index new (old s)
        (λ j d a b o e q h. let x = (below j d b o e).1 in let n : g + 1 ≡ q.number = cc in omega arith)
        (λ j d a b o e q h. let x = (below j d b q h).1 in let n : g + 1 ≡ o.number = cc in omega arith))
        (λ t ne. old t)

    module _ (slots : List Slot) (l : ℕ) (eight : l ≡ 8) (fits : 8 * p + 8 ≤ length slots) where
      abbrev slots' : List Slot
      slots' = put_mid (8 * p) l slots (replicate 8 Empty)

      new_object : object_of objects' slots' ≡ (λ m. cond (same_name m name) (fresh k) (object_of objects slots m))
      new_object =
          at_name (λ _. fresh k) name (object_of objects slots) (object_of objects' slots')
          (object_some objects' slots' name p place_new
          ∙ ap₂ (λ (x : Option Object) (l : List Slot). option_map (λ (o : Object). as_body o.kind l) x)
          (get_or-set_same objects p new None (omega (arith, long, f.is, (small s f.index f.within).1))) (list_wiped slots p l eight fits))
          (λ m t. object_kept objects objects' slots slots' m (place_old m t)
          (λ q e. ap₂ (λ (x : Option Object) (l : List Slot). option_map (λ (o : Object). as_body o.kind l) x)
          (get_or-set_other objects p q new None (away m q e)) (list_unwiped slots p l eight fits q (away m q e))))

      pub new_frame : length given ≡ 9 → (ps : List (Option Process)) → frame_of objects' slots' given' ps ≡ made s k (frame_of objects slots given ps)
      unfolding on_object on_living on_given
      new_frame wide ps = λ j. record {
        object = (new_object ∙ ap {B = Name → Option Body} (λ (x : ℕ) (m : Name). cond (same_name m (record { share = s; number = x + 1 })) (fresh k) (object_of objects slots m)) is_g) j;
        living = new_living j;
        given = new_given wide j;
        process = process_of ps;
      }
