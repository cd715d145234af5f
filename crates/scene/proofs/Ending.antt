-- An object ends: its place is unused, and every other name is where it was.
use Rattle.std.proofs.Common.{◌≡◌, ℕ, ◌+◌, ◌-◌, ◌<◌, ◌≤◌, ◌≢◌, true, false, cond, eqb, List, length, get_or, set, Some, None, Option, All, AllPairs, position, count_by, is_some, option_map, sym, ap, ◌∙◌, ⊎_elim, arith, get_or-set_other, get_or-set_same}
use Rattle.std.proofs.lemmas.Bool.{cases_eq, cases_lt, cases_Bool, both_ways}
use Rattle.std.proofs.lemmas.Option.{none-some}
use Rattle.std.proofs.lemmas.List.{length-set}
use Rattle.std.proofs.lemmas.List.Elements.{All-set}
use Rattle.std.proofs.lemmas.List.Sums.{sum_by-set}
use Rattle.model.specs.declared.kinds.Name.{Name}
use Rattle.model.specs.declared.kinds.Slot.{Slot}
use Rattle.model.specs.Kalls.{same_name, on_object, on_living, unmade}
use Rattle.scene.specs.declared.kinds.Object.{Object}
use Rattle.scene.specs.declared.kinds.Process.{Process}
use Rattle.scene.specs.Places.{part_of, placed, is_numbered, place_of}
use Rattle.scene.specs.Sound.{GivenOut, Bounded, Differ, Distinct}
use Rattle.scene.specs.Abstract.{frame_of, process_of, object_of, living_of, home_of, unhomed}
use Rattle.scene.proofs.Position.{position_none, all_pairs_set}
use Rattle.scene.proofs.Places.{named, part_long, part_get, part_set, part_other, each_part, place_kept, same_number, not_both}
use Rattle.scene.proofs.Changed.{at_name, at_number, name_other}
use Rattle.scene.proofs.Bodies.{At, at, one_place, object_none, object_kept}

module _ (objects : List (Option Object)) (n : Name) (p : ℕ) (long : length objects ≡ 160) (found : Some p ≡ place_of objects n.share n.number) (distinct : Distinct objects) where
  here : At objects n p
  here = at objects n p long found

  abbrev objects' : List (Option Object)
  objects' = set objects p None

  few : here.index < length (part_of objects n.share)
  few = omega (arith, part_long objects n.share long, here.within)

  numbered : is_numbered n.number (get_or (part_of objects n.share) here.index None) ≡ true
  numbered = ap (is_numbered n.number) (part_get objects n.share here.index here.within ∙ ap (λ (x : ℕ). get_or objects x None) (sym here.is)) ∙ here.numbered

  -- no other place of the share has the number
  alone : (j : ℕ) → j < length (part_of objects n.share) → j ≢ here.index → is_numbered n.number (get_or (part_of objects n.share) j None) ≡ false
  alone j l ne =
      ⊎_elim
      (λ (a : j < here.index).
      ⊎_elim
      (λ t. absurd (both_ways (is_numbered n.number (get_or (part_of objects n.share) here.index None)) (not_both n.number (get_or (part_of objects n.share) j None) (get_or (part_of objects n.share) here.index None) (distinct n.share j here.index None a few) t) numbered))
      (λ t. t)
      (cases_Bool (is_numbered n.number (get_or (part_of objects n.share) j None))))
      (λ (a : here.index ≤ j). not_both n.number (get_or (part_of objects n.share) here.index None) (get_or (part_of objects n.share) j None) (distinct n.share here.index j None (omega arith) l) numbered)
      (cases_lt j here.index)

  place_gone : None ≡ place_of objects' n.share n.number
  place_gone =
      let none : (j : ℕ) → j < length (set (part_of objects n.share) here.index None) → is_numbered n.number (get_or (set (part_of objects n.share) here.index None) j None) ≡ false =
      λ j l.
      ⊎_elim
      (λ (e : j ≡ here.index). rw e (rw (get_or-set_same (part_of objects n.share) here.index None None few)))
      (λ (e : j ≡ here.index → ⊥). rw (get_or-set_other (part_of objects n.share) here.index j None None e) (alone j (omega (arith, l, length-set (part_of objects n.share) here.index None)) e))
      (cases_eq j here.index) in
      ap (placed n.share) (sym (ap (position (is_numbered n.number)) (part_set objects n.share here.index p None here.is here.within)
      ∙ position_none (is_numbered n.number) (set (part_of objects n.share) here.index None) None none))

  -- every other name is where it was
  place_old : (m : Name) → same_name m n ≡ false → place_of objects' m.share m.number ≡ place_of objects m.share m.number
  place_old m t =
      place_kept objects n.share here.index p None here.is here.within m.share m.number
      (λ e.
      ⊎_elim
      (λ u. absurd (name_other m n t e (same_number m.number n.number (get_or objects p None) u here.numbered)))
      (λ u. sym u)
      (cases_Bool (is_numbered m.number (get_or objects p None))))

  pub end_homes : home_of objects' ≡ unhomed n (home_of objects)
  unfolding home_of unhomed
  end_homes =
      at_name (λ _. None) n (home_of objects) (home_of objects')
      (ap (option_map (λ x. x + 1)) (sym place_gone))
      (λ m t. ap (option_map (λ x. x + 1)) (place_old m t))

  end_object : (slots : List Slot) → object_of objects' slots ≡ (λ m. cond (same_name m n) None (object_of objects slots m))
  end_object slots =
      at_name (λ _. None) n (object_of objects slots) (object_of objects' slots)
      (object_none objects' slots n place_gone)
      (λ m t. object_kept objects objects' slots slots m (place_old m t)
      (λ q e. let ne : q ≢ p = one_place objects m n p q (at objects m q long e) here t in
      rw (get_or-set_other objects p q None None ne)))

  end_living : living_of objects' ≡ (λ t. cond (eqb t n.share) (living_of objects t - 1) (living_of objects t))
  unfolding living_of
  end_living =
      at_number (λ (k : ℕ). k - 1) n.share (living_of objects) (living_of objects')
      (let a = named n.number (get_or (part_of objects n.share) here.index None) numbered in
      rw (part_set objects n.share here.index p None here.is here.within)
      (omega (arith, rw a.is at (sum_by-set (λ (x : Option Object). cond (is_some x) 1 0) (part_of objects n.share) here.index None None few))))
      (λ t ne. ap (count_by is_some) (part_other objects n.share here.index p None here.is here.within t ne))

  pub end_bounded : (given : List ℕ) → Bounded objects given → Bounded objects' given
  end_bounded given old =
      each_part objects n.share here.index p None here.is here.within (λ t xs. All (GivenOut (get_or given t 0)) xs)
      (All-set (GivenOut (get_or given n.share 0)) (part_of objects n.share) here.index None (λ o e. absurd (none-some o e)) (old n.share))
      (λ t ne. old t)

  pub end_distinct : Distinct objects'
  end_distinct =
      each_part objects n.share here.index p None here.is here.within (λ t xs. AllPairs Differ xs)
      (all_pairs_set Differ (part_of objects n.share) here.index None (distinct n.share)
      (λ j d a b o e q h. absurd (none-some q h))
      (λ j d a b o e. absurd (none-some o e)))
      (λ t ne. distinct t)

  pub end_frame : (slots : List Slot) (given : List ℕ) (ps : List (Option Process)) → frame_of objects' slots given ps ≡ unmade n (frame_of objects slots given ps)
  unfolding on_object on_living
  end_frame slots given ps = λ j. record { object = end_object slots j; living = end_living j; given = λ s. get_or given s 0; process = process_of ps }
