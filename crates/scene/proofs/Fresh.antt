-- Tables that nothing was put in yet.
use Rattle.std.proofs.Common.{◌≡◌, ℕ, zero, suc, ◌-◌, List, get_or, replicate, take, Some, None, Option, All, AllPairs, position, count_by, is_some, option_map, option_and_then, sym, refl, ap, ◌∙◌, subst, ⊎_elim, arith}
use mathlib.Core.Path.{fun_ext}
use Rattle.std.proofs.lemmas.List.{drop-replicate, take-replicate, get_or-replicate, length-replicate}
use Rattle.std.proofs.lemmas.List.Elements.{All-replicate}
use Rattle.std.proofs.lemmas.List.Folds.{sum_by-replicate}
use Rattle.std.proofs.lemmas.Option.{none-some}
use Rattle.model.specs.declared.kinds.Name.{Name}
use Rattle.model.specs.declared.kinds.Slot.{Slot}
use Rattle.model.specs.Plan.{places}
use Rattle.model.specs.SetUp.{bare}
use Rattle.scene.specs.declared.kinds.Object.{Object}
use Rattle.scene.specs.Places.{base_of, part_of, placed, is_numbered, place_of}
use Rattle.scene.specs.Sound.{GivenOut, Bounded, Differ, Distinct}
use Rattle.scene.specs.Tasks.{task_of, index_of}
use Rattle.scene.specs.Abstract.{object_of, living_of, process_of, frame_of}
use Rattle.scene.proofs.Position.{position_none}
use Rattle.scene.proofs.Places.{ends}
use Rattle.scene.proofs.Bodies.{object_none}

part_fresh : (s : ℕ) → part_of (replicate 160 None) s ≡ replicate (places s) None
unfolding part_of
part_fresh s =
    ⊎_elim
    (λ h. ap (take (places s)) (drop-replicate (base_of s) 160 None) ∙ take-replicate (places s) (160 - base_of s) None (omega arith))
    (λ (z : places s ≡ 0). rw z)
    (ends s)

pub fresh_bounded : (given : List ℕ) → Bounded (replicate 160 None) given
fresh_bounded given s = subst (All (GivenOut (get_or given s 0))) (sym (part_fresh s)) (All-replicate (GivenOut (get_or given s 0)) (places s) None (λ o e. absurd (none-some o e)))

none_differ : (k : ℕ) → AllPairs Differ (replicate k None)
none_differ k i j d a b o e = absurd (none-some o (sym (get_or-replicate k i None d (omega (arith, length-replicate {A = Option Object} k None))) ∙ e))

pub fresh_distinct : Distinct (replicate 160 None)
fresh_distinct s = subst (AllPairs Differ) (sym (part_fresh s)) (none_differ (places s))

nowhere : (n : Name) → None ≡ place_of (replicate 160 None) n.share n.number
nowhere n =
    ap (placed n.share) (sym (ap (position (is_numbered n.number)) (part_fresh n.share)
    ∙ position_none (is_numbered n.number) (replicate (places n.share) None) None
    (λ k l. ap (is_numbered n.number) (get_or-replicate (places n.share) k None None (omega (arith, l, length-replicate {A = Option Object} (places n.share) None))))))

none_lives : (s : ℕ) → living_of (replicate 160 None) s ≡ 0
unfolding living_of
none_lives s = ap (count_by is_some) (part_fresh s) ∙ sum_by-replicate _ (places s) None ∙ omega arith

repeated : {A : Type 0} (k i : ℕ) (x : A) → get_or (replicate k x) i x ≡ x
repeated zero i x = refl
repeated (suc k) zero x = refl
repeated (suc k) (suc i) x = repeated k i x

none_enrolled : (p : ℕ) → process_of (replicate 8 None) p ≡ None
unfolding process_of
none_enrolled p = go (index_of p)
  where
    go : (o : Option ℕ) → option_and_then (λ i. option_map task_of (get_or (replicate 8 None) i None)) o ≡ None
    go None = refl
    go (Some i) = ap (option_map task_of) (repeated 8 i None)

pub bare_frame : (slots : List Slot) → frame_of (replicate 160 None) slots (replicate 9 0) (replicate 8 None) ≡ bare
bare_frame slots = λ j. record {
  object = fun_ext {f = object_of (replicate 160 None) slots} {g = λ n. None} (λ n. object_none (replicate 160 None) slots n (nowhere n)) j;
  living = fun_ext {f = living_of (replicate 160 None)} {g = λ s. 0} none_lives j;
  given = fun_ext {f = λ s. get_or (replicate 9 0) s 0} {g = λ s. 0} (λ s. repeated 9 s 0) j;
  process = fun_ext {f = process_of (replicate 8 None)} {g = λ p. None} none_enrolled j;
}
