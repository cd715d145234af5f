-- A new object in the tables and on the shelf is one more object of the scene.
use Rattle.std.proofs.Common.{◌≡◌, ℕ, ◌+◌, ◌<◌, ◌≤◌, Bool, true, false, cond, leb, List, length, IsErrAnd, Some, None, Ok, Err, Option, Result, sym, refl, ap, ◌∙◌, subst, ⊎_elim}
use mathlib.Core.Path.{fun_ext}
use Rattle.std.proofs.lemmas.Bool.{eq-eqb, ne_eqb, le-leb, lt-leb, cases_Bool, and_from}
use Rattle.std.proofs.lemmas.Result.{err_from_is_err_and}
use Rattle.model.specs.declared.kinds.Name.{Name}
use Rattle.model.specs.declared.signals.Fault.{Fault}
use Rattle.model.specs.declared.signals.Signal.TheVariants.{Slim, Sroom, Snames}
use Rattle.model.specs.Signals.{fault}
use Rattle.model.specs.Model.{Frame}
use Rattle.model.specs.Plan.{places, new_number, new_object}
use Rattle.model.specs.Kalls.{same_name, made, refilled, make, apply}
use Rattle.model.specs.SetUp.{Creates}
use Rattle.shelf.specs.Places.{with_place}
use Rattle.scene.specs.declared.tables.Tables.{Tables}
use Rattle.scene.specs.declared.kinds.Spot.{Spot}
use Rattle.scene.specs.Abstract.{frame, homes, homed, elements_at, world, Makes}
use Rattle.scene.specs.Fill.{filled}
use Rattle.scene.proofs.Filling.{not_ok}

-- elements by where they lie, when one more name lies at an unused place
module _ {E : Type 0} (n : Name) (p : ℕ) (xs : List E) (h : ℕ → List E) (lie : Name → Option ℕ) (unused : (m : Name) → Some p ≡ lie m → ⊥) where
  there : (m : Name) (o : Option ℕ) → lie m ≡ o → elements_at (with_place p xs h) o ≡ elements_at h o
  unfolding with_place
  there m None e = refl
  there m (Some q) e = rw (ne_eqb q p (λ same. unused m (sym (e ∙ ap Some same))))

  refills : (λ (m : Name). elements_at (with_place p xs h) (homed n p lie m)) ≡ refilled n xs (λ m. elements_at h (lie m))
  unfolding homed refilled with_place
  refills = fun_ext (λ m. ⊎_elim (λ t. rw t (rw (eq-eqb p p refl))) (λ t. rw t (there m (lie m) refl)) (cases_Bool (same_name m n)))

number_is : (s k : ℕ) (f : Frame) → Ok k ≡ new_number s f → k ≡ f.given s + 1
unfolding new_number
number_is s k f e = go (leb (places s) (f.living s)) (leb 60000 (f.given s)) e
  where
    go : (x y : Bool) → Ok k ≡ cond x (Err (fault Sroom 0)) (cond y (Err (fault Snames 0)) (Ok (f.given s + 1))) → k ≡ f.given s + 1
    go true y q = absurd (not_ok (sym q))
    go false true q = absurd (not_ok (sym q))
    go false false q = cc

module _ {E : Type 0} (t t' : Tables) (h h' : ℕ → List E) (s kind : ℕ) (xs : List E) (few : length xs ≤ 64) where
  fills : (m : Spot) → Makes s kind t t' (Ok m) → filled m.place xs h ≡ Ok (with_place m.place xs h)
  fills m h = rw (and_from (leb 1 m.place) (leb m.place 160) (le-leb 1 m.place h.4) (le-leb m.place 160 h.5), le-leb (length xs) 64 few)

  whole : (m : Spot) → Makes s kind t t' (Ok m) → h' ≡ with_place m.place xs h → world t' h' ≡ apply s (make kind xs) (world t h)
  whole m k on =
      (λ j. record { frame = k.1 j; elements = λ n. elements_at (on j) (k.2 j n) })
      ∙ ap (λ (e : Name → List E). record { frame = made s kind (frame t); elements = e })
      (refills (record { share = s; number = m.number }) m.place xs h (homes t) k.3
      ∙ ap (λ (n : ℕ). refilled (record { share = s; number = n }) xs (λ m. elements_at h (homes t m))) (number_is s m.number (frame t) k.0))

  pub created : (m : Spot) → Makes s kind t t' (Ok m) → Ok h' ≡ filled m.place xs h → Creates s kind xs (world t h) (world t' h') (Ok m.number)
  unfolding new_object
  created m k f =
      let on : h' ≡ with_place m.place xs h = let r : Ok h' ≡ Ok (with_place m.place xs h) = f ∙ fills m k in cc in
      (rw (le-leb (length xs) 64 few) k.0, whole m k on)

  pub not_filled : (m : Spot) (e : Fault) → Makes s kind t t' (Ok m) → Err e ≡ filled m.place xs h → ⊥
  not_filled m e k q = not_ok (q ∙ fills m k)

  pub not_made : (r : Result ℕ Fault) (e : Fault) → IsErrAnd r (λ y. y ≡ e) → Makes s kind t t' (Err e) → h' ≡ h → Creates s kind xs (world t h) (world t' h') r
  unfolding new_object
  not_made r e q k same =
      let p = err_from_is_err_and r q in
      subst (λ (x : Result ℕ Fault). Creates s kind xs (world t h) (world t' h') x) (sym (p.1 ∙ ap Err p.2))
      (rw (le-leb (length xs) 64 few) k.0, λ j. record { frame = k.1 j; elements = λ n. elements_at (same j) (k.2 j n) })

pub over_long : {E : Type 0} (s : ℕ) (xs : List E) (f : Frame) → 64 < length xs → Err (fault Slim 0) ≡ new_object s xs f
unfolding new_object
over_long s xs f l = rw (lt-leb (length xs) 64 l)
