-- What a writing walk ends at lives, and the scene without it.
use Rattle.std.proofs.Common.{◌≡◌, ℕ, Bool, true, false, cond, List, [], ◌∷◌, length, None, Ok, Err, Option, Result, refl, ap, ◌∙◌, ⊎_elim}
use mathlib.Core.Path.{fun_ext}
use Rattle.std.proofs.lemmas.Bool.{cases_Bool}
use Rattle.model.specs.declared.kinds.Name.{Name}
use Rattle.model.specs.declared.kinds.Cap.{Cap}
use Rattle.model.specs.declared.kinds.Target.{Target}
use Rattle.model.specs.declared.kinds.Slot.{Slot}
use Rattle.model.specs.declared.kinds.Slot.TheVariants.{Empty, Capability, Template}
use Rattle.model.specs.declared.signals.Fault.{Fault}
use Rattle.model.specs.declared.signals.Signal.TheVariants.{Srts, Sgone}
use Rattle.model.specs.Signals.{fault}
use Rattle.model.specs.Model.{Frame, Rule, mdfyrts}
use Rattle.model.specs.Plan.{after, lives, grants_all, slot_at, through, object_at, enter, walk}
use Rattle.model.specs.Kalls.{same_name, refilled, unmade, finish, apply, writing, write_at}
use Rattle.model.specs.SetUp.{living}
use Rattle.scene.specs.declared.tables.Tables.{Tables}
use Rattle.scene.specs.Abstract.{frame, homes, unhomed, elements_at, world}

module _ (f : Frame) (c : Cap) where
  through_lives : (r : Rule) (ks : List ℕ) (at : ℕ) (s : Slot) → Ok c ≡ through r f ks at s → lives f c.name ≡ true
  through_lives r ks at Empty e = cc
  through_lives r ks at (Template t) e = cc
  through_lives r ks at (Capability d) e = go (lives f d.name) (grants_all r d.rights ks) refl e
    where
      go : (x y : Bool) → lives f d.name ≡ x → Ok c ≡ cond x (cond y (Ok d) (Err (fault Srts at))) (Err (fault Sgone at)) → lives f c.name ≡ true
      go true true a q = let same : c ≡ d = cc in ap (λ (z : Cap). lives f z.name) same ∙ a
      go true false a q = cc
      go false y a q = cc

  later : {A : Type 0} (m : Result A Fault) (k : A → Result Cap Fault) → ((a : A) → Ok c ≡ k a → lives f c.name ≡ true) → Ok c ≡ after m k → lives f c.name ≡ true
  later (Ok a) k l e = l a e
  later (Err x) k l e = cc

  module _ (r : Rule) (p k : ℕ) (path : List ℕ) where
    abbrev asked : List ℕ
    asked = k ∷ mdfyrts ∷ []

    abbrev end : Target → Result Cap Fault
    end t = object_at r asked p t.site.holder t.site.index t.site.at f

    end_lives : (t : Target) → Ok c ≡ end t → lives f c.name ≡ true
    unfolding object_at
    end_lives t = later (slot_at f p t.site.holder t.site.index t.site.at) (through r f asked t.site.at) (through_lives r asked t.site.at)

    write_lives : Ok c ≡ write_at r p k path f → lives f c.name ≡ true
    write_lives =
        later (enter r p None (length path) f) (λ _. after (walk r writing writing p path f) end)
        (λ _. later (walk r writing writing p path f) end end_lives)

    -- so that it can be ended
    pub no_refusal : (e : Fault) → Ok c ≡ write_at r p k path f → Err e ≡ living c.name f → ⊥
    no_refusal e at q = let never : Err e ≡ Ok tt = q ∙ rw (write_lives at) in cc

module _ {E : Type 0} (n : Name) (h : ℕ → List E) (lie : Name → Option ℕ) where
  refills : (λ (m : Name). elements_at h (unhomed n lie m)) ≡ refilled n [] (λ m. elements_at h (lie m))
  unfolding unhomed refilled
  refills = fun_ext (λ m. ⊎_elim (λ t. rw t) (λ t. rw t) (cases_Bool (same_name m n)))

pub ended_world : {E : Type 0} (p : ℕ) (n : Name) (t t' : Tables) (h : ℕ → List E) → frame t' ≡ unmade n (frame t) → homes t' ≡ unhomed n (homes t)
    → world t' h ≡ apply p (finish n) (world t h)
ended_world p n t t' h a b =
    (λ j. record { frame = a j; elements = λ m. elements_at h (b j m) })
    ∙ ap (λ (e : Name → List _). record { frame = unmade n (frame t); elements = e }) (refills n h (homes t))
