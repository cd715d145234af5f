-- What a sound plan is: the same to the cast in two scenes that are alike to it, and its answer fits the caller's side.
use Rattle.std.proofs.Common.{◌≡◌, ℕ, ◌≤◌, Bool, true, false, cond, ◌⊎◌, List, [], ◌∷◌, None, Ok, Err, Result, refl, ap, ◌∙◌}
use Rattle.model.specs.declared.kinds.Name.{Name}
use Rattle.model.specs.declared.kinds.Cap.{Cap}
use Rattle.model.specs.declared.kinds.Slot.{Slot}
use Rattle.model.specs.declared.kinds.Slot.TheVariants.{Empty, Capability, Template}
use Rattle.model.specs.declared.kinds.Space.{Space}
use Rattle.model.specs.declared.kinds.Holder.{Holder}
use Rattle.model.specs.declared.kinds.Holder.TheVariants.{Mine, Listed}
use Rattle.model.specs.declared.signals.Fault.{Fault}
use Rattle.model.specs.Model.{Frame, World, Rule, Laws}
use Rattle.model.specs.Plan.{Plan, after}
use Rattle.model.specs.Isolation.{If, Look}

-- Kept: the names that the cast saw at the opening or may make. Gone: names of the house that never live
pub record Setting : Type 1 where
  pub rule : Rule
  pub laws : Laws rule
  pub cast : ℕ → Bool
  pub Kept : Name → Type 0
  pub Gone : Name → Type 0
  pub made : (n : Name) → cast n.share ≡ true → Kept n
  pub unmade : (n : Name) → 1 ≤ n.share → cast n.share ≡ false → ¬ Kept n
  pub house : (n : Name) → 1 ≤ n.share → ¬ Gone n

pub data Level : Type 0 where
  inside outside anything : Level

-- a caller's level, at what it reached by rights that were all unconfined, or not
abbrev pub level : Bool → Bool → Level
level true u = inside
level false true = outside
level false false = anything

abbrev pub Side : Setting → Level → Cap → Type 0
Side S inside c = S.Kept c.name ⊎ S.Gone c.name
Side S outside c = S.Kept c.name → Look S.rule c.rights
Side S anything c = Unit {0}

abbrev pub Fit : Setting → Level → Slot → Type 0
Fit S v Empty = Unit {0}
Fit S v (Capability c) = Side S v c
Fit S v (Template t) = Unit {0}

abbrev pub Fits : Setting → Level → List Slot → Type 0
Fits S v [] = Unit {0}
Fits S v (s ∷ l) = Fit S v s × Fits S v l

abbrev pub FitsSpaces : Setting → Bool → List Space → Type 0
FitsSpaces S b [] = Unit {0}
FitsSpaces S b (sp ∷ l) = Fits S (level b true) sp.slots × FitsSpaces S b l

-- an object that the side b may write
abbrev pub Own : Setting → Bool → Name → Type 0
Own S true n = S.Kept n
Own S false n = ¬ S.Kept n

abbrev pub OwnAt : Setting → Bool → Holder → Type 0
OwnAt S b Mine = Unit {0}
OwnAt S b (Listed n) = Own S b n

-- what is known of a place that was reached, u saying that all rights on the way were unconfined
abbrev pub Near : Setting → Bool → Bool → Holder → Type 0
Near S b u Mine = Unit {0}
Near S true u (Listed n) = S.Kept n
Near S false true (Listed n) = ¬ S.Kept n
Near S false false (Listed n) = Unit {0}

pub record Inv (S : Setting) (w : Frame) : Type 0 where
  pub spaces : (p : ℕ) → If (λ pr. FitsSpaces S (S.cast p) pr.spaces) (w.process p)
  pub lists : (b : Bool) (n : Name) → Own S b n → If (λ o. Fits S (level b true) o.list) (w.object n)
  pub gone : (n : Name) → S.Gone n → w.object n ≡ None

pub record Alike (S : Setting) (v w : Frame) : Type 0 where
  pub process : (p : ℕ) → S.cast p ≡ true → v.process p ≡ w.process p
  pub living : (p : ℕ) → S.cast p ≡ true → v.living p ≡ w.living p
  pub given : (p : ℕ) → S.cast p ≡ true → v.given p ≡ w.given p
  pub object : (n : Name) → S.Kept n → v.object n ≡ w.object n

pub record AlikeAll {E : Type 0} (S : Setting) (v w : World E) : Type 0 where
  pub frame : Alike S v.frame w.frame
  pub elements : (n : Name) → S.Kept n → v.elements n ≡ w.elements n

abbrev pub On : {A : Type 0} → (A → Type 0) → Result A Fault → Type 0
On Q (Ok a) = Q a
On Q (Err e) = Unit {0}

-- a plan of the side b is sound: what it answers has Q; and for the cast two alike scenes give the same answer
pub record Sound {E A : Type 0} (S : Setting) (b : Bool) (m : Plan (World E) A) (Q : A → Type 0) : Type 0 where
  pub good : (w : World E) → Inv S w.frame → On Q (m w)
  pub same : b ≡ true → (v w : World E) → Inv S v.frame → Inv S w.frame → AlikeAll S v w → m v ≡ m w

module _ {E A B : Type 0} {S : Setting} {b : Bool} where
  pub bind : {m : Plan (World E) A} {k : A → Plan (World E) B} {Q : A → Type 0} {R : B → Type 0}
      → Sound S b m Q → ((a : A) → Q a → Sound S b (k a) R) → Sound S b (λ w. after (m w) (λ a. k a w)) R
  bind {m} {k} {Q} {R} h f =
      record {
        good = λ w i. well w i (m w) (h.good w i);
        same = λ t v w i j a. ap (λ r. after r (λ x. k x v)) (h.same t v w i j a) ∙ also t v w i j a (m w) (h.good w j);
      }
    where
      well : (w : World E) → Inv S w.frame → (r : Result A Fault) → On Q r → On R (after r (λ a. k a w))
      well w i (Ok a) q = (f a q).good w i
      well w i (Err e) q = tt

      also : b ≡ true → (v w : World E) → Inv S v.frame → Inv S w.frame → AlikeAll S v w → (r : Result A Fault) → On Q r
          → after r (λ x. k x v) ≡ after r (λ x. k x w)
      also t v w i j a (Ok x) q = (f x q).same t v w i j a
      also t v w i j a (Err e) q = refl

module _ {E : Type 0} {S : Setting} {b : Bool} where
  pub pure : {A : Type 0} {Q : A → Type 0} (r : Result A Fault) → On Q r → Sound {E = E} S b (λ _. r) Q
  pure r q = record { good = λ w i. q; same = λ t v w i j a. refl }

  pub branch : {A : Type 0} {m k : Plan (World E) A} {Q : A → Type 0} (c : Bool) → Sound S b m Q → Sound S b k Q → Sound S b (λ w. cond c (m w) (k w)) Q
  branch true h f = h
  branch false h f = f

  -- less is known of the answer
  pub weaken : {A : Type 0} {m : Plan (World E) A} {Q R : A → Type 0} → Sound S b m Q → ((a : A) → Q a → R a) → Sound S b m R
  weaken {A} {m} {Q} {R} h f = record { good = λ w i. go (m w) (h.good w i); same = h.same }
    where
      go : (r : Result A Fault) → On Q r → On R r
      go (Ok a) q = f a q
      go (Err e) q = tt
