-- What set-up keeps: objects of the house alone, and capabilities for them alone.
use Rattle.std.proofs.Common.{◌≡◌, ℕ, zero, suc, ◌≤◌, Bool, true, false, cond, ltb, ◌⊎◌, List, [], ◌∷◌, set, replicate, Some, None, Option, refl, ap, inl, inr, ⊎_elim, arith}
use Rattle.model.specs.declared.kinds.Name.{Name}
use Rattle.model.specs.declared.kinds.Cap.{Cap}
use Rattle.model.specs.declared.kinds.Form.{Form}
use Rattle.model.specs.declared.kinds.Slot.{Slot}
use Rattle.model.specs.declared.kinds.Slot.TheVariants.{Empty, Capability, Template}
use Rattle.model.specs.declared.kinds.Space.{Space}
use Rattle.model.specs.declared.kinds.Holder.{Holder}
use Rattle.model.specs.declared.kinds.Holder.TheVariants.{Mine, Listed}
use Rattle.model.specs.Model.{Body, Task, Frame}
use Rattle.model.specs.Isolation.{Of, Has, HasSpace, Holds, Lists}
use Rattle.model.specs.Kalls.{same_name, on_object, on_process, on_living, on_given, lifted, put_top, respaced, relisted, put_own, put_listed, put_in, fresh, next, made}
use Rattle.model.specs.SetUp.{HouseObjects, HouseHeld, HouseListed, presence, newcomer, bare}
use Rattle.model.proofs.Edits.{by_eq, by_name}

pub record Opened (f : Frame) : Type 0 where
  pub objects : HouseObjects f
  pub held : HouseHeld f
  pub listed : HouseListed f

absent : (o : Option Body) → presence o ≤ 0 → o ≡ None
absent None h = refl
absent (Some b) h = absurd (omega arith)

module _ {f : Frame} (o : Opened f) where
  pub unmade : (n : Name) → 1 ≤ n.share → f.object n ≡ None
  unmade n h = absent (f.object n) (o.objects n h)

  pub held_house : (p : ℕ) (c : Cap) → Holds f p (Capability c) → c.name.share ≡ 0
  held_house p c h = omega (arith, o.held p c h)

  pub listed_house : (m : Name) (c : Cap) → Lists f m (Capability c) → c.name.share ≡ 0
  listed_house m c h = omega (arith, o.listed m c h)

-- a slot that holds no capability but for a house object
abbrev pub HouseSlot : Slot → Type 0
HouseSlot s = (c : Cap) → s ≡ Capability c → c.name.share ≤ 0

no_cap : (c : Cap) (k : ℕ) → Has (Capability c) (replicate k Empty) → ⊥
no_cap c zero h = h
no_cap c (suc k) (inl e) = let z : ◌≡◌ {A = ℕ} 0 1 = cc in omega arith
no_cap c (suc k) (inr h) = no_cap c k h

pub template_slot : (t : Form) → HouseSlot (Template t)
template_slot t c e = let z : ◌≡◌ {A = ℕ} 0 1 = cc in absurd (omega arith)

pub capability_slot : (x : Cap) → x.name.share ≡ 0 → HouseSlot (Capability x)
capability_slot x h c e = let q : x ≡ c = cc in omega (arith, h, ap (λ (y : Cap). y.name.share) q)

has_set : (l : List Slot) (i : ℕ) (s t : Slot) → Has t (set l i s) → (s ≡ t) ⊎ Has t l
has_set [] i s t h = inr h
has_set (x ∷ l) zero s t (inl e) = inl e
has_set (x ∷ l) zero s t (inr h) = inr (inr h)
has_set (x ∷ l) (suc i) s t (inl e) = inr (inl e)
has_set (x ∷ l) (suc i) s t (inr h) = further (has_set l i s t h)
  where
    further : (s ≡ t) ⊎ Has t l → (s ≡ t) ⊎ Has t (x ∷ l)
    further (inl e) = inl e
    further (inr k) = inr (inr k)

has_put : (l : List Space) (i : ℕ) (s t : Slot) → HasSpace t (put_top i s l) → (s ≡ t) ⊎ HasSpace t l
has_put [] i s t h = inr h
has_put (sp ∷ l) i s t h = test (ltb i 12) h
  where
    first : (s ≡ t) ⊎ Has t sp.slots → (s ≡ t) ⊎ HasSpace t (sp ∷ l)
    first (inl e) = inl e
    first (inr k) = inr (inl k)

    test : (b : Bool) → HasSpace t (cond b (record { slots = set sp.slots i s; back = sp.back } ∷ l) (sp ∷ l)) → (s ≡ t) ⊎ HasSpace t (sp ∷ l)
    test true (inl k) = first (has_set sp.slots i s t k)
    test true (inr k) = inr (inr k)
    test false k = inr k

module _ {f : Frame} (o : Opened f) where
  module _ (s : Slot) (fine : HouseSlot s) (i : ℕ) where
    put_held : (p q : ℕ) (c : Cap) → Holds (put_own p i s f) q (Capability c) → c.name.share ≤ 0
    unfolding put_own on_process
    put_held p q c h = by_eq (λ x. Of (λ pr. HasSpace (Capability c) pr.spaces) (cond x (lifted (respaced (put_top i s)) (f.process q)) (f.process q)) → c.name.share ≤ 0)
        q p (λ _. changed (f.process q) (o.held q c)) (o.held q c) h
      where
        changed : (y : Option Task) → (Of (λ pr. HasSpace (Capability c) pr.spaces) y → c.name.share ≤ 0)
            → Of (λ pr. HasSpace (Capability c) pr.spaces) (lifted (respaced (put_top i s)) y) → c.name.share ≤ 0
        changed None k h = elim h [ ]
        changed (Some t) k h = ⊎_elim (fine c) k (has_put t.spaces i s (Capability c) h)

    put_lists : (n m : Name) (c : Cap) → Lists (put_listed n i s f) m (Capability c) → c.name.share ≤ 0
    unfolding put_listed on_object
    put_lists n m c h = by_name (λ x. Of (λ b. Has (Capability c) b.list) (cond x (lifted (relisted (λ l. set l i s)) (f.object m)) (f.object m)) → c.name.share ≤ 0)
        m n (λ _. changed (f.object m) (o.listed m c)) (o.listed m c) h
      where
        changed : (y : Option Body) → (Of (λ b. Has (Capability c) b.list) y → c.name.share ≤ 0)
            → Of (λ b. Has (Capability c) b.list) (lifted (relisted (λ l. set l i s)) y) → c.name.share ≤ 0
        changed None k h = elim h [ ]
        changed (Some b) k h = ⊎_elim (fine c) k (has_set b.list i s (Capability c) h)

    put_objects : (n m : Name) → 1 ≤ m.share → presence ((put_listed n i s f).object m) ≤ 0
    unfolding put_listed on_object
    put_objects n m h = by_name (λ x. presence (cond x (lifted (relisted (λ l. set l i s)) (f.object m)) (f.object m)) ≤ 0)
        m n (λ _. rw (unmade o m h) (omega arith)) (o.objects m h)

    pub opened_put : (p : ℕ) (h : Holder) → Opened (put_in p h i s f)
    unfolding put_own put_listed on_process on_object
    opened_put p Mine = record { objects = o.objects; held = put_held p; listed = o.listed }
    opened_put p (Listed n) = record { objects = put_objects n; held = o.held; listed = put_lists n }

  pub opened_made : (kind : ℕ) → Opened (made 0 kind f)
  unfolding on_living on_given on_object
  opened_made kind = record { objects = objects; held = o.held; listed = listed }
    where
      objects : (m : Name) → 1 ≤ m.share → presence (cond (same_name m (next 0 f)) (fresh kind) (f.object m)) ≤ 0
      objects m h = by_name (λ x. presence (cond x (fresh kind) (f.object m)) ≤ 0) m (next 0 f)
          (λ e. absurd (omega (arith, ap (λ (n : Name). n.share) e, h))) (o.objects m h)

      listed : (m : Name) (c : Cap) → Of (λ b. Has (Capability c) b.list) (cond (same_name m (next 0 f)) (fresh kind) (f.object m)) → c.name.share ≤ 0
      listed m c h = by_name (λ x. Of (λ b. Has (Capability c) b.list) (cond x (fresh kind) (f.object m)) → c.name.share ≤ 0)
          m (next 0 f) (λ _ k. absurd (no_cap c 8 k)) (o.listed m c) h

  pub opened_enrolled : (p : ℕ) → Opened (on_process p (λ _. newcomer) f)
  unfolding on_process
  opened_enrolled p =
      record {
        objects = o.objects;
        held = λ q c h. by_eq (λ x. Of (λ pr. HasSpace (Capability c) pr.spaces) (cond x newcomer (f.process q)) → c.name.share ≤ 0)
            q p (λ _ k. newly c k) (o.held q c) h;
        listed = o.listed;
      }
    where
      newly : (c : Cap) → Of (λ pr. HasSpace (Capability c) pr.spaces) newcomer → c.name.share ≤ 0
      newly c (inl h) = absurd (no_cap c 12 h)
      newly c (inr h) = elim h [ ]

pub opened_bare : Opened bare
opened_bare = record { objects = λ n h. omega arith; held = λ p c h. elim h [ ]; listed = λ m c h. elim h [ ] }
