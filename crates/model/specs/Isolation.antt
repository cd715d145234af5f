-- Isolation: what processes outside a cast do makes no difference to the cast, and none of them comes to modify what is the cast's.
use Rattle.std.specs.Prelude.{◌≡◌, ℕ, ◌<◌, ◌≤◌, Bool, true, false, cond, ◌⊎◌, ◌↔◌, List, [], ◌∷◌, Some, None, Option}
use Rattle.model.specs.declared.kinds.Name.{Name}
use Rattle.model.specs.declared.kinds.Cap.{Cap}
use Rattle.model.specs.declared.kinds.Slot.{Slot}
use Rattle.model.specs.declared.kinds.Slot.TheVariants.{Capability}
use Rattle.model.specs.declared.kinds.Space.{Space}
use Rattle.model.specs.Model.{Frame, World, Rule, mdfyrts, ucnfrts}
use Rattle.model.specs.Kalls.{Asked, Event, run}

-- F of what is there, if anything is
abbrev pub If : {A : Type 0} → (A → Type 0) → Option A → Type 0
If F None = Unit {0}
If F (Some a) = F a

-- something is there, and F of it
abbrev pub Of : {A : Type 0} → (A → Type 0) → Option A → Type 0
Of F None = ⊥
Of F (Some a) = F a

abbrev pub Has : Slot → List Slot → Type 0
Has s [] = ⊥
Has s (t ∷ l) = (t ≡ s) ⊎ Has s l

abbrev pub HasSpace : Slot → List Space → Type 0
HasSpace s [] = ⊥
HasSpace s (sp ∷ l) = Has s sp.slots ⊎ HasSpace s l

module _ (w : Frame) where
  -- some name space of the process p holds the slot
  abbrev pub Holds : ℕ → Slot → Type 0
  Holds p s = Of (λ pr. HasSpace s pr.spaces) (w.process p)

  -- the list of the object m holds the slot
  abbrev pub Lists : Name → Slot → Type 0
  Lists m s = Of (λ o. Has s o.list) (w.object m)

  abbrev pub Lives : Name → Type 0
  Lives n = Of (λ _. Unit {0}) (w.object n)

-- an object in the cast's sight: a name space of the cast, or an object in its sight, holds a capability for it
pub data Sight (cast : ℕ → Bool) (w : Frame) : Name → Type 0 where
  holding : (p : ℕ) (c : Cap) → cast p ≡ true → Holds w p (Capability c) → Lives w c.name → Sight cast w c.name
  listing : (m : Name) (c : Cap) → Sight cast w m → Lists w m (Capability c) → Lives w c.name → Sight cast w c.name

-- rights that neither modify nor unconfine
abbrev pub Look : Rule → ℕ → Type 0
Look rule r = (rule.grants r mdfyrts ≡ false) × (rule.grants r ucnfrts ≡ false)

-- every capability out of the cast's sight for an object in its sight is look-only
pub record LookedAt (rule : Rule) (cast : ℕ → Bool) (w : Frame) : Type 0 where
  pub held : (p : ℕ) (c : Cap) → cast p ≡ false → Holds w p (Capability c) → Sight cast w c.name → Look rule c.rights
  pub listed : (m : Name) (c : Cap) → ¬ Sight cast w m → Lists w m (Capability c) → Sight cast w c.name → Look rule c.rights

-- two scenes are one to the cast: its name spaces, its sight, and every object in its sight
pub record AlikeTo {E : Type 0} (cast : ℕ → Bool) (v w : World E) : Type 0 where
  pub spaces : (p : ℕ) → cast p ≡ true → v.frame.process p ≡ w.frame.process p
  pub sight : (n : Name) → Sight cast v.frame n ↔ Sight cast w.frame n
  pub objects : (n : Name) → Sight cast v.frame n → v.frame.object n ≡ w.frame.object n
  pub elements : (n : Name) → Sight cast v.frame n → v.elements n ≡ w.elements n

pub record Matches {E : Type 0} (cast : ℕ → Bool) (d e : Event E) : Type 0 where
  pub caller : d.caller ≡ e.caller
  pub kall : d.kall ≡ e.kall
  pub answer : d.answer ≡ e.answer
  pub buffer : d.buffer ≡ e.buffer
  pub after : AlikeTo cast d.world e.world

abbrev pub Match : {E : Type 0} → (ℕ → Bool) → List (Event E) → List (Event E) → Type 0
Match cast [] [] = Unit {0}
Match cast [] (e ∷ es) = ⊥
Match cast (d ∷ ds) [] = ⊥
Match cast (d ∷ ds) (e ∷ es) = Matches cast d e × Match cast ds es

-- the requests of others struck out
abbrev pub struck_out : {E : Type 0} → (ℕ → Bool) → List (Asked E) → List (Asked E)
struck_out cast [] = []
struck_out cast (r ∷ rs) = cond (cast r.caller) (r ∷ struck_out cast rs) (struck_out cast rs)

-- what became of the cast's own requests
abbrev pub of_cast : {E : Type 0} → (ℕ → Bool) → List (Event E) → List (Event E)
of_cast cast [] = []
of_cast cast (e ∷ es) = cond (cast e.caller) (e ∷ of_cast cast es) (of_cast cast es)

-- at the moment w the cast has made the object since the opening w₀: its share gave the number out
abbrev pub MadeSince : (ℕ → Bool) → Frame → Frame → Name → Type 0
MadeSince cast w₀ w n = (cast n.share ≡ true) × (w₀.given n.share < n.number) × (n.number ≤ w.given n.share)

-- at the moment w no name space outside the cast holds a capability that modifies or unconfines what the cast saw at the opening w₀ or has made since
abbrev pub Guarded : Rule → (ℕ → Bool) → Frame → Frame → Type 0
Guarded rule cast w₀ w =
    (q : ℕ) (c : Cap) → cast q ≡ false → Holds w q (Capability c)
    → Sight cast w₀ c.name ⊎ MadeSince cast w₀ w c.name → Look rule c.rights

abbrev pub Always : {E : Type 0} → (Frame → Type 0) → List (Event E) → Type 0
Always F [] = Unit {0}
Always F (e ∷ es) = F e.world.frame × Always F es

-- the promise to one cast, for the scene w at its opening and the requests rs
pub record Isolated {E : Type 0} (rule : Rule) (cast : ℕ → Bool) (w : World E) (rs : List (Asked E)) : Type 0 where
  -- with the requests of others struck out, each of the cast's ends the same
  pub same : Match cast (of_cast cast (run rule rs w)) (run rule (struck_out cast rs) w)
  -- at the opening and at each request's end
  pub opening : Guarded rule cast w.frame w.frame
  pub guarded : Always (Guarded rule cast w.frame) (run rule rs w)

-- the promise to every cast, a set of processes (0 is none)
unfoldable pub Isolates : {E : Type 0} → Rule → World E → List (Asked E) → Type 0
Isolates rule w rs = (cast : ℕ → Bool) → cast 0 ≡ false → LookedAt rule cast w.frame → Isolated rule cast w rs
