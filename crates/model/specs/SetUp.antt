-- Setting a scene up: processes are enrolled, house objects made, slots planted.
use Rattle.std.specs.Prelude.{◌≡◌, ℕ, zero, suc, ◌+◌, ◌-◌, ◌≤◌, true, cond, ◌&&◌, List, [], ◌∷◌, map, length, take, replicate, Some, None, Ok, Err, Option, Result, ◌==◌, nat_le}
use Rattle.model.specs.declared.kinds.Name.{Name}
use Rattle.model.specs.declared.kinds.Cap.{Cap}
use Rattle.model.specs.declared.kinds.Form.{Form}
use Rattle.model.specs.declared.kinds.Limits.{Limits}
use Rattle.model.specs.declared.kinds.Owner.{Owner}
use Rattle.model.specs.declared.kinds.Owner.TheVariants.{Process, Object}
use Rattle.model.specs.declared.kinds.Slot.{Slot}
use Rattle.model.specs.declared.kinds.Slot.TheVariants.{Empty, Capability, Template}
use Rattle.model.specs.declared.kinds.Holder.{Holder}
use Rattle.model.specs.declared.kinds.Holder.TheVariants.{Mine, Listed}
use Rattle.model.specs.declared.signals.Fault.{Fault}
use Rattle.model.specs.declared.signals.Signal.TheVariants.{Sproc, Sgone, Slim, Sroom}
use Rattle.model.specs.Signals.{fault}
use Rattle.model.specs.Model.{Body, Task, Frame, World, Rule}
use Rattle.model.specs.Plan.{Plan, after, ◌>>◌, limits, vacant, lives, code_ok, new_object}
use Rattle.model.specs.Kalls.{on_process, put_in, make, apply}
use Rattle.model.specs.Isolation.{Holds, Lists}

-- the answer of a step that is done, and the scene that it leaves
pub record Change (W : Type 0) : Type 0 where
  pub value : ℕ
  pub after : W

-- an empty name space, current from the start
abbrev pub newcomer : Option Task
newcomer = Some (record { running = true; spaces = record { slots = replicate 12 Empty; back = 0 } ∷ [] })

-- the first process that is not enrolled, among k from p on
abbrev pub or_later : Result ℕ Fault → ℕ → Option Task → Result ℕ Fault
or_later later p None = Ok p
or_later later p (Some t) = later

unfoldable pub unenrolled : (ℕ → Option Task) → ℕ → ℕ → Result ℕ Fault
unenrolled process zero p = Err (fault Sroom 0)
unenrolled process (suc k) p = or_later (unenrolled process k (p + 1)) p (process p)

abbrev pub enrol : Plan Frame (Change Frame)
enrol f = after (unenrolled f.process 8 1) λ p. Ok (record { value = p; after = on_process p (λ _. newcomer) f })

-- the count is within the type's greatest length and the buffer
abbrev pub fits : ℕ → ℕ → Limits → Result (Unit {0}) Fault
fits count given l = cond (nat_le count l.elements && nat_le count given) (Ok tt) (Err (fault Slim 0))

-- MAKE: a house object of a type, with the buffer's first elements
abbrev pub furnish : {E : Type 0} → ℕ → ℕ → List E → Plan (World E) (Change (World E))
furnish kind count xs w =
    after (limits kind) λ l.
    after (fits count (length xs) l) λ _.
    after (new_object 0 (take count xs) w.frame) λ n.
    Ok (record { value = n; after = apply 0 (make kind (take count xs)) w })

abbrev pub house : ℕ → Name
house n = record { share = 0; number = n }

-- who owns the slot: a process its only name space, an object its list
abbrev pub holder : Owner → Holder
holder (Process p) = Mine
holder (Object n) = Listed (house n)

abbrev pub caller : Owner → ℕ
caller (Process p) = p
caller (Object n) = 0

abbrev pub enrolled : Option Task → Result (Unit {0}) Fault
enrolled None = Err (fault Sproc 0)
enrolled (Some t) = Ok tt

abbrev pub living : Name → Plan Frame (Unit {0})
living n f = cond (lives f n) (Ok tt) (Err (fault Sgone 0))

unfoldable pub owned : Owner → Plan Frame (Unit {0})
owned (Process p) f = enrolled (f.process p)
owned (Object n) f = living (house n) f

-- a slot of the owner that is empty
abbrev pub free : Owner → ℕ → Plan Frame (Unit {0})
free o i = do
  owned o
  vacant (caller o) (holder o) i 0

-- a slot of the owner is filled
abbrev pub filling : Owner → ℕ → Slot → Frame → Result (Change Frame) Fault
filling o i s f = Ok (record { value = 0; after = put_in (caller o) (holder o) (i - 1) s f })

-- PLANT: a capability for a house object
abbrev pub plant : Rule → Owner → ℕ → ℕ → ℕ → Plan Frame (Change Frame)
plant rule o i n code = do
  free o i
  living (house n)
  λ f. code_ok rule code
  filling o i (Capability (record { name = house n; rights = code }))

-- a type that a template may want: 0 for any, or one that MAKE takes
abbrev pub wanted_ok : ℕ → Result (Unit {0}) Fault
wanted_ok kind = cond (kind == 0) (Ok tt) (after (limits kind) λ _. Ok tt)

abbrev pub codes_ok : Rule → Form → Result (Unit {0}) Fault
codes_ok rule t = after (code_ok rule t.rights) λ _. after (code_ok rule t.check) λ _. code_ok rule t.new

abbrev pub template : Rule → Owner → ℕ → Form → Plan Frame (Change Frame)
template rule o i t = do
  free o i
  λ f. wanted_ok t.wanted
  λ f. codes_ok rule t
  filling o i (Template t)

-- the scene before set-up
abbrev pub bare : Frame
bare = record { object = λ n. None; living = λ s. 0; given = λ s. 0; process = λ p. None }

-- what set-up never does: it makes no object outside the house, and plants no capability but for house objects
abbrev pub presence : Option Body → ℕ
presence None = 0
presence (Some b) = 1

abbrev pub HouseObjects : Frame → Type 0
HouseObjects f = (n : Name) → 1 ≤ n.share → presence (f.object n) ≤ 0

abbrev pub HouseHeld : Frame → Type 0
HouseHeld f = (p : ℕ) (c : Cap) → Holds f p (Capability c) → c.name.share ≤ 0

abbrev pub HouseListed : Frame → Type 0
HouseListed f = (m : Name) (c : Cap) → Lists f m (Capability c) → c.name.share ≤ 0

-- what a step of set-up answers, and what becomes of the scene and of where the elements lie
abbrev pub Sets : {H : Type 0} → Result ℕ Fault → Frame → H → Frame → H → Result (Change Frame) Fault → Type 0
Sets (Ok v) f h f' h' m = (Ok (record { value = v; after = f' }) ≡ m) × (h' ≡ h)
Sets (Err e) f h f' h' m = (Err e ≡ m) × (f' ≡ f) × (h' ≡ h)

-- the same of a step over the scene with its elements
abbrev pub SetsAll : {E : Type 0} → Result ℕ Fault → World E → World E → Result (Change (World E)) Fault → Type 0
SetsAll (Ok v) w w' m = Ok (record { value = v; after = w' }) ≡ m
SetsAll (Err e) w w' m = (Err e ≡ m) × (w' ≡ w)

-- RECKON: how many objects of each share live
abbrev pub reckoning : Frame → List ℕ
reckoning f = map f.living (0 ∷ 1 ∷ 2 ∷ 3 ∷ 4 ∷ 5 ∷ 6 ∷ 7 ∷ 8 ∷ [])

-- what making an object answers, and does to the scene
abbrev pub Creates : {E : Type 0} → ℕ → ℕ → List E → World E → World E → Result ℕ Fault → Type 0
Creates s kind xs w w' (Ok n) = (Ok n ≡ new_object s xs w.frame) × (w' ≡ apply s (make kind xs) w)
Creates s kind xs w w' (Err e) = (Err e ≡ new_object s xs w.frame) × (w' ≡ w)
