-- The tables as the scene that they hold, and as where the elements lie.
use Rattle.std.specs.Prelude.{◌≡◌, ℕ, ◌+◌, ◌*◌, ◌<◌, ◌≤◌, ◌≢◌, cond, List, [], ℤ, length, take, drop, All, HoldsAt, Some, None, Ok, Err, Option, Result, is_some, count_by, option_map, option_and_then, slice_index, slice_index_or}
use Rattle.std.specs.Option.{MatchOption}
use Rattle.std.specs.List.{AllWithin}
use Rattle.scene.specs.declared.kinds.Object.{Object}
use Rattle.scene.specs.declared.kinds.Process.{Process}
use Rattle.scene.specs.declared.tables.Tables.{Tables}
use Rattle.model.specs.declared.kinds.Slot.{Slot}
use Rattle.model.specs.declared.kinds.Slot.TheVariants.{Empty}
use Rattle.model.specs.declared.kinds.Name.{Name}
use Rattle.model.specs.declared.signals.Fault.{Fault}
use Rattle.model.specs.Model.{Frame, Body, Task, World}
use Rattle.model.specs.Plan.{Plan, new_number}
use Rattle.model.specs.Kalls.{Plain, ended, same_name, made, unmade}
use Rattle.model.specs.SetUp.{Change, Sets, living}
use Rattle.scene.specs.declared.kinds.Spot.{Spot}
use Rattle.scene.specs.Places.{part_of, place_of}
use Rattle.scene.specs.Tasks.{task_of, index_of}

-- the eight slots of the object at a place
unfoldable pub list_at : List Slot → ℕ → List Slot
list_at slots p = take 8 (drop (8 * p) slots)

-- the index of the last filled slot, if one is
abbrev pub IsLastFilled : List Slot → Option ℕ → Type 0
IsLastFilled slots r =
    MatchOption r
    (All (λ s. s ≡ Empty) slots)
    (λ i. (i < length slots) × HoldsAt (λ s. s ≢ Empty) slots i × AllWithin (λ s. s ≡ Empty) slots (i + 1) (length slots))

abbrev pub body_at : List (Option Object) → List Slot → ℕ → Option Body
body_at objects slots p = option_map (λ o. record { kind = o.kind; list = list_at slots p }) (slice_index_or objects p None)

unfoldable pub object_of : List (Option Object) → List Slot → Name → Option Body
object_of objects slots n = option_and_then (body_at objects slots) (place_of objects n.share n.number)

-- how many places of a share are in use
unfoldable pub living_of : List (Option Object) → ℕ → ℕ
living_of objects s = count_by is_some (part_of objects s)

unfoldable pub process_of : List (Option Process) → ℕ → Option Task
process_of ps p = option_and_then (λ i. option_map task_of (slice_index_or ps i None)) (index_of p)

abbrev pub frame_of : List (Option Object) → List Slot → List ℕ → List (Option Process) → Frame
frame_of objects slots given ps = record { object = object_of objects slots; living = living_of objects; given = λ s. slice_index given s; process = process_of ps }

abbrev pub frame : Tables → Frame
frame t = frame_of t.objects t.slots t.given t.processes

-- where on the shelf the elements of each name lie: no part of the scene, only what they are read by
unfoldable pub home_of : List (Option Object) → Name → Option ℕ
home_of objects n = option_map (λ p. p + 1) (place_of objects n.share n.number)

abbrev pub homes : Tables → Name → Option ℕ
homes t = home_of t.objects

abbrev pub elements_at : {E : Type 0} → (ℕ → List E) → Option ℕ → List E
elements_at h None = []
elements_at h (Some p) = h p

-- the scene of the tables and of a shelf that holds `h`
abbrev pub world : {E : Type 0} → Tables → (ℕ → List E) → World E
world t h = record { frame = frame t; elements = λ n. elements_at h (homes t n) }

-- a new name's elements lie at a place
unfoldable pub homed : Name → ℕ → (Name → Option ℕ) → Name → Option ℕ
homed n p h = λ m. cond (same_name m n) (Some p) (h m)

-- what making an object answers and does
abbrev pub Makes : ℕ → ℕ → Tables → Tables → Result Spot Fault → Type 0
Makes s kind t t' (Ok m) =
    (Ok m.number ≡ new_number s (frame t)) × (frame t' ≡ made s kind (frame t)) ×
    (homes t' ≡ homed (record { share = s; number = m.number }) m.place (homes t)) × ((n : Name) → Some m.place ≢ homes t n) ×
    (1 ≤ m.place) × (m.place ≤ 160)
Makes s kind t t' (Err e) = (Err e ≡ new_number s (frame t)) × (frame t' ≡ frame t) × (homes t' ≡ homes t)

-- a name's elements lie nowhere any more
unfoldable pub unhomed : Name → (Name → Option ℕ) → Name → Option ℕ
unhomed n h = λ m. cond (same_name m n) None (h m)

-- what ending an object answers and does
abbrev pub Ends : Name → Tables → Tables → Result (Unit {0}) Fault → Type 0
Ends n t t' (Ok x) = (Ok x ≡ living n (frame t)) × (frame t' ≡ unmade n (frame t)) × (homes t' ≡ unhomed n (homes t))
Ends n t t' (Err e) = (Err e ≡ living n (frame t)) × (frame t' ≡ frame t) × (homes t' ≡ homes t)

-- what a step of set-up over the tables answers and does, by its plan
abbrev pub Steps : Tables → Tables → Result ℕ Fault → Plan Frame (Change Frame) → Type 0
Steps t t' r m = Sets r (frame t) (homes t) (frame t') (homes t') (m (frame t))

-- what a kall of the process p answers and does, as the plan m says: over the scene with its elements, or without
abbrev pub DoesAll : {E : Type 0} → ℕ → Plan (World E) (Plain E) → Tables → (ℕ → List E) → Tables → (ℕ → List E) → Result ℤ Fault → Type 0
DoesAll p m t h t' h' r = record { answer = r; after = world t' h' } ≡ ended p (world t h) (m (world t h))

abbrev pub Does : {E : Type 0} → ℕ → Plan Frame (Plain E) → Tables → (ℕ → List E) → Tables → (ℕ → List E) → Result ℤ Fault → Type 0
Does p m = DoesAll p (λ w. m w.frame)
