-- A kall is planned before anything changes: a plan reads the scene, and answers a fault or what is to be done.
use Rattle.std.specs.Prelude.{ℕ, zero, suc, ◌+◌, ◌-◌, Bool, true, false, cond, ◌&&◌, ◌||◌, List, [], ◌∷◌, length, Some, None, Ok, Err, Option, Result, ◌==◌, nat_le, nat_lt, slice_index_or}
use Rattle.std.specs.List.{list_all}
use Rattle.model.specs.declared.kinds.Name.{Name}
use Rattle.model.specs.declared.kinds.Cap.{Cap}
use Rattle.model.specs.declared.kinds.Slot.{Slot}
use Rattle.model.specs.declared.kinds.Slot.TheVariants.{Empty, Capability, Template}
use Rattle.model.specs.declared.kinds.Space.{Space}
use Rattle.model.specs.declared.kinds.Limits.{Limits}
use Rattle.model.specs.declared.kinds.Target.{Target}
use Rattle.model.specs.declared.kinds.Site.{Site}
use Rattle.model.specs.declared.kinds.Holder.{Holder}
use Rattle.model.specs.declared.kinds.Holder.TheVariants.{Mine, Listed}
use Rattle.model.specs.declared.signals.Fault.{Fault}
use Rattle.model.specs.declared.signals.Signal.TheVariants.{Sproc, Sstop, Spath, Sindex, Snull, Stempl, Sgone, Srts, Stype, Sfull, Slim, Sroom, Snames, Smask}
use Rattle.model.specs.Signals.{fault}
use Rattle.model.specs.Model.{Body, Task, Frame, Rule, ucnfrts}

infixl 20 ◌>>=◌ ◌>>◌
abbrev pub Plan : Type 0 → Type 0 → Type 0
Plan W A = W → Result A Fault

abbrev pub after : {A B : Type 0} → Result A Fault → (A → Result B Fault) → Result B Fault
after (Ok a) k = k a
after (Err e) k = Err e

abbrev pub ◌>>=◌ : {W A B : Type 0} → Plan W A → (A → Plan W B) → Plan W B
◌>>=◌ m k = λ w. after (m w) (λ a. k a w)

abbrev pub ◌>>◌ : {W A B : Type 0} → Plan W A → Plan W B → Plan W B
◌>>◌ m k = λ w. after (m w) (λ a. k w)

-- the caller is enrolled and not stopped
abbrev pub task_runs : Option Task → Result (Unit {0}) Fault
task_runs None = Err (fault Sproc 0)
task_runs (Some t) = cond t.running (Ok tt) (Err (fault Sstop 0))

-- and it is no process 0
unfoldable pub runs : ℕ → Plan Frame (Unit {0})
runs p f = cond (p == 0) (Err (fault Sproc 0)) (task_runs (f.process p))

-- a mask that is given is a valid code
abbrev pub code_ok : Rule → ℕ → Result (Unit {0}) Fault
code_ok rule c = cond (rule.valid c) (Ok tt) (Err (fault Smask 0))

abbrev pub mask_ok : Rule → Option ℕ → Result (Unit {0}) Fault
mask_ok rule None = Ok tt
mask_ok rule (Some m) = code_ok rule m

-- a path has 1 to 6 indexes
abbrev pub path_ok : ℕ → Result (Unit {0}) Fault
path_ok len = cond (nat_le 1 len && nat_le len 6) (Ok tt) (Err (fault Spath 0))

-- what every kall with a path checks first
unfoldable pub enter : Rule → ℕ → Option ℕ → ℕ → Plan Frame (Unit {0})
enter rule p mask len f = after (runs p f) λ _. after (mask_ok rule mask) λ _. path_ok len

-- what an object's type allows it: 1 DATA has no list, 3 PROCEDURE no data part, 2 UNIVERSAL and user types have both
unfoldable pub limits : ℕ → Result Limits Fault
limits kind =
    cond (kind == 1) (Ok (record { slots = 0; elements = 64 }))
    (cond (kind == 3) (Ok (record { slots = 8; elements = 0 }))
    (cond (kind == 2 || (nat_le 16 kind && nat_le kind 255)) (Ok (record { slots = 8; elements = 64 }))
    (Err (fault Stype 0))))

abbrev pub slots_in : Result Limits Fault → ℕ
slots_in (Ok l) = l.slots
slots_in (Err e) = 0

abbrev pub elements_in : Result Limits Fault → ℕ
elements_in (Ok l) = l.elements
elements_in (Err e) = 0

-- the slots of a list
abbrev pub room : ℕ → ℕ
room kind = slots_in (limits kind)

abbrev pub spaces_of : Option Task → List Space
spaces_of None = []
spaces_of (Some t) = t.spaces

-- a slot of the current name space or of a list, by an index from 0; `at` is the detail of a refusal
abbrev pub top_slot : ℕ → ℕ → List Space → Result Slot Fault
top_slot i at [] = Err (fault Sindex at)
top_slot i at (s ∷ ss) = cond (nat_lt i 12) (Ok (slice_index_or s.slots i Empty)) (Err (fault Sindex at))

abbrev pub body_slot : ℕ → ℕ → Option Body → Result Slot Fault
body_slot i at None = Err (fault Sgone at)
body_slot i at (Some b) = cond (nat_lt i (room b.kind)) (Ok (slice_index_or b.list i Empty)) (Err (fault Sindex at))

abbrev pub own_slot : Frame → ℕ → ℕ → ℕ → Result Slot Fault
own_slot f p i at = top_slot i at (spaces_of (f.process p))

abbrev pub slot_of : Frame → Name → ℕ → ℕ → Result Slot Fault
slot_of f n i at = body_slot i at (f.object n)

abbrev pub slot_in : Frame → ℕ → Holder → ℕ → ℕ → Result Slot Fault
slot_in f p Mine i at = own_slot f p i at
slot_in f p (Listed n) i at = slot_of f n i at

-- and by its index from 1
abbrev pub slot_at : Frame → ℕ → Holder → ℕ → ℕ → Result Slot Fault
slot_at f p h i at = cond (i == 0) (Err (fault Sindex at)) (slot_in f p h (i - 1) at)

-- the site of a slot of the current name space
abbrev pub own_site : ℕ → Site
own_site i = record { holder = Mine; index = i; at = 0 }

-- an empty slot
abbrev pub unfilled : ℕ → Slot → Result (Unit {0}) Fault
unfilled at Empty = Ok tt
unfilled at (Capability c) = Err (fault Sfull at)
unfilled at (Template t) = Err (fault Sfull at)

unfoldable pub vacant : ℕ → Holder → ℕ → ℕ → Plan Frame (Unit {0})
vacant p h i at f = after (slot_at f p h i at) (unfilled at)

-- the code grants each right of a list
abbrev pub grants_all : Rule → ℕ → List ℕ → Bool
grants_all rule r ks = list_all (rule.grants r) ks

-- a held slot: a capability or a template, by its rights code
abbrev pub filled_with : Rule → List ℕ → ℕ → Slot → Result Slot Fault
filled_with rule ks at Empty = Err (fault Snull at)
filled_with rule ks at (Capability c) = cond (grants_all rule c.rights ks) (Ok (Capability c)) (Err (fault Srts at))
filled_with rule ks at (Template t) = cond (grants_all rule t.rights ks) (Ok (Template t)) (Err (fault Srts at))

unfoldable pub held : Rule → List ℕ → ℕ → Holder → ℕ → ℕ → Plan Frame Slot
held rule ks p h i at f = after (slot_at f p h i at) (filled_with rule ks at)

abbrev pub present : Option Body → Bool
present None = false
present (Some b) = true

abbrev pub lives : Frame → Name → Bool
lives f n = present (f.object n)

-- a step, a pretarget or an object target: a capability for a living object
abbrev pub through : Rule → Frame → List ℕ → ℕ → Slot → Result Cap Fault
through rule f ks at Empty = Err (fault Snull at)
through rule f ks at (Template t) = Err (fault Stempl at)
through rule f ks at (Capability c) =
    cond (lives f c.name) (cond (grants_all rule c.rights ks) (Ok c) (Err (fault Srts at))) (Err (fault Sgone at))

unfoldable pub object_at : Rule → List ℕ → ℕ → Holder → ℕ → ℕ → Plan Frame Cap
object_at rule ks p h i at f = after (slot_at f p h i at) (through rule f ks at)

-- what a walk asks before the indexes that are left: of the pretarget if one is left, else of a step
abbrev pub asked_of : List ℕ → List ℕ → List ℕ → List ℕ
asked_of ks ls [] = ls
asked_of ks ls (i ∷ is) = ks

-- from the holder h at the position `at` on; `clear` so far
unfoldable pub go : Rule → List ℕ → List ℕ → ℕ → List ℕ → Holder → ℕ → Bool → Plan Frame Target
go rule ks ls p [] h at clear f = Err (fault Spath 0)
go rule ks ls p (i ∷ []) h at clear f = Ok (record { site = record { holder = h; index = i; at = at }; clear = clear })
go rule ks ls p (i ∷ j ∷ is) h at clear f =
    after (object_at rule (asked_of ks ls is) p h i at f)
    (λ c. go rule ks ls p (j ∷ is) (Listed c.name) (at + 1) (clear && rule.grants c.rights ucnfrts) f)

-- a path followed from its first index: ks is asked of steps, ls of the pretarget
unfoldable pub walk : Rule → List ℕ → List ℕ → ℕ → List ℕ → Plan Frame Target
walk rule ks ls p path f = after (path_ok (length path)) λ _. go rule ks ls p path Mine 1 true f

-- the index of the last filled slot, or 0
abbrev pub longer : Slot → ℕ → ℕ
longer Empty zero = 0
longer (Capability c) zero = 1
longer (Template t) zero = 1
longer s (suc n) = suc (suc n)

unfoldable pub last_filled : List Slot → ℕ
last_filled [] = 0
last_filled (s ∷ l) = longer s (last_filled l)

abbrev pub top_slots : List Space → List Slot
top_slots [] = []
top_slots (s ∷ ss) = s.slots

-- the length of the current name space
unfoldable pub length_of : ℕ → Plan Frame ℕ
length_of p f = Ok (last_filled (top_slots (spaces_of (f.process p))))

-- the length of an object's list
abbrev pub list_of : Option Body → List Slot
list_of None = []
list_of (Some b) = b.list

unfoldable pub list_length : Name → Plan Frame ℕ
list_length n f = Ok (last_filled (list_of (f.object n)))

-- the slot after a list's length, if the list has one
abbrev pub after_length : Option Body → Result ℕ Fault
after_length None = Err (fault Slim 0)
after_length (Some b) = cond (nat_lt (last_filled b.list) (room b.kind)) (Ok (last_filled b.list + 1)) (Err (fault Slim 0))

unfoldable pub next_slot : Name → Plan Frame ℕ
next_slot n f = after_length (f.object n)

-- how many objects of a share may live
abbrev pub places : ℕ → ℕ
places s = cond (s == 0) 32 (cond (nat_lt s 9) 16 0)

-- the number that a new object of the share s gets
unfoldable pub new_number : ℕ → Plan Frame ℕ
new_number s f =
    cond (nat_le (places s) (f.living s)) (Err (fault Sroom 0))
    (cond (nat_le 60000 (f.given s)) (Err (fault Snames 0)) (Ok (f.given s + 1)))

-- the number that a new object with these elements gets
unfoldable pub new_object : {E : Type 0} → ℕ → List E → Plan Frame ℕ
new_object s xs f = cond (nat_le (length xs) 64) (new_number s f) (Err (fault Slim 0))

-- how many elements an object's data part may have
abbrev pub most_of : Option Body → ℕ
most_of None = 0
most_of (Some b) = elements_in (limits b.kind)

unfoldable pub part_limit : Name → Plan Frame ℕ
part_limit n f = Ok (most_of (f.object n))
