-- How edits change the scene, the kalls, and runs of requests.
use Rattle.std.specs.Prelude.{ℕ, ◌+◌, ◌-◌, Bool, cond, ◌&&◌, List, [], ◌∷◌, ◌++◌, length, take, drop, set, replicate, ℤ, pos, Some, None, Ok, Err, codes, vec_items, Option, Result, ◌==◌, nat_le, nat_lt, slice_index, slice_set}
use Rattle.model.specs.declared.kinds.Name.{Name}
use Rattle.model.specs.declared.kinds.Cap.{Cap}
use Rattle.model.specs.declared.kinds.Slot.{Slot}
use Rattle.model.specs.declared.kinds.Slot.TheVariants.{Empty, Capability, Template}
use Rattle.model.specs.declared.kinds.Site.{Site}
use Rattle.model.specs.declared.kinds.Space.{Space}
use Rattle.model.specs.declared.kinds.Target.{Target}
use Rattle.model.specs.declared.kinds.Change.{Change}
use Rattle.model.specs.declared.kinds.Change.TheVariants.{Taken, Loaded, Moved, Stored}
use Rattle.model.specs.declared.kinds.Holder.{Holder}
use Rattle.model.specs.declared.kinds.Holder.TheVariants.{Mine, Listed}
use Rattle.model.specs.declared.kinds.Kall.{Kall}
use Rattle.model.specs.declared.kinds.Kall.TheVariants.{Lenth, Clenth, Dlenth, Getdata, Load, Pass, Take, Store, Append, Passappend, Delete, Interchange, Data, Univ, Putdata, Addata, Erase}
use Rattle.model.specs.declared.signals.Fault.{Fault}
use Rattle.model.specs.declared.signals.Signal.TheVariants.{Slim}
use Rattle.model.specs.Signals.{fault}
use Rattle.model.specs.Model.{Body, Task, Frame, World, Rule, dltrts, envrts, loadrts, storts, apprts, killrts, getrts, mdfyrts, ucnfrts, putrts, addrrts, eraserts}
use Rattle.model.specs.Plan.{Plan, after, ◌>>=◌, ◌>>◌, runs, enter, length_of, list_length, next_slot, vacant, held, object_at, walk, new_object, part_limit}

abbrev pub same_name : Name → Name → Bool
same_name n m = n.share == m.share && n.number == m.number

unfoldable pub on_object : Name → (Option Body → Option Body) → Frame → Frame
on_object n g f =
    record { object = λ m. cond (same_name m n) (g (f.object m)) (f.object m); living = f.living; given = f.given; process = f.process }

unfoldable pub on_process : ℕ → (Option Task → Option Task) → Frame → Frame
on_process p g f =
    record { object = f.object; living = f.living; given = f.given; process = λ q. cond (q == p) (g (f.process q)) (f.process q) }

unfoldable pub on_living : ℕ → (ℕ → ℕ) → Frame → Frame
on_living s g f =
    record { object = f.object; living = λ t. cond (t == s) (g (f.living t)) (f.living t); given = f.given; process = f.process }

unfoldable pub on_given : ℕ → (ℕ → ℕ) → Frame → Frame
on_given s g f =
    record { object = f.object; living = f.living; given = λ t. cond (t == s) (g (f.given t)) (f.given t); process = f.process }

abbrev pub lifted : {A : Type 0} → (A → A) → Option A → Option A
lifted g None = None
lifted g (Some a) = Some (g a)

-- slots by an index from 0
abbrev pub put_top : ℕ → Slot → List Space → List Space
put_top i s [] = []
put_top i s (sp ∷ l) = cond (nat_lt i 12) (record { slots = slice_set sp.slots i s; back = sp.back } ∷ l) (sp ∷ l)

abbrev pub respaced : (List Space → List Space) → Task → Task
respaced g t = record { running = t.running; spaces = g t.spaces }

abbrev pub relisted : (List Slot → List Slot) → Body → Body
relisted g o = record { kind = o.kind; list = g o.list }

unfoldable pub put_own : ℕ → ℕ → Slot → Frame → Frame
put_own p i s f = on_process p (lifted (respaced (put_top i s))) f

unfoldable pub put_listed : Name → ℕ → Slot → Frame → Frame
put_listed n i s f = on_object n (lifted (relisted (λ l. set l i s))) f

abbrev pub put_in : ℕ → Holder → ℕ → Slot → Frame → Frame
put_in p Mine i s f = put_own p i s f
put_in p (Listed n) i s f = put_listed n i s f

abbrev pub fresh : ℕ → Option Body
fresh kind = Some (record { kind = kind; list = replicate 8 Empty })

-- the name of the share's next object
abbrev pub next : ℕ → Frame → Name
next s f = record { share = s; number = f.given s + 1 }

abbrev pub made : ℕ → ℕ → Frame → Frame
made s kind f = on_living s (λ k. k + 1) (on_given s (λ k. k + 1) (on_object (next s f) (λ o. fresh kind) f))

unfoldable pub refilled : {E : Type 0} → Name → List E → (Name → List E) → Name → List E
refilled n xs h = λ m. cond (same_name m n) xs (h m)

-- an object ends, and its list
abbrev pub unmade : Name → Frame → Frame
unmade n f = on_living n.share (λ k. k - 1) (on_object n (λ o. None) f)

-- what is done to a scene, p being the caller: a slot is put at an index from 1, an object of p's share is made with its elements,
-- an object is given other elements, an object ends
pub data Edit (E : Type 0) : Type 0 where
  put : Holder → ℕ → Slot → Edit E
  make : ℕ → List E → Edit E
  fill : Name → List E → Edit E
  finish : Name → Edit E

abbrev pub apply : {E : Type 0} → ℕ → Edit E → World E → World E
apply p (put h i s) w = record { frame = put_in p h (i - 1) s w.frame; elements = w.elements }
apply p (make kind xs) w = record { frame = made p kind w.frame; elements = refilled (next p w.frame) xs w.elements }
apply p (fill n xs) w = record { frame = w.frame; elements = refilled n xs w.elements }
apply p (finish n) w = record { frame = unmade n w.frame; elements = refilled n [] w.elements }

abbrev pub apply_all : {E : Type 0} → ℕ → List (Edit E) → World E → World E
apply_all p [] w = w
apply_all p (e ∷ es) w = apply_all p es (apply p e w)

-- what a kall comes to: its value, and the edits to be made
pub record Plain (E : Type 0) : Type 0 where
  pub value : ℤ
  pub edits : List (Edit E)

-- and the buffer, where it changes
pub record Outcome (E : Type 0) : Type 0 where
  pub value : ℤ
  pub buffer : Option (List E)
  pub edits : List (Edit E)

-- under a mask, where one is given
abbrev pub masked : Rule → Option ℕ → ℕ → ℕ
masked rule None r = r
masked rule (Some m) r = rule.restrict r m

-- what was reached is stripped unless the way was clear
abbrev pub confined : Rule → Bool → ℕ → ℕ
confined rule clear r = cond clear r (rule.strip r)

abbrev pub recode : Rule → Change → ℕ → ℕ
recode rule (Taken clear) r = confined rule clear r
recode rule (Loaded clear) r = rule.add_delete (confined rule clear r)
recode rule (Moved mask) r = masked rule mask r
recode rule (Stored mask) r = masked rule mask (rule.add_delete r)

abbrev pub on_rights : (ℕ → ℕ) → Slot → Slot
on_rights g Empty = Empty
on_rights g (Capability c) = Capability (record { name = c.name; rights = g c.rights })
on_rights g (Template t) = Template (record { rights = g t.rights; wanted = t.wanted; check = t.check; new = t.new })

unfoldable pub changed : Rule → Change → Slot → Slot
changed rule ch s = on_rights (recode rule ch) s

-- the path is the one index i
abbrev pub is_just : ℕ → List ℕ → Bool
is_just i path = length path == 1 && slice_index path 0 == i

-- what a slot must grant to go where the path leads: a path of one index stays in the name space
abbrev pub by_way : List ℕ → List ℕ → List ℕ → List ℕ
by_way path near far = cond (length path == 1) near far

-- the block of a data part that is asked for, to the part's end at most; `given` is the buffer's length
abbrev pub block : {E : Type 0} → ℕ → ℕ → ℕ → List E → Result (List E) Fault
block disp knt given xs =
    cond ((nat_le 1 disp && nat_le disp (length xs)) && (nat_le 1 knt && nat_le knt given)) (Ok (take knt (drop (disp - 1) xs))) (Err (fault Slim 0))

-- a part with a block of it replaced by the buffer's first knt elements
abbrev pub overwritten : {E : Type 0} → ℕ → ℕ → List E → List E → Result (List E) Fault
overwritten disp knt xs part =
    cond (((nat_le 1 disp && nat_le 1 knt) && nat_le knt (length xs)) && nat_le (disp - 1 + knt) (length part))
    (Ok (take (disp - 1) part ++ (take knt xs ++ drop (disp - 1 + knt) part))) (Err (fault Slim 0))

-- a part with the buffer's first knt elements after it
abbrev pub lengthened : {E : Type 0} → ℕ → ℕ → List E → List E → Result (List E) Fault
lengthened knt most xs part =
    cond ((nat_le 1 knt && nat_le knt (length xs)) && nat_le (length part + knt) most) (Ok (part ++ take knt xs)) (Err (fault Slim 0))

-- a block at the buffer's front, the rest of the buffer as it was
abbrev pub copied : {E : Type 0} → List E → List E → Outcome E
copied xs ys = record { value = pos (length ys); buffer = Some (ys ++ drop (length ys) xs); edits = [] }

-- a writing walk wants these rights of its steps, and of its pretarget where no others are named
abbrev pub writing : List ℕ
writing = loadrts ∷ ucnfrts ∷ []

module _ (rule : Rule) (p : ℕ) where
  -- an object at the end of a reading walk, with the right k
  abbrev pub read_at : ℕ → List ℕ → Plan Frame Cap
  read_at k path = do
    enter rule p None (length path)
    t ← walk rule (loadrts ∷ []) (loadrts ∷ []) p path
    object_at rule (k ∷ []) p t.site.holder t.site.index t.site.at

  -- a slot of the name space, and the site after the length of the list at the path's end
  abbrev pub appended : List ℕ → List ℕ → ℕ → Option ℕ → Plan Frame (Slot × Site)
  appended ks path cur mask = do
    enter rule p mask (length path)
    s ← held rule ks p Mine cur 0
    t ← walk rule writing writing p path
    c ← object_at rule (mdfyrts ∷ apprts ∷ []) p t.site.holder t.site.index t.site.at
    i ← next_slot c.name
    λ _. Ok (s, record { holder = Listed c.name; index = i; at = 0 })

  -- a slot of the name space with the rights ks, and the empty site at the path's end that it goes to
  abbrev pub carried : List ℕ → List ℕ → ℕ → Plan Frame (Slot × Site)
  carried ks path cur = do
    s ← held rule ks p Mine cur 0
    t ← walk rule writing (storts ∷ mdfyrts ∷ []) p path
    vacant p t.site.holder t.site.index t.site.at
    λ _. Ok (s, t.site)

  -- a slot at the path's end with the rights rs, and the target; the slot `new` of the name space is empty
  abbrev pub fetched : List ℕ → List ℕ → List ℕ → ℕ → List ℕ → Plan Frame (Slot × Target)
  fetched ks ls rs new path = do
    enter rule p None (length path)
    vacant p Mine new 0
    t ← walk rule ks ls p path
    s ← held rule rs p t.site.holder t.site.index t.site.at
    λ _. Ok (s, t)

  -- a capability for a new object of the caller's
  abbrev pub whole : ℕ → Option ℕ → Slot
  whole n mask = Capability (record { name = record { share = p; number = n }; rights = masked rule mask rule.full })

  -- an empty site at the path's end
  abbrev pub room_at : List ℕ → Option ℕ → Plan Frame Site
  room_at path mask = do
    enter rule p mask (length path)
    t ← walk rule writing (storts ∷ mdfyrts ∷ []) p path
    vacant p t.site.holder t.site.index t.site.at
    λ _. Ok t.site

  -- an object at the end of an open writing walk, with the rights to modify it and k
  abbrev pub write_at : ℕ → List ℕ → Plan Frame Cap
  write_at k path = do
    enter rule p None (length path)
    t ← walk rule writing writing p path
    object_at rule (k ∷ mdfyrts ∷ []) p t.site.holder t.site.index t.site.at

module _ {E : Type 0} (rule : Rule) (p : ℕ) where
  abbrev pub done : ℤ → List (Edit E) → Plan Frame (Plain E)
  done v es = λ _. Ok (record { value = v; edits = es })

  -- the kalls
  abbrev pub kall_lenth : Plan Frame (Plain E)
  kall_lenth = do
    runs p
    n ← length_of p
    done (pos n) []

  abbrev pub kall_clenth : List ℕ → Plan Frame (Plain E)
  kall_clenth path = do
    c ← read_at rule p loadrts path
    n ← list_length c.name
    done (pos n) []

  abbrev pub kall_dlenth : List ℕ → Plan (World E) (Plain E)
  kall_dlenth path w =
      after (read_at rule p getrts path w.frame) λ c.
      Ok (record { value = pos (length (w.elements c.name)); edits = [] })

  abbrev pub kall_getdata : List ℕ → ℕ → ℕ → List E → Plan (World E) (Outcome E)
  kall_getdata path disp knt xs w =
      after (read_at rule p getrts path w.frame) λ c.
      after (block disp knt (length xs) (w.elements c.name)) λ ys.
      Ok (copied xs ys)

  abbrev pub kall_load : ℕ → List ℕ → Plan Frame (Plain E)
  kall_load new path = do
    a ← fetched rule p (loadrts ∷ []) (loadrts ∷ []) [] new path
    done (pos 0) (put Mine new (changed rule (Loaded a.1.clear) a.0) ∷ [])

  abbrev pub kall_pass : List ℕ → ℕ → Option ℕ → Plan Frame (Plain E)
  kall_pass path cur mask = do
    enter rule p mask (length path)
    a ← carried rule p (by_way path (dltrts ∷ []) (dltrts ∷ envrts ∷ [])) path cur
    done (pos 0) (put a.1.holder a.1.index (changed rule (Moved mask) a.0) ∷ put Mine cur Empty ∷ [])

  abbrev pub kall_take : ℕ → List ℕ → Plan Frame (Plain E)
  kall_take new path = do
    a ← fetched rule p writing (killrts ∷ loadrts ∷ mdfyrts ∷ []) (dltrts ∷ []) new path
    done (pos 0) (put Mine new (changed rule (Taken a.1.clear) a.0) ∷ put a.1.site.holder a.1.site.index Empty ∷ [])

  -- in place, and elsewhere
  abbrev pub store_here : ℕ → Option ℕ → Plan Frame (Plain E)
  store_here cur mask = do
    s ← held rule (dltrts ∷ []) p Mine cur 0
    done (pos 0) (put Mine cur (changed rule (Moved mask) s) ∷ [])

  abbrev pub store_there : List ℕ → ℕ → Option ℕ → Plan Frame (Plain E)
  store_there path cur mask = do
    a ← carried rule p (by_way path [] (envrts ∷ [])) path cur
    done (pos 0) (put a.1.holder a.1.index (changed rule (Stored mask) a.0) ∷ [])

  abbrev pub kall_store : List ℕ → ℕ → Option ℕ → Plan Frame (Plain E)
  kall_store path cur mask = do
    enter rule p mask (length path)
    λ f. cond (is_just cur path) (store_here cur mask f) (store_there path cur mask f)

  -- a slot of the name space goes, changed, after the length of a list; `es` is what else is done
  abbrev pub appending : List ℕ → Change → List (Edit E) → List ℕ → ℕ → Option ℕ → Plan Frame (Plain E)
  appending ks ch es path cur mask = do
    a ← appended rule p ks path cur mask
    done (pos 0) (put a.1.holder a.1.index (changed rule ch a.0) ∷ es)

  abbrev pub kall_append : List ℕ → ℕ → Option ℕ → Plan Frame (Plain E)
  kall_append path cur mask = appending (envrts ∷ []) (Stored mask) [] path cur mask

  abbrev pub kall_passappend : List ℕ → ℕ → Option ℕ → Plan Frame (Plain E)
  kall_passappend path cur mask = appending (envrts ∷ dltrts ∷ []) (Moved mask) (put Mine cur Empty ∷ []) path cur mask

  abbrev pub kall_delete : List ℕ → Plan Frame (Plain E)
  kall_delete path = do
    enter rule p None (length path)
    t ← walk rule writing (mdfyrts ∷ killrts ∷ []) p path
    held rule (dltrts ∷ []) p t.site.holder t.site.index t.site.at
    done (pos 0) (put t.site.holder t.site.index Empty ∷ [])

  abbrev pub kall_interchange : List ℕ → ℕ → Option ℕ → Plan Frame (Plain E)
  kall_interchange path cur mask = do
    enter rule p mask (length path)
    s ← held rule (dltrts ∷ []) p Mine cur 0
    t ← walk rule writing (mdfyrts ∷ killrts ∷ loadrts ∷ storts ∷ []) p path
    r ← held rule (dltrts ∷ []) p t.site.holder t.site.index t.site.at
    done (pos 0) (put Mine cur (changed rule (Taken t.clear) r) ∷ put t.site.holder t.site.index (changed rule (Moved mask) s) ∷ [])

  -- an object is made with these elements, and the capability for it put at a site
  abbrev pub made_at : ℕ → List E → Site → Option ℕ → Plan Frame (Plain E)
  made_at kind xs s mask = do
    n ← new_object p xs
    done (pos 0) (make kind xs ∷ put s.holder s.index (whole rule p n mask) ∷ [])

  -- a new object, at an empty slot
  abbrev pub making : ℕ → List ℕ → Option ℕ → Result (List E) Fault → Plan Frame (Plain E)
  making kind path mask given = do
    s ← room_at rule p path mask
    xs ← λ f. given
    made_at kind xs s mask

  abbrev pub kall_data : List ℕ → ℕ → Option ℕ → List E → Plan Frame (Plain E)
  kall_data path knt mask xs = making 1 path mask (cond (nat_le knt (length xs)) (Ok (take knt xs)) (Err (fault Slim 0)))

  abbrev pub kall_univ : List ℕ → Plan Frame (Plain E)
  kall_univ path = making 2 path None (Ok [])

  abbrev pub kall_putdata : List ℕ → ℕ → ℕ → List E → Plan (World E) (Plain E)
  kall_putdata path disp knt xs w =
      after (write_at rule p putrts path w.frame) λ c.
      after (overwritten disp knt xs (w.elements c.name)) λ ys.
      Ok (record { value = pos 0; edits = fill c.name ys ∷ [] })

  abbrev pub kall_addata : List ℕ → ℕ → List E → Plan (World E) (Plain E)
  kall_addata path knt xs w =
      after (write_at rule p addrrts path w.frame) λ c.
      after (part_limit c.name w.frame) λ most.
      after (lengthened knt most xs (w.elements c.name)) λ ys.
      Ok (record { value = pos 0; edits = fill c.name ys ∷ [] })

  abbrev pub kall_erase : List ℕ → Plan Frame (Plain E)
  kall_erase path = do
    c ← write_at rule p eraserts path
    done (pos 0) (finish c.name ∷ [])

-- a kall's name, as it is printed
abbrev pub kall_name : Kall → List ℕ
kall_name Lenth = codes "LENTH"
kall_name (Clenth path) = codes "CLENTH"
kall_name (Dlenth path) = codes "DLENTH"
kall_name (Getdata k) = codes "GETDATA"
kall_name (Load k) = codes "LOAD"
kall_name (Pass k) = codes "PASS"
kall_name (Take k) = codes "TAKE"
kall_name (Store k) = codes "STORE"
kall_name (Append k) = codes "APPEND"
kall_name (Passappend k) = codes "PASSAPPEND"
kall_name (Delete path) = codes "DELETE"
kall_name (Interchange k) = codes "INTERCHANGE"
kall_name (Data path knt mask) = codes "DATA"
kall_name (Univ path) = codes "UNIV"
kall_name (Putdata k) = codes "PUTDATA"
kall_name (Addata path knt) = codes "ADDATA"
kall_name (Erase path) = codes "ERASE"

-- a kall that leaves the buffer alone
abbrev pub plain : {E : Type 0} → Result (Plain E) Fault → Result (Outcome E) Fault
plain (Ok o) = Ok (record { value = o.value; buffer = None; edits = o.edits })
plain (Err e) = Err e

abbrev pub plan : {E : Type 0} → Rule → ℕ → Kall → List E → Plan (World E) (Outcome E)
plan rule p Lenth xs w = plain (kall_lenth rule p w.frame)
plan rule p (Clenth path) xs w = plain (kall_clenth rule p (vec_items path) w.frame)
plan rule p (Dlenth path) xs w = plain (kall_dlenth rule p (vec_items path) w)
plan rule p (Getdata k) xs w = kall_getdata rule p (vec_items k.path) k.disp k.knt xs w
plan rule p (Load k) xs w = plain (kall_load rule p k.new (vec_items k.path) w.frame)
plan rule p (Pass k) xs w = plain (kall_pass rule p (vec_items k.path) k.cur k.mask w.frame)
plan rule p (Take k) xs w = plain (kall_take rule p k.new (vec_items k.path) w.frame)
plan rule p (Store k) xs w = plain (kall_store rule p (vec_items k.path) k.cur k.mask w.frame)
plan rule p (Append k) xs w = plain (kall_append rule p (vec_items k.path) k.cur k.mask w.frame)
plan rule p (Passappend k) xs w = plain (kall_passappend rule p (vec_items k.path) k.cur k.mask w.frame)
plan rule p (Delete path) xs w = plain (kall_delete rule p (vec_items path) w.frame)
plan rule p (Interchange k) xs w = plain (kall_interchange rule p (vec_items k.path) k.cur k.mask w.frame)
plan rule p (Data path knt mask) xs w = plain (kall_data rule p (vec_items path) knt mask xs w.frame)
plan rule p (Univ path) xs w = plain (kall_univ rule p (vec_items path) w.frame)
plan rule p (Putdata k) xs w = plain (kall_putdata rule p (vec_items k.path) k.disp k.knt xs w)
plan rule p (Addata path knt) xs w = plain (kall_addata rule p (vec_items path) knt xs w)
plan rule p (Erase path) xs w = plain (kall_erase rule p (vec_items path) w.frame)

-- how a kall ends that leaves the buffer alone: a fault changes nothing
pub record Ending (E : Type 0) : Type 0 where
  pub answer : Result ℤ Fault
  pub after : World E

abbrev pub ended : {E : Type 0} → ℕ → World E → Result (Plain E) Fault → Ending E
ended p w (Ok o) = record { answer = Ok o.value; after = apply_all p o.edits w }
ended p w (Err e) = record { answer = Err e; after = w }

-- how any kall ends: a fault changes neither scene nor buffer
abbrev pub answer_of : {E : Type 0} → Result (Outcome E) Fault → Result ℤ Fault
answer_of (Ok o) = Ok o.value
answer_of (Err e) = Err e

abbrev pub given_back : {E : Type 0} → List E → Option (List E) → List E
given_back xs None = xs
given_back xs (Some ys) = ys

abbrev pub buffer_of : {E : Type 0} → List E → Result (Outcome E) Fault → List E
buffer_of xs (Ok o) = given_back xs o.buffer
buffer_of xs (Err e) = xs

abbrev pub world_of : {E : Type 0} → ℕ → World E → Result (Outcome E) Fault → World E
world_of p w (Ok o) = apply_all p o.edits w
world_of p w (Err e) = w

pub record Reply (E : Type 0) : Type 0 where
  pub answer : Result ℤ Fault
  pub buffer : List E
  pub after : World E

abbrev pub replied : {E : Type 0} → ℕ → List E → World E → Result (Outcome E) Fault → Reply E
replied p xs w x = record { answer = answer_of x; buffer = buffer_of xs x; after = world_of p w x }

-- a request, and what became of it
pub record Asked (E : Type 0) : Type 0 where
  pub caller : ℕ
  pub kall : Kall
  pub buffer : List E

pub record Event (E : Type 0) : Type 0 where
  pub caller : ℕ
  pub kall : Kall
  pub answer : Result ℤ Fault
  pub buffer : List E
  pub world : World E

abbrev pub serve : {E : Type 0} → Rule → Asked E → World E → Event E
serve rule r w =
    let x = plan rule r.caller r.kall r.buffer w in
    record { caller = r.caller; kall = r.kall; answer = answer_of x; buffer = buffer_of r.buffer x; world = world_of r.caller w x }

-- each request's event, in order
unfoldable pub run : {E : Type 0} → Rule → List (Asked E) → World E → List (Event E)
run rule [] w = []
run rule (r ∷ rs) w = let e = serve rule r w in e ∷ run rule rs e.world
