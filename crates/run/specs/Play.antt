-- Requests as they are asked, and what their owners read of them after a run.
use Rattle.std.specs.Prelude.{◌≡◌, ℕ, Bool, List, [], ◌∷◌, map, ℤ, Some, None, is_some, vec_items, Option, Result}
use Rattle.model.specs.declared.signals.Fault.{Fault}
use Rattle.model.specs.declared.kinds.Name.{Name}
use Rattle.model.specs.declared.kinds.Kall.{Kall}
use Rattle.model.specs.declared.kinds.Request.{Request}
use Rattle.model.specs.Model.{World, Rule}
use Rattle.model.specs.Kalls.{Asked, Event, run}
use Rattle.scene.specs.Abstract.{elements_at}

-- the items of a buffer: none where there is no buffer
abbrev pub items_in : {V E : Type 0} → (V → List E) → Option V → List E
items_in items None = []
items_in items (Some v) = items v

abbrev pub ask : {E : Type 0} → Request E → Asked E
ask q = record { caller = q.process; kall = q.kall; buffer = items_in vec_items q.buffer }

pub record View (E : Type 0) : Type 0 where
  pub caller : ℕ
  pub kall : Kall
  pub buffer : List E
  pub answer : Option (Result ℤ Fault)

abbrev pub view : {E : Type 0} → Request E → View E
view q = record { caller = q.process; kall = q.kall; buffer = items_in vec_items q.buffer; answer = q.answer }

-- whether a request has a buffer of its own
abbrev pub has_buffer : {E : Type 0} → Request E → Bool
has_buffer q = is_some q.buffer

-- what an event tells the owner of its request
abbrev pub told : {E : Type 0} → Event E → View E
told e = record { caller = e.caller; kall = e.kall; buffer = e.buffer; answer = Some e.answer }

abbrev pub ending : {E : Type 0} → World E → List (Event E) → World E
ending w [] = w
ending w (e ∷ es) = ending e.world es

-- what a run of the requests tells, and the scene that it leaves
abbrev pub played : {E : Type 0} → Rule → World E → List (Request E) → List (View E)
played rule w qs = map told (run rule (map ask qs) w)

abbrev pub afterwards : {E : Type 0} → Rule → World E → List (Request E) → World E
afterwards rule w qs = ending w (run rule (map ask qs) w)

-- a shelf that holds h has the elements of every name, wherever they lie
abbrev pub LiesOn : {E : Type 0} → (ℕ → List E) → (Name → List E) → Type 0
LiesOn h elements = (lie : Name → Option ℕ) × ((n : Name) → elements_at h (lie n) ≡ elements n)
