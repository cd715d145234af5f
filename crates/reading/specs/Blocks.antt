-- A block of elements read into a buffer.
use Rattle.std.specs.Prelude.{◌≡◌, ℕ, List, [], pos, Some, Ok, Err, Result}
use Rattle.model.specs.declared.signals.Fault.{Fault}
use Rattle.model.specs.Plan.{after}
use Rattle.model.specs.Kalls.{copied}

-- a call that answers r takes the buffer from xs to ys, as the block m says
abbrev pub Reads : {E : Type 0} → Result ℕ Fault → List E → List E → Result (List E) Fault → Type 0
Reads (Ok n) xs ys m = Ok (record { value = pos n; buffer = Some ys; edits = [] }) ≡ after m (λ zs. Ok (copied xs zs))
Reads (Err e) xs ys m = (Err e ≡ after m (λ zs. Ok (copied xs zs))) × (ys ≡ xs)
