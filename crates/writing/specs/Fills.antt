-- A data part given other elements.
use Rattle.std.specs.Prelude.{◌≡◌, ℕ, ◌+◌, List, ◌++◌, length, take, drop, Ok, Err, Result}
use Rattle.model.specs.declared.kinds.Name.{Name}
use Rattle.model.specs.declared.signals.Fault.{Fault}
use Rattle.model.specs.Model.{World}
use Rattle.model.specs.Plan.{after}
use Rattle.model.specs.Kalls.{refilled}

-- a part with a block of it, past `start`, replaced
abbrev pub laid_over : {E : Type 0} → ℕ → List E → List E → List E
laid_over start xs part = take start part ++ (xs ++ drop (start + length xs) part)

-- a call that answers r takes the scene from w to w', where n has the elements that m says
abbrev pub Fills : {E : Type 0} → Result (Unit {0}) Fault → Name → World E → World E → Result (List E) Fault → Type 0
Fills (Ok x) n w w' m = Ok w' ≡ after m (λ ys. Ok (record { frame = w.frame; elements = refilled n ys w.elements }))
Fills (Err e) n w w' m = (Err e ≡ m) × (w' ≡ w)
