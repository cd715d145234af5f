-- The sequences of a shelf by places, and what each call answers and leaves. Indices are from 1.
use Rattle.std.specs.Prelude.{◌≡◌, ℕ, ◌-◌, Bool, cond, ◌&&◌, List, [], ◌∷◌, ◌++◌, length, Some, None, Ok, Err, Option, Result, ◌==◌, nat_le, nat_lt, slice_set}
use Rattle.std.specs.List.{slice_get}
use Rattle.model.specs.declared.signals.Signal.TheVariants.{Slim}
use Rattle.model.specs.declared.signals.Fault.{Fault}
use Rattle.model.specs.Signals.{fault}

abbrev pub is_place : ℕ → Bool
is_place p = nat_le 1 p && nat_le p 160

-- the greatest length of a sequence
abbrev pub greatest : ℕ
greatest = 64

-- how many elements a shelf can hold
abbrev pub most : ℕ
most = 10240

abbrev pub refusal : Fault
refusal = fault Slim 0

-- x if the test holds, else the refusal
abbrev pub if_so : {A : Type 0} → Bool → A → Result A Fault
if_so b x = cond b (Ok x) (Err refusal)

-- cells that suffice for a shelf
abbrev pub counted : {E : Type 0} → List E → Result (List E) Fault
counted cells = if_so (nat_le most (length cells)) cells

-- i is an index of the sequence
abbrev pub is_index : {E : Type 0} → ℕ → List E → Bool
is_index i xs = nat_le 1 i && nat_le i (length xs)

-- the sequences with that of place p another one
unfoldable pub with_place : {E : Type 0} → ℕ → List E → (ℕ → List E) → ℕ → List E
with_place p xs h q = cond (q == p) xs (h q)

unfoldable pub length_at : {E : Type 0} → ℕ → (ℕ → List E) → Result ℕ Fault
length_at p h = if_so (is_place p) (length (h p))

abbrev pub found : {E : Type 0} → Option E → Result E Fault
found (Some x) = Ok x
found None = Err refusal

unfoldable pub element_at : {E : Type 0} → ℕ → ℕ → (ℕ → List E) → Result E Fault
element_at p i h = cond (is_place p && nat_le 1 i) (found (slice_get (h p) (i - 1))) (Err refusal)

-- what the sequences are after a call, or the refusal
unfoldable pub replaced : {E : Type 0} → ℕ → ℕ → E → (ℕ → List E) → Result (ℕ → List E) Fault
replaced p i x h = if_so (is_place p && is_index i (h p)) (with_place p (slice_set (h p) (i - 1) x) h)

unfoldable pub appended : {E : Type 0} → ℕ → E → (ℕ → List E) → Result (ℕ → List E) Fault
appended p x h = if_so (is_place p && nat_lt (length (h p)) greatest) (with_place p (h p ++ (x ∷ [])) h)

unfoldable pub cleared : {E : Type 0} → ℕ → (ℕ → List E) → Result (ℕ → List E) Fault
cleared p h = if_so (is_place p) (with_place p [] h)

-- a call that answers r takes the sequences from h to h', as m says
abbrev pub Writes : {E : Type 0} → Result (Unit {0}) Fault → (ℕ → List E) → (ℕ → List E) → Result (ℕ → List E) Fault → Type 0
Writes (Ok x) h h' m = Ok h' ≡ m
Writes (Err e) h h' m = (Err e ≡ m) × (h' ≡ h)
