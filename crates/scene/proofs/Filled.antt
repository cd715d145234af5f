-- The last filled slot.
use Rattle.std.proofs.Common.{◌≡◌, ℕ, zero, suc, ◌+◌, ◌<◌, List, [], ◌∷◌, length, get_or, Some, None, Option, refl, ap, ◌∙◌, arith}
use Rattle.std.specs.Option.{option_map_or}
use Rattle.model.specs.declared.kinds.Slot.{Slot}
use Rattle.model.specs.declared.kinds.Slot.TheVariants.{Empty, Capability, Template}
use Rattle.model.specs.Plan.{last_filled, longer}
use Rattle.scene.specs.Abstract.{IsLastFilled}

none_filled : (xs : List Slot) → ((k : ℕ) → k < length xs → get_or xs k Empty ≡ Empty) → last_filled xs ≡ 0
unfolding last_filled
none_filled [] h = refl
none_filled (s ∷ xs) h = let e : s ≡ Empty = h 0 (omega arith) in rw (e, none_filled xs (λ k l. h (suc k) (omega arith)))

one_filled : (s : Slot) → (s ≡ Empty → ⊥) → longer s 0 ≡ 1
one_filled Empty h = absurd (h refl)
one_filled (Capability c) h = refl
one_filled (Template t) h = refl

longer_suc : (s : Slot) (n : ℕ) → longer s (suc n) ≡ suc (suc n)
longer_suc Empty n = refl
longer_suc (Capability c) n = refl
longer_suc (Template t) n = refl

last_at : (xs : List Slot) (i : ℕ) → i < length xs → (get_or xs i Empty ≡ Empty → ⊥) → ((k : ℕ) → i < k → k < length xs → get_or xs k Empty ≡ Empty) → last_filled xs ≡ suc i
unfolding last_filled
last_at [] i l h after = absurd (omega arith)
last_at (s ∷ xs) zero l h after = rw (none_filled xs (λ k m. after (suc k) (omega arith) (omega arith))) (one_filled s h)
last_at (s ∷ xs) (suc i) l h after = ap (longer s) (last_at xs i (omega arith) h (λ k a b. after (suc k) (omega arith) (omega arith))) ∙ longer_suc s i

pub last_is : (xs : List Slot) (r : Option ℕ) → IsLastFilled xs r → last_filled xs ≡ option_map_or (λ i. i + 1) r 0
last_is xs None h = none_filled xs (λ k l. h k Empty l)
last_is xs (Some i) h = last_at xs i h.0 (h.1 Empty) (λ k a b. h.2 k Empty (omega arith) b) ∙ omega arith
