-- Where objects lie.
use Rattle.std.specs.Prelude.{ℕ, ◌+◌, ◌*◌, Bool, false, cond, List, None, Some, Option, take, drop, position, option_map, ◌==◌}
use Rattle.model.specs.Plan.{places}
use Rattle.scene.specs.declared.kinds.Object.{Object}

abbrev pub base_of : ℕ → ℕ
base_of s = cond (s == 0) 0 (16 + 16 * s)

-- the places of a share
unfoldable pub part_of : List (Option Object) → ℕ → List (Option Object)
part_of objects s = take (places s) (drop (base_of s) objects)

-- a place of the share, by its index among them
abbrev pub placed : ℕ → Option ℕ → Option ℕ
placed s i = option_map (λ i. base_of s + i) i

abbrev pub is_numbered : ℕ → Option Object → Bool
is_numbered n None = false
is_numbered n (Some o) = o.number == n

abbrev pub place_of : List (Option Object) → ℕ → ℕ → Option ℕ
place_of objects s n = placed s (position (is_numbered n) (part_of objects s))
