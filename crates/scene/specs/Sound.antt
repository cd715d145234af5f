-- What always holds of the tables.
use Rattle.std.specs.Prelude.{ℕ, ◌≤◌, ◌≢◌, List, Option, All, AllPairs, slice_index}
use Rattle.std.specs.Option.{ForSome}
use Rattle.scene.specs.declared.kinds.Object.{Object}
use Rattle.scene.specs.Places.{part_of}

-- each number is one of those that its share has given out, which begin with 1
abbrev pub GivenOut : ℕ → Option Object → Type 0
GivenOut g x = ForSome x (λ o. (1 ≤ o.number) × (o.number ≤ g))

abbrev pub Bounded : List (Option Object) → List ℕ → Type 0
Bounded objects given = (s : ℕ) → All (GivenOut (slice_index given s)) (part_of objects s)

-- no two objects of a share have one number
abbrev pub Differ : Option Object → Option Object → Type 0
Differ x y = ForSome x (λ o. ForSome y (λ q. o.number ≢ q.number))

abbrev pub Distinct : List (Option Object) → Type 0
Distinct objects = (s : ℕ) → AllPairs Differ (part_of objects s)
