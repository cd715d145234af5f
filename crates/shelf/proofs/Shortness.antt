-- No sequence is longer than it may be.
use Rattle.std.proofs.Common.{◌≡◌, ℕ, ◌≤◌, List, get_or, set, replicate, arith}
use Rattle.std.proofs.lemmas.Grind.{common_steps}
use Rattle.shelf.specs.Places.{greatest}
use Rattle.shelf.specs.Kept.{Short}

pub zeros : (n i : ℕ) → get_or {A = ℕ} (replicate n 0) i 0 ≡ 0
zeros n i = grind (arith, common_steps)

pub short_new : (n : ℕ) → Short (replicate n 0)
short_new n i = omega (arith, zeros n i)

pub short_set : (ls : List ℕ) (j v : ℕ) → v ≤ greatest → Short ls → Short (set ls j v)
short_set ls j v le h i = grind (arith, common_steps, h i)
