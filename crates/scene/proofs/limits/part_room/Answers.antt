use Rattle.std.proofs.Common.{◌≡◌, ℕ, ◌≤◌, arith, rules}
use Rattle.std.proofs.lemmas.Bool.Decides.{nat_tests}
use Rattle.model.specs.Plan.{limits, elements_in}
use Rattle.scene.proofs.limits.part_room.Goals as goal

few : (kind : ℕ) → elements_in (limits kind) ≤ 64
unfolding limits
few kind = grind (arith, nat_tests)

pub returns-clause-bound : goal.returns-clause-bound
returns-clause-bound c = let value : c.map_or.result ≡ elements_in (limits c.args.kind) = search rules in rw value (few c.args.kind)
