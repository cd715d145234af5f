use Rattle.std.proofs.Common.{◌≡◌, ℕ, ◌≤◌, arith, rules}
use Rattle.std.proofs.lemmas.Bool.Decides.{nat_tests}
use Rattle.model.specs.Plan.{limits, room}
use Rattle.scene.proofs.limits.room.Goals as goal

few : (kind : ℕ) → room kind ≤ 8
unfolding limits
few kind = grind (arith, nat_tests)

pub returns-clause-bound : goal.returns-clause-bound
returns-clause-bound c = let value : c.map_or.result ≡ room c.args.kind = search rules in rw value (few c.args.kind)
