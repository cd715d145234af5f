use Rattle.std.proofs.Common.{◌≡◌, ◌+◌, ◌-◌, arith}
use Rattle.std.proofs.lemmas.Bool.Decides.{nat_tests}
use Rattle.model.specs.Plan.{places}
use Rattle.scene.specs.Places.{part_of}
use Rattle.scene.proofs.tables.Tables.places.Goals as goal

pub returns-in-0-clause-value : goal.returns-in-0-clause-value
unfolding part_of
returns-in-0-clause-value c =
    let e : (c.base-low.result + 32) - c.base-low.result ≡ places c.args.share = grind (arith, nat_tests) in
    rw (e, c.base-low.ensures)

pub returns-in-1-to-8-clause-value : goal.returns-in-1-to-8-clause-value
unfolding part_of
returns-in-1-to-8-clause-value c =
    let e : (c.base-low.result + 16) - c.base-low.result ≡ places c.args.share = grind (arith, nat_tests) in
    rw (e, c.base-low.ensures)

pub returns-in_default-clause-value : goal.returns-in_default-clause-value
unfolding part_of
returns-in_default-clause-value c = let e : places c.args.share ≡ 0 = grind (arith, nat_tests) in rw e
