use Rattle.std.proofs.Common.{arith}
use Rattle.shelf.specs.Sums.{before_fits}
use Rattle.shelf.proofs.lengths.Lengths.before.Goals as goal

pub returns-clause-fits : goal.returns-clause-fits
returns-clause-fits c =
    let p = c.args.place in
    omega (arith, c.sum_of.ensures, before_fits c.args.self.now.table p.number c.args.self.now.short p.from_one p.to_last)
