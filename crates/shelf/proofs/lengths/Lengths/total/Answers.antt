use Rattle.std.proofs.Common.{◌≡◌, ◌∙◌, ap, sum, sym, arith}
use Rattle.std.proofs.lemmas.List.{take_all}
use Rattle.shelf.specs.Kept.{before}
use Rattle.shelf.specs.Sums.{before_most}
use Rattle.shelf.proofs.lengths.Lengths.total.Goals as goal

pub returns-clause-sum : goal.returns-clause-sum
returns-clause-sum c =
    let lengths = c.args.self.now in
    c.sum_of.ensures ∙ ap sum (sym (take_all 160 lengths.table (omega (arith, lengths.whole))))

pub returns-clause-fits : goal.returns-clause-fits
returns-clause-fits c =
    let lengths = c.args.self.now in
    let all : c.sum_of.result ≡ before lengths.table 160 = c.sum_of.ensures ∙ ap sum (sym (take_all 160 lengths.table (omega (arith, lengths.whole)))) in
    omega (arith, all, before_most lengths.table 160 lengths.short (omega arith))
