use Rattle.std.proofs.Common.{ℕ, List, ap, ◌∙◌}
use Rattle.shelf.proofs.Laying.{empty}
use Rattle.shelf.specs.Kept.{laid}
use Rattle.shelf.proofs.laid.Laid.empty.Goals as goal

pub returns : goal.returns
returns g c =
    let start = g.L.Layout.start in
    let xs = c.args.cells.cells.now in
    ap (λ (ls : List ℕ). laid (start ls) ls xs) c.new-lengths.ensures ∙ empty (start _) xs
