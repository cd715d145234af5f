use Rattle.std.proofs.Common.{ap, Ok, ◌∙◌, sym}
use Rattle.shelf.specs.Held.{held}
use Rattle.shelf.proofs.Answering.{answer_no, element_no}
use Rattle.shelf.proofs.Laying.{held_size, held_read}
use Rattle.shelf.proofs.laid.LaidReadableShelf.element.Goals as goal

pub returns-in_err-cell-clause-answer : goal.returns-in_err-cell-clause-answer
returns-in_err-cell-clause-answer g c =
    let start = g.L.Layout.start in
    let self = c.args.self.now in
    let ls = self.lengths.table in
    let p = c.args.place in
    answer_no _ c.from_residual.ensures.1
    (element_no (held start self) ls p (held_size start g.met.L.Layout.lawful self p) (start ls) c.args.index _ c.in_err-cell.ensures)

pub returns-clause-answer : goal.returns-clause-answer
returns-clause-answer g c =
    ap Ok (sym c.index-self-cell.is) ∙
    held_read g.L.Layout.start g.met.L.Layout.lawful c.args.self.now c.args.place c.args.index _ _ c.in_ok-cell.ensures c.index-self-cell.is
