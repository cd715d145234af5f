use Rattle.shelf.specs.Held.{held}
use Rattle.shelf.proofs.Answering.{writes_no, replaced_no}
use Rattle.shelf.proofs.Laying.{held_size, held_replaced}
use Rattle.shelf.proofs.laid.LaidWritableShelf.replace.Goals as goal

pub returns-in_err-cell : goal.returns-in_err-cell
returns-in_err-cell g c =
    let start = g.L.Layout.start in
    let self = c.args.self.now in
    let ls = self.lengths.table in
    let p = c.args.place in
    writes_no (held start self) _ _ _ c.from_residual.ensures.1
    (replaced_no (held start self) ls p (held_size start g.met.L.Layout.lawful self p) (start ls) c.args.index c.args.element _ c.in_err-cell.ensures)

pub returns : goal.returns
returns g c =
    held_replaced g.L.Layout.start g.met.L.Layout.lawful c.args.self.now c.args.place c.args.index _ c.args.element c.in_ok-cell.ensures
