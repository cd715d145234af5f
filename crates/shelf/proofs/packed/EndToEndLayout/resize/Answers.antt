use Rattle.std.proofs.Common.{◌+◌, ◌-◌, ◌∙◌, sum, ap, sym, arith}
use Rattle.std.proofs.lemmas.List.{take-set}
use Rattle.shelf.proofs.Packing.{pack_ends, pack_room, pack_moved}
use Rattle.shelf.proofs.packed.EndToEndLayout.resize.Goals as goal

pub copy_within-requires-clause-start_le_end : goal.copy_within-requires-clause-start_le_end
copy_within-requires-clause-start_le_end g c =
    let ls = c.args.lengths.now in
    let p = c.args.place in
    omega (arith, pack_ends ls.table ls.whole p.number p.from_one p.to_last, c.before-start.ensures.sum, c.of.ensures, c.total-total.ensures.sum)

pub copy_within-requires-clause-dest_in_bounds : goal.copy_within-requires-clause-dest_in_bounds
copy_within-requires-clause-dest_in_bounds g c =
    let ls = c.args.lengths.now in
    let p = c.args.place in
    let new = c.args.length in
    omega (arith, pack_room ls.table ls.whole p.number p.from_one p.to_last new.count new.short ls.short, c.args.lent.now.enough, c.before-start.ensures.sum, c.of.ensures, c.total-total.ensures.sum)

pub returns-clause-begins : goal.returns-clause-begins
returns-clause-begins g c =
    let ls = c.args.lengths.now in
    c.before-start.ensures.sum ∙ sym (ap sum (take-set ls.table (c.args.place.number - 1) c.args.length.count))

pub returns-clause-moved : goal.returns-clause-moved
returns-clause-moved g c =
    let ls = c.args.lengths.now in
    let p = c.args.place in
    let new = c.args.length.count in
    let start = c.before-start.result in
    let is = c.before-start.ensures.sum in
    let by = c.copy_within.ensures.by_index in
    pack_moved ls.table ls.whole p.number p.from_one p.to_last c.args.lent.now.cells.now c.copy_within.new.self new (start + new) (start + c.of.result.count) c.total-total.result
    (omega (arith, is)) (omega (arith, is, c.of.ensures)) c.total-total.ensures.sum c.copy_within.ensures.len by.0 by.1
