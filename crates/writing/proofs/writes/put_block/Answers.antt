use Rattle.std.proofs.Common.{◌≡◌, ℕ, ◌-◌, List, take, ap, ◌∙◌, arith}
use Rattle.scene.specs.Abstract.{elements_at, homes}
use Rattle.shelf.specs.Places.{with_place}
use Rattle.writing.specs.Fills.{laid_over}
use Rattle.writing.proofs.Filled.{fills, overwrites}
use Rattle.writing.proofs.writes.put_block.Goals as goal

pub returns : goal.returns
returns g c =
    let E = g.row.S-Element.Denot in
    let t = c.args.tables.now in
    let h = g.S.ReadableShelf.holds c.args.shelf.now in
    let part = elements_at h (homes t c.args.name) in
    let xs = take c.args.knt c.args.buffer.now in
    let same = c.part_length-length.ensures.same in
    let on : h c.in-Some.place ≡ part = ap (elements_at h) c.in-Some.ensures.value in
    let laid : g.S.ReadableShelf.holds c.overwrite.new.shelf ≡ with_place c.in-Some.place (laid_over (c.args.disp - 1) xs part) h =
    c.overwrite.ensures
    ∙ ap (λ (k : ℕ → List E). with_place c.in-Some.place (laid_over (c.args.disp - 1) xs (k c.in-Some.place)) k) same
    ∙ ap (λ (ys : List E). with_place c.in-Some.place (laid_over (c.args.disp - 1) xs ys) h) on
    in
    fills t c.args.name c.in-Some.place h (g.S.ReadableShelf.holds c.overwrite.new.shelf) c.in-Some.ensures.value c.in-Some.ensures.alone
    (laid_over (c.args.disp - 1) xs part) _ laid
    (overwrites c.args.disp c.args.knt c.args.buffer.now part (omega arith) (omega arith) (omega arith) (omega arith))
