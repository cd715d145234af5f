use Rattle.std.proofs.Common.{Err, refl, ap, ◌∙◌}
use Rattle.scene.specs.Abstract.{frame}
use Rattle.scene.proofs.Creating.{created, not_filled, not_made, over_long}
use Rattle.scene.proofs.fill.create.Goals as goal

pub returns-then-elements-gt64 : goal.returns-then-elements-gt64
returns-then-elements-gt64 g c =
    (ap Err c.new.ensures ∙ over_long c.args.share c.args.elements.now (frame c.args.tables.now) c.if-elements-gt64.true, refl)

pub returns-in_err-spot : goal.returns-in_err-spot
returns-in_err-spot g c =
    not_made c.args.tables.now c.make.new.self _ _ c.args.share c.args.kind c.args.elements.now c.if-elements-gt64.false _ _ c.from_residual.ensures.1 c.in_err-spot.ensures refl

pub returns-in_err-fill : goal.returns-in_err-fill
returns-in_err-fill g c =
    absurd (not_filled c.args.tables.now c.make.new.self (g.S.ReadableShelf.holds c.args.shelf.now) (g.S.ReadableShelf.holds c.args.shelf.now) c.args.share c.args.kind c.args.elements.now c.if-elements-gt64.false c.in_ok-spot.spot _
    c.in_ok-spot.ensures c.in_err-fill.ensures.0)

pub returns : goal.returns
returns g c =
    created c.args.tables.now c.make.new.self (g.S.ReadableShelf.holds c.args.shelf.now) (g.S.ReadableShelf.holds c.fill.new.shelf) c.args.share c.args.kind c.args.elements.now c.if-elements-gt64.false c.in_ok-spot.spot
    c.in_ok-spot.ensures c.in_ok-fill.ensures
