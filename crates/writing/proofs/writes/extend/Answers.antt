use Rattle.std.proofs.Common.{sym}
use Rattle.writing.proofs.Over.{before_more, one_appended}
use Rattle.writing.proofs.writes.extend.Goals as goal

pub loop-element-init : goal.loop-element-init
loop-element-init g c = before_more c.args.place (g.S.ReadableShelf.holds c.args.shelf.now) c.args.elements.now

pub unwrap-requires : goal.unwrap-requires
unwrap-requires g c =
    (one_appended c.args.place (g.S.ReadableShelf.holds c.args.shelf.now) c.requires.place.0 c.requires.place.1 c.args.elements.now c.loop-element.element-index c.element-item.result
    c.loop-element-test.true (sym c.element-item.is) c.requires.there
    c.append.result (g.S.ReadableShelf.holds c.loop-element.shelf) (g.S.ReadableShelf.holds c.append.new.self) c.loop-element.invariant c.append.ensures).0

pub loop-element-preserved : goal.loop-element-preserved
loop-element-preserved g c =
    (one_appended c.args.place (g.S.ReadableShelf.holds c.args.shelf.now) c.requires.place.0 c.requires.place.1 c.args.elements.now c.loop-element.element-index c.element-item.result
    c.loop-element-test.true (sym c.element-item.is) c.requires.there
    c.append.result (g.S.ReadableShelf.holds c.loop-element.shelf) (g.S.ReadableShelf.holds c.append.new.self) c.loop-element.invariant c.append.ensures).1
