use Rattle.std.proofs.Common.{sym}
use Rattle.writing.proofs.Over.{before_any, one_replaced}
use Rattle.writing.proofs.writes.overwrite.Goals as goal

pub loop-i-init : goal.loop-i-init
loop-i-init g c = before_any c.args.place (g.S.ReadableShelf.holds c.args.shelf.now) c.args.start c.args.elements.now

pub unwrap-requires : goal.unwrap-requires
unwrap-requires g c =
    (one_replaced c.args.place (g.S.ReadableShelf.holds c.args.shelf.now) c.requires.place.0 c.requires.place.1 c.args.elements.now c.loop-i.i c.index-elements-i.result
    c.loop-i-test.true (sym c.index-elements-i.is) c.args.start c.requires.there.0
    c.replace.result (g.S.ReadableShelf.holds c.loop-i.shelf) (g.S.ReadableShelf.holds c.replace.new.self) c.loop-i.invariant c.replace.ensures).0

pub loop-i-preserved : goal.loop-i-preserved
loop-i-preserved g c =
    (one_replaced c.args.place (g.S.ReadableShelf.holds c.args.shelf.now) c.requires.place.0 c.requires.place.1 c.args.elements.now c.loop-i.i c.index-elements-i.result
    c.loop-i-test.true (sym c.index-elements-i.is) c.args.start c.requires.there.0
    c.replace.result (g.S.ReadableShelf.holds c.loop-i.shelf) (g.S.ReadableShelf.holds c.replace.new.self) c.loop-i.invariant c.replace.ensures).1
