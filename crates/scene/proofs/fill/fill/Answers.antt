use Rattle.std.proofs.Common.{sym, arith}
use Rattle.scene.proofs.Filling.{no_place, emptied, one_more, no_refusal, all_there, refused}
use Rattle.scene.proofs.fill.fill.Goals as goal

pub returns-in_err-clear : goal.returns-in_err-clear
returns-in_err-clear g c =
    refused _ c.in_err-clear.field-0.0 _ _ _ c.from_residual.ensures.1
    (no_place c.args.place (g.S.ReadableShelf.holds c.args.shelf.now) c.args.elements.now _ c.in_err-clear.ensures.0)
    c.in_err-clear.ensures.1

pub loop-element-init : goal.loop-element-init
loop-element-init g c = emptied c.args.place (g.S.ReadableShelf.holds c.args.shelf.now) (g.S.ReadableShelf.holds c.clear.new.self) c.in_ok-clear.ensures

pub returns-in_err-append : goal.returns-in_err-append
returns-in_err-append g c =
    absurd (no_refusal c.args.place (g.S.ReadableShelf.holds c.clear.new.self) c.args.elements.now c.loop-element.element-index c.element-item.result
    c.loop-element.invariant.0 c.requires c.loop-element-test.true (sym c.element-item.is)
    (g.S.ReadableShelf.holds c.loop-element.shelf) c.loop-element.invariant.1 _ c.in_err-append.ensures.0)

pub loop-element-preserved : goal.loop-element-preserved
loop-element-preserved g c = (
  c.loop-element.invariant.0,
  one_more c.args.place (g.S.ReadableShelf.holds c.clear.new.self) c.args.elements.now c.loop-element.element-index c.element-item.result
      c.loop-element.invariant.0 c.requires c.loop-element-test.true (sym c.element-item.is)
      (g.S.ReadableShelf.holds c.loop-element.shelf) c.loop-element.invariant.1 _ c.in_ok-append.ensures,
)

pub returns : goal.returns
returns g c =
    all_there c.args.place (g.S.ReadableShelf.holds c.args.shelf.now) c.args.elements.now c.loop-element.element-index (g.S.ReadableShelf.holds c.clear.new.self) _
    c.in_ok-clear.ensures c.requires (omega arith) c.loop-element.invariant.1
