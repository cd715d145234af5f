use Rattle.std.proofs.Common.{Err, sym, ap, ◌∙◌, arith, rules}
use Rattle.model.specs.Plan.{walk}
use Rattle.scene.specs.Abstract.{frame}
use Rattle.paths.proofs.Going.{walk_is, go_none, go_last, go_step}
use Rattle.paths.proofs.walk.walk.Goals as goal

pub returns-in_err-path_ok : goal.returns-in_err-path_ok
unfolding walk
returns-in_err-path_ok g c = search rules

pub loop-index-preserved : goal.loop-index-preserved
loop-index-preserved g c =
    let first = c.in-Some.ensures.cases in
    let step = go_step g.R.RightsRule.rule (frame c.args.scene.now.tables) c.args.process c.args.step.now c.args.last.now c.in-Some.index.now c.loop-index.holder c.loop-index.at c.loop-index.clear
    c.in-Some.later.now c.loop-index.rest.now c.asked.result.now first.0 c.if-is_empty.ensures c.asked.ensures in
    (omega (arith, c.loop-index.invariant.0, first.1), rw (c.does_grant-clear.ensures) (rw (← c.in-Ok.ensures) at (sym step) ∙ c.loop-index.invariant.1))

pub returns-in_default : goal.returns-in_default
returns-in_default g c =
    ap Err c.new.ensures ∙ sym (walk_is _ _ _ _ _ _ _ c.in_ok-path_ok.ensures ∙ sym c.loop-index.invariant.1 ∙ go_none _ _ _ _ _ _ _ _ _ c.in_default.ensures.cases)

pub returns-then-is_empty : goal.returns-then-is_empty
returns-then-is_empty g c =
    let first = c.in-Some.ensures.cases in
    sym (walk_is _ _ _ _ _ _ _ c.in_ok-path_ok.ensures ∙ sym c.loop-index.invariant.1 ∙ go_last _ _ _ _ _ _ _ _ _ _ _ first.0 c.if-is_empty.ensures)

pub returns-in-Err : goal.returns-in-Err
returns-in-Err g c =
    let first = c.in-Some.ensures.cases in
    let step = go_step g.R.RightsRule.rule (frame c.args.scene.now.tables) c.args.process c.args.step.now c.args.last.now c.in-Some.index.now c.loop-index.holder c.loop-index.at c.loop-index.clear
    c.in-Some.later.now c.loop-index.rest.now c.asked.result.now first.0 c.if-is_empty.ensures c.asked.ensures in
    sym (walk_is _ _ _ _ _ _ _ c.in_ok-path_ok.ensures ∙ sym c.loop-index.invariant.1 ∙ rw (← c.in-Err.ensures) at step)
