use Rattle.std.proofs.Common.{◌≡◌, ◌+◌, ◌≤◌, true, length}
use Rattle.model.specs.declared.kinds.Holder.TheVariants.{Mine}
use Rattle.model.specs.Plan.{go}
use Rattle.scene.specs.Abstract.{frame}
use Rattle.paths.proofs.walk.walk.Given as goal

abbrev pub invariant-loop-index : goal.invariant-loop-index
invariant-loop-index g l =
    (l.at + length l.rest ≤ 7) ×
    (go g.R.RightsRule.rule l.step l.last l.process l.rest l.holder l.at l.clear (frame l.scene.tables)
    ≡ go g.R.RightsRule.rule l.step l.last l.process l.path Mine 1 true (frame l.scene.tables))

abbrev pub decreases-loop-index : goal.decreases-loop-index
decreases-loop-index g l = length l.rest
