use Rattle.std.proofs.Common.{◌≡◌, replicate, None, Option, ap, ◌∙◌, arith}
use Rattle.std.proofs.lemmas.Grind.{common_steps}
use Rattle.scene.specs.declared.kinds.Process.{Process}
use Rattle.model.specs.declared.kinds.Slot.TheVariants.{Empty}
use Rattle.scene.specs.Abstract.{frame_of}
use Rattle.scene.proofs.Fresh.{fresh_bounded, fresh_distinct, bare_frame}
use Rattle.scene.proofs.tables.Tables.new.Goals as goal

pub invariant_of-result : goal.invariant_of-result
invariant_of-result c = record { bounded = fresh_bounded (replicate 9 0); distinct = fresh_distinct }

pub returns-clause-scene : goal.returns-clause-scene
returns-clause-scene c =
    let nobody : c.from_fn.result ≡ replicate {A = Option Process} 8 None = grind (arith, common_steps) in
    ap (frame_of (replicate 160 None) (replicate 1280 Empty) (replicate 9 0)) nobody ∙ bare_frame (replicate 1280 Empty)
