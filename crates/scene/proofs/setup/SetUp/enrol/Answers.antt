use Rattle.scene.specs.Abstract.{frame}
use Rattle.scene.proofs.Housed.{enrol_housed}
use Rattle.scene.proofs.setup.SetUp.enrol.Goals as goal

pub invariant_of-self : goal.invariant_of-self
invariant_of-self g c =
    let up = c.args.self.now in
    enrol_housed c.enrol.result (frame up.tables) _ _ _ (record { objects = up.objects; held = up.held; listed = up.listed }) c.enrol.ensures
