use Rattle.std.proofs.Common.{ap}
use Rattle.model.specs.declared.kinds.Name.{Name}
use Rattle.model.proofs.Opened.{opened_put, capability_slot}
use Rattle.scene.proofs.Housed.{housed}
use Rattle.scene.proofs.setup.SetUp.plant.Goals as goal

pub invariant_of-self : goal.invariant_of-self
invariant_of-self g c =
    let up = c.args.self.now in
    housed _ _ c.put_in.ensures.after
    (opened_put (record { objects = up.objects; held = up.held; listed = up.listed }) _ (capability_slot _ (ap (λ (n : Name). n.share) c.house-2.ensures)) _ _ _)
