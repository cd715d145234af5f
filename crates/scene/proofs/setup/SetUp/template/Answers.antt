use Rattle.model.proofs.Opened.{opened_put, template_slot}
use Rattle.scene.proofs.Housed.{housed}
use Rattle.scene.proofs.setup.SetUp.template.Goals as goal

pub invariant_of-self : goal.invariant_of-self
invariant_of-self g c =
    let up = c.args.self.now in
    housed _ _ c.put_in.ensures.after
    (opened_put (record { objects = up.objects; held = up.held; listed = up.listed }) _ (template_slot _) _ _ _)
