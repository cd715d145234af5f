use Rattle.scene.specs.Abstract.{world}
use Rattle.scene.proofs.Housed.{create_housed}
use Rattle.scene.proofs.setup.SetUp.make.Goals as goal

pub invariant_of-self : goal.invariant_of-self
invariant_of-self g c =
    let up = c.args.self.now in
    create_housed c.create.result _ _ (world up.tables (g.S.ReadableShelf.holds c.args.shelf.now)) _ (record { objects = up.objects; held = up.held; listed = up.listed }) c.create.ensures
