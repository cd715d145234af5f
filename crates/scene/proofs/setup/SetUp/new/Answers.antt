use Rattle.model.proofs.Opened.{opened_bare}
use Rattle.scene.proofs.Housed.{housed}
use Rattle.scene.proofs.setup.SetUp.new.Goals as goal

pub invariant_of-result : goal.invariant_of-result
invariant_of-result g c = housed _ _ c.new.ensures.scene opened_bare

pub returns : goal.returns
returns g c = record { scene = c.new.ensures.scene; slots = c.new.ensures.slots }
