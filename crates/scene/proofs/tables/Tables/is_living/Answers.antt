use Rattle.std.proofs.Common.{◌≡◌, length, sym, ◌∙◌, is_some, rules}
use Rattle.scene.proofs.Bodies.{lives_is}
use Rattle.scene.proofs.tables.Tables.is_living.Goals as goal

pub returns : goal.returns
returns c =
    let long : length c.args.self.now.objects ≡ 160 = search rules in
    let found : c.is_some.result ≡ is_some c.find.result = search rules in
    let t = c.args.self.now in
    found ∙ sym (lives_is t.objects t.slots t.given t.processes c.args.name c.find.result long c.find.ensures.value)
