use Rattle.std.proofs.Common.{◌≡◌, length, rules}
use Rattle.scene.specs.Places.{place_of}
use Rattle.scene.proofs.Places.{place_bound}
use Rattle.scene.proofs.tables.Tables.find.Goals as goal

pub returns-clause-bound : goal.returns-clause-bound
returns-clause-bound c =
    let long : length c.args.self.now.objects ≡ 160 = search rules in
    let there : c.map.result ≡ place_of c.args.self.now.objects c.args.name.share c.args.name.number = search rules in
    place_bound _ _ _ _ long there
