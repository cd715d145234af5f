use Rattle.std.proofs.Common.{◌≡◌, length, position, is_none, rules}
use Rattle.scene.specs.Places.{part_of, placed}
use Rattle.scene.proofs.Places.{unused_bound}
use Rattle.scene.proofs.tables.Tables.unused_place.Goals as goal

pub returns-clause-bound : goal.returns-clause-bound
returns-clause-bound c =
    let long : length c.args.self.now.objects ≡ 160 = search rules in
    let there : c.map.result ≡ placed c.args.share (position is_none (part_of c.args.self.now.objects c.args.share)) = search rules in
    unused_bound _ _ _ long there
