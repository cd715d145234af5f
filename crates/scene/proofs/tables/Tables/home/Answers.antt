use Rattle.std.proofs.Common.{◌≡◌, length, rules}
use Rattle.scene.specs.Abstract.{homes, home_of}
use Rattle.scene.proofs.Homes.{alone}
use Rattle.scene.proofs.tables.Tables.home.Goals as goal

pub returns-clause-alone : goal.returns-clause-alone
unfolding home_of
returns-clause-alone c =
    let t = c.args.self.now in
    let long : length c.args.self.now.objects ≡ 160 = search rules in
    let value : c.map.result ≡ homes t c.args.name = search rules in
    alone t.objects c.args.name c.map.result long value
