use Rattle.std.proofs.Common.{◌≡◌, length, arith, rules}
use Rattle.scene.proofs.Bodies.{put_frame, put_none, put_past}
use Rattle.scene.proofs.tables.Tables.put.Goals as goal

pub returns-then-index-lt8-clause-after : goal.returns-then-index-lt8-clause-after
returns-then-index-lt8-clause-after c =
    let long : length c.args.self.now.objects ≡ 160 = search rules in
    put_frame _ _ _ _ _ _ _ _ long c.in-Some.ensures.value c.if-index-lt8.true

pub returns-else-index-lt8-clause-after : goal.returns-else-index-lt8-clause-after
returns-else-index-lt8-clause-after c =
    let long : length c.args.self.now.slots ≡ 1280 = search rules in
    put_past _ _ _ _ _ _ _ _ c.in-Some.ensures.value (omega (arith, c.in-Some.ensures.bound)) c.if-index-lt8.false

pub returns-in_default-clause-after : goal.returns-in_default-clause-after
returns-in_default-clause-after c = put_none _ _ _ _ _ _ _ c.in_default.ensures.value
