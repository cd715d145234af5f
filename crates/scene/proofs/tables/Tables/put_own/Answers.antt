use Rattle.std.proofs.Common.{◌≡◌, length, refl, rules}
use Rattle.scene.proofs.Processes.{put_far, put_nobody, put_absent, put_space, put_newest, put_nowhere}
use Rattle.scene.proofs.tables.Tables.put_own.Goals as goal

pub returns-then-index-ge12-clause-after : goal.returns-then-index-ge12-clause-after
returns-then-index-ge12-clause-after c = put_far _ _ _ _ _ _ _ c.if-index-ge12.true

pub returns-in_default-clause-after : goal.returns-in_default-clause-after
returns-in_default-clause-after c = put_nobody _ _ _ _ _ _ _ c.in_default.ensures.value

pub returns-in_default-processes-clause-after : goal.returns-in_default-processes-clause-after
returns-in_default-processes-clause-after c =
    let long : length c.args.self.now.processes ≡ 8 = search rules in
    put_absent _ _ _ _ _ _ _ _ c.in-Some.ensures.value c.index-processes-i.result long c.in_default-processes.is

pub returns-in_default-checked_sub-clause-after : goal.returns-in_default-checked_sub-clause-after
returns-in_default-checked_sub-clause-after c =
    let long : length c.args.self.now.processes ≡ 8 = search rules in
    let task = c.in-Some-processes.task in
    put_space _ _ _ _ _ _ _ _ c.in-Some.ensures.value task task c.index-processes-i.result long c.in-Some-processes.is refl
    (put_nowhere task.spaces task.depth _ _ c.in_default-checked_sub.ensures)

pub returns-clause-after : goal.returns-clause-after
returns-clause-after c =
    let long : length c.args.self.now.processes ≡ 8 = search rules in
    let task = c.in-Some-processes.task in
    let wide : length task.spaces ≡ 6 = search rules in
    let top = c.in-Some-checked_sub.ensures in
    put_space _ _ _ _ _ _ _ _ c.in-Some.ensures.value task _ c.index-processes-i.result long c.in-Some-processes.is refl
    (put_newest task.spaces task.depth _ _ _ _ top.0 top.1 task.deep wide c.if-index-ge12.false)
