use Rattle.std.proofs.Common.{◌≡◌, Some, Err, sym, refl, ap, ◌∙◌, rules}
use Rattle.model.specs.Plan.{runs}
use Rattle.scene.specs.Abstract.{process_of}
use Rattle.scene.specs.Tasks.{task_of}
use Rattle.scene.proofs.Processes.{runs_is}
use Rattle.scene.proofs.tables.Tables.running.Goals as goal

pub returns-in-Running : goal.returns-in-Running
unfolding runs
returns-in-Running c =
    let there : Some (task_of c.in_ok-task.task.now) ≡ process_of c.args.self.now.processes c.args.process = search rules in
    sym (runs_is _ _ _ there ∙ rw c.in-Running.is refl)

pub returns-in-Stopped : goal.returns-in-Stopped
unfolding runs
returns-in-Stopped c =
    let there : Some (task_of c.in_ok-task.task.now) ≡ process_of c.args.self.now.processes c.args.process = search rules in
    ap Err c.new-in-Stopped.ensures ∙ sym (runs_is _ _ _ there ∙ rw c.in-Stopped.is refl)
