-- Processes as the scene sees them.
use Rattle.std.specs.Prelude.{ℕ, ◌-◌, Bool, true, false, cond, ◌&&◌, Some, None, Option, take, reverse, nat_le}
use Rattle.model.specs.Model.{Task}
use Rattle.scene.specs.declared.kinds.State.{State}
use Rattle.scene.specs.declared.kinds.State.TheVariants.{Running, Stopped}
use Rattle.scene.specs.declared.kinds.Process.{Process}

abbrev pub is_running : State → Bool
is_running Running = true
is_running Stopped = false

-- the newest space first
abbrev pub task_of : Process → Task
task_of p = record { running = is_running p.state; spaces = reverse (take p.depth p.spaces) }

-- processes go by 1 to 8
abbrev pub index_of : ℕ → Option ℕ
index_of p = cond (nat_le 1 p && nat_le p 8) (Some (p - 1)) None
