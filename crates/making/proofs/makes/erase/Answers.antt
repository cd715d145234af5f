use Rattle.scene.specs.Abstract.{frame}
use Rattle.making.proofs.Ended.{no_refusal, ended_world}
use Rattle.making.proofs.makes.erase.Goals as goal

pub returns-in_err-end : goal.returns-in_err-end
returns-in_err-end g c =
    absurd (no_refusal (frame c.args.scene.now.tables) c.in_ok-cap.cap g.R.RightsRule.rule c.args.process _ c.args.path.now _ c.in_ok-cap.ensures c.in_err-end.ensures.0)

pub returns : goal.returns
returns g c =
    rw (
      ← c.in_ok-cap.ensures,
      ended_world c.args.process c.in_ok-cap.cap.name c.args.scene.now.tables c.end.new.self (g.S.ReadableShelf.holds c.args._shelf.now) c.in_ok-end.ensures.1 c.in_ok-end.ensures.2,
    )
