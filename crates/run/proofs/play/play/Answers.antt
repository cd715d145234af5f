use Rattle.std.proofs.Common.{◌≡◌, ap, ◌∙◌}
use Rattle.model.specs.Model.{World}
use Rattle.model.specs.SetUp.{reckoning}
use Rattle.model.proofs.Whole.{isolates}
use Rattle.scene.specs.declared.tables.Tables.{Tables}
use Rattle.scene.specs.Abstract.{world, homes}
use Rattle.run.specs.Play.{played, afterwards}
use Rattle.run.proofs.play.play.Goals as goal

pub returns : goal.returns
returns g c =
    let rule = g.R.RightsRule.rule in
    let holds = g.S.ReadableShelf.holds c.args.shelf.now in
    let up = c.args.set_up in
    let asked = c.args.requests.now in
    let after : world c.serve_all.new.scene.tables (g.S.ReadableShelf.holds c.serve_all.new.shelf) ≡ afterwards rule (world up.tables holds) asked =
    c.serve_all.ensures.after ∙ ap (λ (t : Tables). afterwards rule (world t holds) asked) c.open-scene.ensures in
    record {
      answers = c.serve_all.ensures.answers ∙ ap (λ (t : Tables). played rule (world t holds) asked) c.open-scene.ensures;
      given = c.serve_all.ensures.given;
      reckoned = c.reckon.ensures ∙ ap (λ (w : World g.row.S-Element.Denot). reckoning w.frame) after;
      shelved = (homes c.serve_all.new.scene.tables, λ n. ap (λ (w : World g.row.S-Element.Denot). w.elements n) after);
      isolated = isolates rule g.met.R.RightsRule.lawful (world up.tables holds) (record { objects = up.objects; held = up.held; listed = up.listed }) _;
    }
