use Rattle.std.proofs.Common.{◌≡◌, ◌<◌, ◌≤◌, length, get_or, sym, refl, ap, ◌∙◌, subst, arith}
use Rattle.scene.specs.Abstract.{world}
use Rattle.model.specs.declared.kinds.Request.{Request}
use Rattle.model.specs.Kalls.{serve}
use Rattle.run.specs.Play.{ask, view, has_buffer, told}
use Rattle.run.proofs.Playing.{after_more, played_more, given_more, after_end, played_end}
use Rattle.run.proofs.play.serve_all.Goals as goal

pub loop-request-init : goal.loop-request-init
loop-request-init g c = (refl, refl, refl)

pub loop-request-preserved : goal.loop-request-preserved
loop-request-preserved g c =
    let r = g.R.RightsRule.rule in
    let q = c.request-item.result in
    let x = c.serve.new.request in
    let w = world c.loop-request.scene.tables (g.S.ReadableShelf.holds c.loop-request.shelf) in
    let w' = world c.serve.new.scene.tables (g.S.ReadableShelf.holds c.serve.new.shelf) in
    let xs = c.loop-request.requests in
    let i = c.loop-request.request-index in
    let got : get_or xs i q ≡ q = sym c.request-item.is in
    let within : i < length xs = omega arith in
    let did : view x ≡ told (serve r (ask q) w) = subst (λ (y : Request g.row.S-Element.Denot). view x ≡ told (serve r (ask y) w)) got c.serve.ensures.view in
    let on : w' ≡ (serve r (ask q) w).world = subst (λ (y : Request g.row.S-Element.Denot). w' ≡ (serve r (ask y) w).world) got c.serve.ensures.after in (
      after_more r q x w w' on xs i within got ∙ c.loop-request.invariant.0,
      played_more r q x w w' on xs i within got did ∙ c.loop-request.invariant.1,
      given_more q x (c.serve.ensures.given ∙ ap has_buffer got) xs i within got ∙ c.loop-request.invariant.2,
    )

pub returns : goal.returns
returns g c =
    let past : length c.loop-request.requests ≤ c.loop-request.request-index = omega arith in
    record {
      answers = sym (played_end _ _ _ _ past) ∙ c.loop-request.invariant.1;
      given = c.loop-request.invariant.2;
      after = sym (after_end _ _ _ _ past) ∙ c.loop-request.invariant.0;
    }
