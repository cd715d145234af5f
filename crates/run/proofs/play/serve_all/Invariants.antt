use Rattle.std.proofs.Common.{◌≡◌, ◌++◌, map, take, drop}
use Rattle.scene.specs.Abstract.{world}
use Rattle.run.specs.Play.{view, has_buffer, played, afterwards}
use Rattle.run.proofs.play.serve_all.Given as goal

abbrev pub invariant-loop-request : goal.invariant-loop-request
invariant-loop-request g l =
    (afterwards g.R.RightsRule.rule (world l.scene.tables (g.S.ReadableShelf.holds l.shelf)) (drop l.request-index l.requests)
    ≡ afterwards g.R.RightsRule.rule (world l.initial.scene.tables (g.S.ReadableShelf.holds l.initial.shelf)) l.initial.requests) ×
    (map view (take l.request-index l.requests) ++ played g.R.RightsRule.rule (world l.scene.tables (g.S.ReadableShelf.holds l.shelf)) (drop l.request-index l.requests)
    ≡ played g.R.RightsRule.rule (world l.initial.scene.tables (g.S.ReadableShelf.holds l.initial.shelf)) l.initial.requests) ×
    (map has_buffer l.requests ≡ map has_buffer l.initial.requests)
