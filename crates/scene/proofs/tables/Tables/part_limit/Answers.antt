use Rattle.std.proofs.Common.{◌≡◌, Ok, option_map, ap, ◌∙◌, rules}
use Rattle.std.specs.Option.{option_map_or}
use Rattle.model.specs.Model.{Body}
use Rattle.model.specs.Plan.{limits, elements_in, part_limit, most_of}
use Rattle.scene.proofs.Bodies.{allowed}
use Rattle.scene.proofs.tables.Tables.part_limit.Goals as goal

pub returns-clause-value : goal.returns-clause-value
unfolding part_limit
returns-clause-value c =
    let mapped : c.map_or.result ≡ option_map_or (λ (b : Body). elements_in (limits b.kind)) (option_map (λ b. record { kind = b.kind; list = b.list.now }) c.body.result) 0 = search rules in
    ap Ok (mapped ∙ allowed _ ∙ ap most_of c.body.ensures)
