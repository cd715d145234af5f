use Rattle.std.proofs.Common.{◌≡◌, Ok, option_map, ap, ◌∙◌, rules}
use Rattle.std.specs.Option.{option_map_or}
use Rattle.model.specs.Model.{Body}
use Rattle.model.specs.Plan.{list_length, last_filled, list_of}
use Rattle.scene.proofs.Bodies.{listed}
use Rattle.scene.proofs.tables.Tables.list_length.Goals as goal

pub returns-clause-value : goal.returns-clause-value
unfolding list_length
returns-clause-value c =
    let mapped : c.map_or.result ≡ option_map_or (λ (b : Body). last_filled b.list) (option_map (λ b. record { kind = b.kind; list = b.list.now }) c.body.result) 0 = search rules in
    ap Ok (mapped ∙ listed _ ∙ ap (λ b. last_filled (list_of b)) c.body.ensures)
