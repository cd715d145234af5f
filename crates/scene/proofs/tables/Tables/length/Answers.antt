use Rattle.std.proofs.Common.{◌≡◌, Ok, option_map, ap, ◌∙◌, rules}
use Rattle.std.specs.Option.{option_map_or}
use Rattle.model.specs.Plan.{length_of, last_filled, spaces_of}
use Rattle.scene.specs.Abstract.{process_of}
use Rattle.scene.proofs.Processes.{top_is}
use Rattle.scene.proofs.tables.Tables.length.Goals as goal

pub returns-clause-value : goal.returns-clause-value
unfolding length_of
returns-clause-value c =
    let mapped : c.map_or.result ≡ option_map_or (λ s. last_filled s.slots) (option_map (λ s. s.now) c.current.result) 0 = search rules in
    ap Ok (mapped ∙ top_is _ (spaces_of (process_of c.args.self.now.processes c.args.process)) c.current.ensures)
