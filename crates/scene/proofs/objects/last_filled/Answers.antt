use Rattle.std.proofs.Common.{◌≡◌, ◌+◌, sym, ◌∙◌, rules}
use Rattle.std.specs.Option.{option_map_or}
use Rattle.scene.proofs.Filled.{last_is}
use Rattle.scene.proofs.objects.last_filled.Goals as goal

pub returns-clause-value : goal.returns-clause-value
returns-clause-value c =
    let mapped : c.map_or.result ≡ option_map_or (λ i. i + 1) c.last_index.result 0 = search rules in
    mapped ∙ sym (last_is _ _ c.last_index.ensures)
