use Rattle.std.proofs.Common.{rules}
use Rattle.rights.specs.Names.{right_names}
use Rattle.rights.proofs.Placing.{unplaced}
use Rattle.rights.proofs.names.right_by_name.Goals as goal

pub returns-in_default : goal.returns-in_default
returns-in_default c = unplaced right_names c.args.text.now 0 (search rules)
