use Rattle.std.proofs.Common.{ℕ}
use Rattle.std.proofs.lemmas.List.{length-replicate}
use Rattle.shelf.proofs.Shortness.{short_new}
use Rattle.shelf.proofs.lengths.Lengths.new.Goals as goal

pub invariant_of-result : goal.invariant_of-result
invariant_of-result c = record { short = short_new 160; whole = length-replicate {A = ℕ} 160 0 }
