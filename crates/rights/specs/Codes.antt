-- A rule that is given on valid codes, on every code: an invalid one is read as 0, wherever it stands.
use Rattle.std.specs.Prelude.{ℕ, cond}
use Rattle.model.specs.Model.{Rule}

abbrev pub reading : Rule → ℕ → ℕ
reading rule c = cond (rule.valid c) c 0

abbrev pub on_every : Rule → Rule
on_every rule =
    record {
      valid = rule.valid;
      grants = λ c k. rule.grants (reading rule c) k;
      restrict = λ c m. rule.restrict (reading rule c) (reading rule m);
      strip = λ c. rule.strip (reading rule c);
      add_delete = λ c. rule.add_delete (reading rule c);
      admit = λ a n. rule.admit (reading rule a) (reading rule n);
      full = rule.full;
    }
