-- Rights as steps of a review: code c grants the right k from its first step on.
use Rattle.std.specs.Prelude.{ℕ, min, max, cond, ◌&&◌, ◌||◌, ◌==◌, nat_le, nat_lt}
use Rattle.model.specs.Model.{Rule}
use Rattle.rights.specs.Codes.{on_every}

-- the step that first grants the right k; none has the rights above 20
abbrev pub first_step : ℕ → ℕ
first_step k =
    cond (k == 0) 0
    (cond (k == 1 || k == 12) 3
    (cond (k == 2 || (k == 6 || (k == 11 || (nat_le 13 k && nat_le k 20)))) 1
    (cond (nat_le k 10) 2
    4)))

abbrev pub valid_steps : Rule
valid_steps =
    record {
      valid = λ c. nat_lt c 4;
      grants = λ c k. nat_le (first_step k) c;
      restrict = λ c m. min c m;
      strip = λ c. min c 1;
      add_delete = λ c. c;
      admit = λ a n. min n (max a 1);
      full = 3;
    }

abbrev pub steps : Rule
steps = on_every valid_steps
