-- Rights as a word of 21 bits: bit k grants the right k.
use Rattle.std.specs.Prelude.{ℕ, ◌/◌, ◌%◌, ◌^◌, Bool, ◌&&◌, ◌==◌, bit_and, bit_or, nat_le, nat_lt}
use Rattle.model.specs.Model.{Rule}
use Rattle.rights.specs.Codes.{on_every}

abbrev pub bit : ℕ → ℕ → Bool
bit c k = (c / 2 ^ k) % 2 == 1

-- 2095615 is all bits but 9 and 10, and 2095613 all but 1, 9 and 10
abbrev pub valid_bits : Rule
valid_bits =
    record {
      valid = λ c. nat_lt c 2097152;
      grants = λ c k. nat_le k 20 && bit c k;
      restrict = λ c m. bit_and c m;
      strip = λ c. bit_and c 2095615;
      add_delete = λ c. bit_or c 1;
      admit = λ a n. bit_and n (bit_or a 2095613);
      full = 8191;
    }

abbrev pub bits : Rule
bits = on_every valid_bits
