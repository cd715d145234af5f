-- What the words of a script say.
use Rattle.std.specs.Prelude.{◌≡◌, ℕ, ◌^◌, cond, ◌&&◌, List, [], ◌∷◌, length, Ok, Err, codes, ok_or, bytes_eq, Result, nat_lt}
use Rattle.std.specs.Map.{lookup}
use Rattle.std.specs.Str.Parse.{digits_value}
use Rattle.std.specs.Str.{all_ascii_digits}
use Rattle.stage.specs.declared.script.RuleName.{RuleName}
use Rattle.stage.specs.declared.script.RuleName.TheVariants.{Bits, Steps}
use Rattle.stage.specs.declared.script.ShelfName.{ShelfName}
use Rattle.stage.specs.declared.script.ShelfName.TheVariants.{Rows, Packed}
use Rattle.stage.specs.declared.script.ElementName.{ElementName}
use Rattle.stage.specs.declared.script.ElementName.TheVariants.{Words, Floats}
use Rattle.stage.specs.declared.wrong.Wrong.{Wrong}
use Rattle.stage.specs.declared.wrong.Wrong.TheVariants.{Number, HeaderValue}

-- decimal digits and nothing else, below 2^32
abbrev pub numeral : List ℕ → Result ℕ Wrong
numeral ds =
    cond (nat_lt 0 (length ds) && (all_ascii_digits ds && nat_lt (digits_value 10 ds) (2 ^ 32))) (Ok (digits_value 10 ds)) (Err Number)

-- by a table of a header's words: a word chooses what stands beside it there, and one that does not stand there is no value of the header
abbrev pub Chooses : {T : Type 0} → List (List ℕ × T) → List ℕ → Result T Wrong → Type 0
Chooses table word result = result ≡ ok_or (lookup (bytes_eq word) table) HeaderValue

abbrev pub RuleNamed : List ℕ → Result RuleName Wrong → Type 0
RuleNamed = Chooses ((codes "bits", Bits) ∷ (codes "steps", Steps) ∷ [])

abbrev pub ShelfNamed : List ℕ → Result ShelfName Wrong → Type 0
ShelfNamed = Chooses ((codes "rows", Rows) ∷ (codes "packed", Packed) ∷ [])

abbrev pub ElementNamed : List ℕ → Result ElementName Wrong → Type 0
ElementNamed = Chooses ((codes "words", Words) ∷ (codes "floats", Floats) ∷ [])
