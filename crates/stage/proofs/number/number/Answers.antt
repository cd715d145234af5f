-- What `parse` reads of a word that no plus begins is the word's number.
use Rattle.std.proofs.Common.{lit<, rules}
use Rattle.std.proofs.lemmas.Str.Parse.{numerals_by_value, tells_all_ascii_digits, parse_plain}
use Rattle.std.proofs.lemmas.Str.Pattern.{starts_char}
use Rattle.stage.proofs.number.number.Goals as goal

pub returns : goal.returns
returns c =
    let bs = c.args.word.now in
    let plus = starts_char 43 bs c.starts_with.result c.starts_with.ensures.cases (lit< tt) (lit< tt) in
    let told = parse_plain (numerals_by_value _ tells_all_ascii_digits) 32 bs c.parse.result c.parse.ensures.value.0 (search rules) in
    search rules
