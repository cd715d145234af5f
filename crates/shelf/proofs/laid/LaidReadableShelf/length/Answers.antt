use Rattle.std.proofs.Common.{ℕ, ap, Ok, ◌∙◌}
use Rattle.shelf.specs.Held.{held}
use Rattle.shelf.specs.Places.{length_at}
use Rattle.shelf.proofs.Answering.{told, answer_no, is_place_of, length_yes, length_nowhere}
use Rattle.shelf.proofs.Laying.{held_size}
use Rattle.shelf.proofs.laid.LaidReadableShelf.length.Goals as goal

pub returns-in_err-place-clause-answer : goal.returns-in_err-place-clause-answer
returns-in_err-place-clause-answer g c =
    answer_no _ c.from_residual.ensures.1 (length_nowhere (held g.L.Layout.start c.args.self.now) c.args.place _ c.in_err-place.ensures)

pub returns-clause-answer : goal.returns-clause-answer
returns-clause-answer g c =
    let start = g.L.Layout.start in
    let self = c.args.self.now in
    let h = held start self in
    let p = c.in_ok-place.place in
    ap Ok c.of.ensures ∙
    length_yes h self.lengths.table p.number (held_size start g.met.L.Layout.lawful self p.number) (is_place_of p.number p.from_one p.to_last) ∙
    ap (λ (q : ℕ). length_at q h) (told _ _ _ c.in_ok-place.ensures).1
