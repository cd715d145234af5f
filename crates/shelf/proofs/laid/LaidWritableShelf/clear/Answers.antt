use Rattle.std.proofs.Common.{ℕ, ap, refl, ◌∙◌}
use Rattle.shelf.specs.Held.{held}
use Rattle.shelf.specs.Places.{cleared}
use Rattle.shelf.proofs.Answering.{told, is_place_of, writes_no, cleared_yes, cleared_nowhere}
use Rattle.shelf.proofs.Laying.{held_cleared}
use Rattle.shelf.proofs.laid.LaidWritableShelf.clear.Goals as goal

pub returns-in_err-place : goal.returns-in_err-place
returns-in_err-place g c =
    let h = held g.L.Layout.start c.args.self.now in
    writes_no h _ _ _ c.from_residual.ensures.1 (cleared_nowhere h c.args.place _ c.in_err-place.ensures)

pub returns : goal.returns
returns g c =
    let start = g.L.Layout.start in
    let self = c.args.self.now in
    let after = c.resize.new.self in
    let h = held start self in
    let p = c.in_ok-place.place in
    let none = held_cleared start g.met.L.Layout.lawful self p 0 after c.resize.ensures.lengths c.resize.ensures.moved refl in
    cleared_yes h (held start after) p.number (is_place_of p.number p.from_one p.to_last) none ∙ ap (λ (q : ℕ). cleared q h) (told _ _ _ c.in_ok-place.ensures).1
