use Rattle.std.proofs.Common.{ℕ, ap, ◌∙◌}
use Rattle.shelf.specs.Held.{held}
use Rattle.shelf.specs.Places.{appended}
use Rattle.shelf.proofs.Answering.{told, longer_told, is_place_of, writes_no, appended_yes, appended_no, appended_nowhere}
use Rattle.shelf.proofs.Laying.{held_size, held_appended}
use Rattle.shelf.proofs.laid.LaidWritableShelf.append.Goals as goal

pub returns-in_err-place : goal.returns-in_err-place
returns-in_err-place g c =
    let h = held g.L.Layout.start c.args.self.now in
    writes_no h _ _ _ c.from_residual.ensures.1 (appended_nowhere h c.args.place _ c.in_err-place.ensures c.args.element)

pub returns-in_err-longer : goal.returns-in_err-longer
returns-in_err-longer g c =
    let start = g.L.Layout.start in
    let self = c.args.self.now in
    let h = held start self in
    let p = c.in_ok-place.place in
    let x = c.args.element in
    writes_no h _ _ _ c.from_residual-in_err-longer.ensures.1
    (appended_no h self.lengths.table p.number (held_size start g.met.L.Layout.lawful self p.number) x _ (is_place_of p.number p.from_one p.to_last) c.in_err-longer.ensures ∙
    ap (λ (q : ℕ). appended q x h) (told _ _ _ c.in_ok-place.ensures).1)

pub returns : goal.returns
returns g c =
    let start = g.L.Layout.start in
    let law = g.met.L.Layout.lawful in
    let self = c.args.self.now in
    let after = c.resize.new.self in
    let h = held start self in
    let ls = self.lengths.table in
    let p = c.in_ok-place.place in
    let n = c.in_ok-longer.longer.count in
    let x = c.args.element in
    let more = held_appended start law self p n after c.resize.ensures.lengths c.resize.ensures.moved c.resize.result x c.resize.ensures.begins (longer_told ls p.number n c.in_ok-longer.ensures) in
    appended_yes h ls p.number (held_size start law self p.number) n x _ (is_place_of p.number p.from_one p.to_last) c.in_ok-longer.ensures more ∙
    ap (λ (q : ℕ). appended q x h) (told _ _ _ c.in_ok-place.ensures).1
