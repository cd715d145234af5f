use Rattle.std.proofs.Common.{◌≡◌, ℕ, ◌++◌, List, take, sym, ap, ◌∙◌, arith}
use Rattle.model.specs.Plan.{after}
use Rattle.model.specs.Kalls.{lengthened}
use Rattle.scene.specs.Abstract.{elements_at, homes}
use Rattle.shelf.specs.Places.{with_place}
use Rattle.scene.proofs.Homes.{no_limit}
use Rattle.writing.proofs.Filled.{fills, lengthens}
use Rattle.writing.proofs.writes.add_block.Goals as goal

pub returns-in_default : goal.returns-in_default
returns-in_default g c =
    let none = no_limit c.args.tables.now c.args.name c.in_default.ensures.value in
    let zero : ◌≡◌ {A = ℕ} c.part_limit-limit.result 0 = let q = c.part_limit-limit.ensures.value ∙ none in cc in
    absurd (omega arith)

pub returns : goal.returns
returns g c =
    let E = g.row.S-Element.Denot in
    let t = c.args.tables.now in
    let h = g.S.ReadableShelf.holds c.args.shelf.now in
    let part = elements_at h (homes t c.args.name) in
    let xs = take c.args.knt c.args.buffer.now in
    let same = c.part_length-length.ensures.same in
    let on : h c.in-Some.place ≡ part = ap (elements_at h) c.in-Some.ensures.value in
    let laid : g.S.ReadableShelf.holds c.extend.new.shelf ≡ with_place c.in-Some.place (part ++ xs) h =
    c.extend.ensures
    ∙ ap (λ (k : ℕ → List E). with_place c.in-Some.place (k c.in-Some.place ++ xs) k) same
    ∙ ap (λ (ys : List E). with_place c.in-Some.place (ys ++ xs) h) on
    in
    fills t c.args.name c.in-Some.place h (g.S.ReadableShelf.holds c.extend.new.shelf) c.in-Some.ensures.value c.in-Some.ensures.alone
    (part ++ xs) _ laid
    (ap (λ m. after m (λ most. lengthened c.args.knt most c.args.buffer.now part)) (sym c.part_limit-limit.ensures.value)
    ∙ lengthens c.args.knt c.part_limit-limit.result c.args.buffer.now part (omega arith) (omega arith) (omega arith))
