use Rattle.std.proofs.Common.{ℕ, ◌≡◌, ◌+◌, ◌++◌, List, take, drop, length, sym, refl, ap, ◌∙◌, arith}
use Rattle.std.proofs.lemmas.List.{append-nil, drop_all}
use Rattle.shelf.specs.Places.{element_at}
use Rattle.reading.proofs.Parts.{element_answers, element_told}
use Rattle.reading.proofs.Copying.{copied_more}
use Rattle.reading.proofs.data.copy.Goals as goal

pub loop-i-init : goal.loop-i-init
loop-i-init g c = (refl, refl)

pub unwrap-requires : goal.unwrap-requires
unwrap-requires g c =
    let h = g.S.ReadableShelf.holds c.args.shelf.now in
    let i : ℕ = c.args.start + c.loop-i.i in
    element_answers c.args.place c.requires.place.0 c.requires.place.1 h c.element.result i
    (c.element.ensures.answer ∙ ap (element_at c.args.place (i + 1)) c.loop-i.invariant.0)
    (omega arith)

pub loop-i-preserved : goal.loop-i-preserved
loop-i-preserved g c =
    let h = g.S.ReadableShelf.holds c.args.shelf.now in
    let i : ℕ = c.args.start + c.loop-i.i in
    let same = c.loop-i.invariant.0 in
    let answer = sym c.unwrap.ensures ∙ c.element.ensures.answer ∙ ap (element_at c.args.place (i + 1)) same in
    let is = element_told c.args.place c.requires.place.0 c.requires.place.1 h c.unwrap.result i answer (omega arith) in (
      c.element.ensures.same ∙ same,
      copied_more (h c.args.place) c.args.cells.now c.loop-i.cells c.args.start c.loop-i.i (length c.args.cells.now) c.unwrap.result
          c.requires.there.0 (omega arith) c.loop-i-test.true is c.loop-i.invariant.1,
    )

pub returns-clause-same : goal.returns-clause-same
returns-clause-same g c = c.loop-i.invariant.0

pub returns-clause-value : goal.returns-clause-value
returns-clause-value g c =
    let n = length c.args.cells.now in
    let e : c.loop-i.i ≡ n = omega arith in
    let part = drop c.args.start (g.S.ReadableShelf.holds c.args.shelf.now c.args.place) in
    c.loop-i.invariant.1 ∙ ap (λ (i : ℕ). take i part ++ drop i c.args.cells.now) e
    ∙ ap (λ (ys : List g.row.S-Element.Denot). take n part ++ ys) (drop_all n c.args.cells.now (omega arith)) ∙ append-nil (take n part)
