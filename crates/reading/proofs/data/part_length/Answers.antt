use Rattle.std.proofs.Common.{ℕ, length, Option, sym, ap, ◌∙◌}
use Rattle.scene.specs.Abstract.{elements_at}
use Rattle.reading.proofs.Parts.{length_told, length_answers}
use Rattle.reading.proofs.data.part_length.Goals as goal

pub unwrap-requires : goal.unwrap-requires
unwrap-requires g c =
    let on = c.in-Some.ensures.within in
    length_answers c.in-Some.place on.0 on.1 (g.S.ReadableShelf.holds c.args.shelf.now) _ c.length.ensures.answer

pub returns : goal.returns
returns g c =
    let h = g.S.ReadableShelf.holds c.args.shelf.now in
    let on = c.in-Some.ensures in
    let told = length_told c.in-Some.place on.within.0 on.within.1 h c.unwrap.result (sym c.unwrap.ensures ∙ c.length.ensures.answer) in
    record {
      same = c.length.ensures.same;
      value = told ∙ ap (λ (o : Option ℕ). length (elements_at h o)) on.value;
      bound = rw c.unwrap.ensures at c.length.ensures.short;
    }
