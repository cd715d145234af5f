use Rattle.std.proofs.Common.{◌≡◌, length, Err, sym, refl, ap, ◌∙◌, rules}
use Rattle.std.proofs.lemmas.Result.{err_from_is_err_and}
use Rattle.scene.proofs.Bodies.{lives_is}
use Rattle.scene.proofs.Ending.{end_frame, end_homes, end_bounded, end_distinct}
use Rattle.scene.proofs.tables.Tables.end.Goals as goal

pub returns-in_err-place : goal.returns-in_err-place
returns-in_err-place c =
    let t = c.args.self.now in
    let long : length c.args.self.now.objects ≡ 160 = search rules in
    let p = err_from_is_err_and c.from_residual.result c.from_residual.ensures.1 in
    let none = c.in_err-place.ensures in
    let gone = lives_is t.objects t.slots t.given t.processes c.args.name c.find.result long c.find.ensures.value ∙ sym none.variant in
    let same : c.in_err-place.field-0.0 ≡ c.new.result = let q = rw none.ok_part at none.value in cc in
    rw (p.1, p.2) (rw gone (ap Err (same ∙ c.new.ensures)), refl, refl)

pub invariant_of-self : goal.invariant_of-self
invariant_of-self c =
    let t = c.args.self.now in
    let long : length c.args.self.now.objects ≡ 160 = search rules in
    let found = sym c.in_ok-place.ensures.ok_part ∙ c.find.ensures.value in
    record {
      bounded = end_bounded t.objects c.args.name c.in_ok-place.place long found t.distinct t.given t.bounded;
      distinct = end_distinct t.objects c.args.name c.in_ok-place.place long found t.distinct;
    }

pub returns : goal.returns
returns c =
    let t = c.args.self.now in
    let long : length c.args.self.now.objects ≡ 160 = search rules in
    let found = sym c.in_ok-place.ensures.ok_part ∙ c.find.ensures.value in (
      rw (lives_is t.objects t.slots t.given t.processes c.args.name _ long found),
      end_frame t.objects c.args.name c.in_ok-place.place long found t.distinct t.slots t.given t.processes,
      end_homes t.objects c.args.name c.in_ok-place.place long found t.distinct,
    )
