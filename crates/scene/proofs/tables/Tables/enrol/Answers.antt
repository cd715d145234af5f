use Rattle.std.proofs.Common.{◌≡◌, ℕ, ◌+◌, length, Ok, Err, Result, sym, refl, ap, ◌∙◌, rules}
use Rattle.std.proofs.lemmas.Result.{err_from_is_err_and}
use Rattle.model.specs.declared.signals.Fault.{Fault}
use Rattle.model.specs.Model.{Frame}
use Rattle.model.specs.Plan.{after}
use Rattle.model.specs.Kalls.{on_process}
use Rattle.model.specs.SetUp.{newcomer}
use Rattle.scene.specs.Abstract.{frame}
use Rattle.scene.proofs.Processes.{enrols, enrols_none, enrolled_frame}
use Rattle.scene.proofs.tables.Tables.enrol.Goals as goal

pub returns-in_err-i : goal.returns-in_err-i
returns-in_err-i c =
    let t = c.args.self.now in
    let long : length c.args.self.now.processes ≡ 8 = search rules in
    let p = err_from_is_err_and c.from_residual.result c.from_residual.ensures.1 in
    let none = c.in_err-i.ensures in
    let same : c.in_err-i.field-0.0 ≡ c.new.result = let q = rw none.ok_part at none.value in cc in
    rw (p.1, p.2) (rw (enrols_none t.processes long (sym none.ok_part ∙ c.unused.ensures)) (ap Err (same ∙ c.new.ensures)), refl, refl)

pub returns : goal.returns
returns c =
    let t = c.args.self.now in
    let long : length c.args.self.now.processes ≡ 8 = search rules in
    let found = enrols t.processes c.in_ok-i.i long (sym c.in_ok-i.ensures.ok_part ∙ c.unused.ensures) in (
      ap (λ (f : Frame). Ok (record { value = c.in_ok-i.i + 1; after = f })) (enrolled_frame t.objects t.slots t.given t.processes c.in_ok-i.i _ long found.0 c.new-2.ensures)
          ∙ ap (λ (r : Result ℕ Fault). after r (λ p. Ok (record { value = p; after = on_process p (λ _. newcomer) (frame t) }))) (sym found.1),
      refl,
    )
