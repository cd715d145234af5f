-- Set-up keeps to the house.
use Rattle.std.proofs.Common.{◌≡◌, ℕ, Bool, true, false, cond, leb, List, length, Ok, Err, Result, sym, ap, subst}
use Rattle.model.specs.declared.signals.Fault.{Fault}
use Rattle.model.specs.declared.signals.Signal.TheVariants.{Slim}
use Rattle.model.specs.Signals.{fault}
use Rattle.model.specs.Model.{Frame, World}
use Rattle.model.specs.Plan.{after}
use Rattle.model.specs.Kalls.{on_process, made}
use Rattle.model.specs.SetUp.{HouseObjects, HouseHeld, HouseListed, Change, Sets, Creates, enrol, unenrolled, newcomer}
use Rattle.scene.proofs.Filling.{not_ok}
use Rattle.model.proofs.Opened.{Opened, opened_enrolled, opened_made}

abbrev pub Housed : Frame → Type 0
Housed f = record { objects : HouseObjects f; held : HouseHeld f; listed : HouseListed f }

pub housed : (f f' : Frame) → f' ≡ f → Opened f → Housed f'
housed f f' e o = subst Housed (sym e) (record { objects = o.objects; held = o.held; listed = o.listed })

pub enrol_housed : {H : Type 0} (r : Result ℕ Fault) (f f' : Frame) (h h' : H) → Opened f → Sets r f h f' h' (enrol f) → Housed f'
enrol_housed (Err e) f f' h h' o s = housed f f' s.1 o
enrol_housed (Ok v) f f' h h' o s = go (unenrolled f.process 8 1) s.0
  where
    go : (u : Result ℕ Fault) → ◌≡◌ {A = Result (Change Frame) Fault} (Ok (record { value = v; after = f' })) (after u (λ p. Ok (record { value = p; after = on_process p (λ _. newcomer) f }))) → Housed f'
    go (Err e) q = absurd (not_ok (sym q))
    go (Ok p) q =
        let r : ◌≡◌ {A = Change Frame} (record { value = v; after = f' }) (record { value = p; after = on_process p (λ _. newcomer) f }) = cc in
        let e : f' ≡ on_process p (λ _. newcomer) f = ap (λ (x : Change Frame). x.after) r in
        housed (on_process p (λ _. newcomer) f) f' e (opened_enrolled o p)

pub create_housed : {E : Type 0} (r : Result ℕ Fault) (kind : ℕ) (xs : List E) (w w' : World E) → Opened w.frame → Creates 0 kind xs w w' r → Housed w'.frame
create_housed (Err e) kind xs w w' o s = housed w.frame w'.frame (ap (λ x. x.frame) s.1) o
create_housed (Ok v) kind xs w w' o s = housed (made 0 kind w.frame) w'.frame (ap (λ x. x.frame) s.1) (opened_made o kind)
