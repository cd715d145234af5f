-- A walk, one index further.
use Rattle.std.proofs.Common.{◌≡◌, ℕ, ◌+◌, ◌<◌, Bool, true, ◌&&◌, List, [], ◌∷◌, length, drop, Ok, Err, Result, ◌==◌, sym, refl, ap, arith}
use Rattle.std.proofs.lemmas.Bool.Decides.{nat_tests}
use mathlib.Core.Bool.{false, false≢true}
use Rattle.model.specs.declared.signals.Fault.{Fault}
use Rattle.model.specs.declared.signals.Signal.TheVariants.{Spath}
use Rattle.model.specs.Signals.{fault}
use Rattle.model.specs.declared.kinds.Holder.{Holder}
use Rattle.model.specs.declared.kinds.Holder.TheVariants.{Mine, Listed}
use Rattle.model.specs.Model.{Frame, Rule, ucnfrts}
use Rattle.model.specs.Plan.{after, path_ok, object_at, asked_of, go, walk}

pub walk_is : (r : Rule) (f : Frame) (p : ℕ) (ks ls path : List ℕ) (x : Unit {0}) → Ok x ≡ path_ok (length path) → walk r ks ls p path f ≡ go r ks ls p path Mine 1 true f
unfolding walk
walk_is r f p ks ls path x e = ap (λ (y : Result (Unit {0}) Fault). after y (λ _. go r ks ls p path Mine 1 true f)) (sym e)

filled : (n : ℕ) → 0 < n → true ≡ (n == 0) → ⊥
filled n l z = grind (arith, nat_tests)

pub go_none : (r : Rule) (f : Frame) (p : ℕ) (ks ls rest : List ℕ) (h : Holder) (at : ℕ) (clear : Bool) → length rest ≡ 0
    → go r ks ls p rest h at clear f ≡ Err (fault Spath 0)
unfolding go
go_none r f p ks ls [] h at clear z = refl
go_none r f p ks ls (i ∷ is) h at clear z = absurd (omega arith)

module _ (r : Rule) (f : Frame) (p : ℕ) (ks ls : List ℕ) (i : ℕ) (h : Holder) (at : ℕ) (clear : Bool) where
  pub go_last : (later rest : List ℕ) → rest ≡ i ∷ later → true ≡ (length later == 0)
      → go r ks ls p rest h at clear f ≡ Ok (record { site = record { holder = h; index = i; at = at }; clear = clear })
  unfolding go
  go_last [] rest e z = rw e
  go_last (j ∷ is) rest e z = absurd (filled (length (j ∷ is)) (omega arith) z)

  pub go_step : (later rest rights : List ℕ) → rest ≡ i ∷ later → false ≡ (length later == 0) → rights ≡ asked_of ks ls (drop 1 later)
      → go r ks ls p rest h at clear f ≡ after (object_at r rights p h i at f) (λ c. go r ks ls p later (Listed c.name) (at + 1) (clear && r.grants c.rights ucnfrts) f)
  unfolding go
  go_step [] rest rights e l a = absurd (false≢true l)
  go_step (j ∷ is) rest rights e l a = rw (e, a)
