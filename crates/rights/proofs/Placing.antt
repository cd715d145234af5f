use Rattle.std.proofs.Common.{◌≡◌, ℕ, suc, List, [], ◌∷◌, Some, None, sym, refl, ◌∙◌, ⊎_elim}
use Rattle.std.specs.Str.{bytes_eq}
use Rattle.std.proofs.lemmas.Slice.Eq.{bytes_eq-Decides}
use Rattle.std.proofs.lemmas.Bool.{cases_Bool, cond-false}
use Rattle.rights.specs.Names.{place}

abbrev pub Unlike : List ℕ → List (List ℕ) → Type 0
Unlike text [] = Unit {0}
Unlike text (name ∷ names) = (text ≡ name → ⊥) × Unlike text names

pub unplaced : (names : List (List ℕ)) (text : List ℕ) (i : ℕ) → Unlike text names → None ≡ place names text i
unplaced [] text i h = refl
unplaced (name ∷ names) text i h =
    unplaced names text (suc i) h.1
    ∙ sym (cond-false (bytes_eq text name) (Some i) (place names text (suc i))
    (⊎_elim (λ e. absurd (h.0 ((bytes_eq-Decides text name).0 e))) (λ e. e) (cases_Bool (bytes_eq text name))))
