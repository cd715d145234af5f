-- The names of the rights 0 to 12, and where a text stands among them.
use Rattle.std.specs.Prelude.{ℕ, suc, cond, List, [], ◌∷◌, Some, None, codes, Option}
use Rattle.std.specs.Str.{bytes_eq}

abbrev pub right_names : List (List ℕ)
right_names =
    codes "DLTRTS" ∷ codes "ENVRTS" ∷ codes "LOADRTS" ∷ codes "STORTS" ∷ codes "APPRTS" ∷ codes "KILLRTS" ∷ codes "GETRTS"
    ∷ codes "PUTRTS" ∷ codes "ADDRRTS" ∷ codes "MDFYRTS" ∷ codes "UCNFRTS" ∷ codes "CALLRTS" ∷ codes "ERASERTS" ∷ []

-- the place of the first name that is the text, counted from i
abbrev pub place : List (List ℕ) → List ℕ → ℕ → Option ℕ
place [] text i = None
place (name ∷ names) text i = cond (bytes_eq text name) (Some i) (place names text (suc i))
