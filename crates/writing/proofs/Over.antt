-- A place written element by element.
use Rattle.std.proofs.Common.{◌≡◌, ℕ, ◌+◌, ◌-◌, ◌<◌, ◌≤◌, true, eqb, leb, ltb, List, [], ◌∷◌, ◌++◌, length, get_or, take, drop, set, is_ok, Ok, Err, Result, sym, refl, ap, ◌∙◌, ⊎_elim, append_assoc, arith}
use mathlib.Core.Path.{fun_ext}
use Rattle.std.proofs.lemmas.Bool.{eqb-true, cases_Bool, le-leb, lt-ltb}
use Rattle.std.proofs.lemmas.List.{take_more, drop_more, set_at, length-take-le, length-drop, take-append-drop, append-nil, length-append}
use Rattle.model.specs.declared.signals.Fault.{Fault}
use Rattle.shelf.proofs.Answering.{is_place_of}
use Rattle.shelf.specs.Places.{is_place, with_place, replaced, appended, Writes}
use Rattle.scene.proofs.Filling.{not_ok, here, again}

-- a write that cannot be refused
wrote : {E : Type 0} (r : Result (Unit {0}) Fault) (h h' k : ℕ → List E) (m : Result (ℕ → List E) Fault) → Writes r h h' m → m ≡ Ok k → (is_ok r ≡ true) × (h' ≡ k)
wrote (Ok x) h h' k m q e = (refl, let r : Ok h' ≡ Ok k = q ∙ e in cc)
wrote (Err x) h h' k m q e = absurd (not_ok (q.0 ∙ e))

module _ {E : Type 0} (p : ℕ) (h : ℕ → List E) where
  -- its own sequence, put again
  pub unchanged : with_place p (h p) h ≡ h
  unfolding with_place
  unchanged = fun_ext (λ q. ⊎_elim (λ t. rw t (ap h (sym (eqb-true q p t)))) (λ t. rw t) (cases_Bool (eqb q p)))

  pub before_any : (start : ℕ) (xs : List E) → h ≡ with_place p (take start (h p) ++ (take 0 xs ++ drop (start + 0) (h p))) h
  before_any start xs =
      let z : start + 0 ≡ start = omega arith in
      sym (rw z (ap (λ (l : List E). with_place p l h) (take-append-drop start (h p)) ∙ unchanged))

  pub before_more : (xs : List E) → h ≡ with_place p (h p ++ take 0 xs) h
  before_more xs = sym (ap (λ (l : List E). with_place p l h) (append-nil (h p)) ∙ unchanged)

  module _ (low : 1 ≤ p) (high : p ≤ 160) where
    place : is_place p ≡ true
    place = is_place_of p low high

    module _ (xs : List E) (i : ℕ) (x : E) (more : i < length xs) (is : get_or xs i x ≡ x) where
      next : take (i + 1) xs ≡ take i xs ++ (x ∷ [])
      next = take_more xs i x more ∙ rw is

      module _ (start : ℕ) (there : start + length xs ≤ length (h p)) where
        abbrev part : List E
        part = h p

        long : length (take start part ++ (take i xs ++ drop (start + i) part)) ≡ length part
        long = omega (arith, length-append (take start part) (take i xs ++ drop (start + i) part), length-append (take i xs) (drop (start + i) part), length-take-le start part (omega arith), length-take-le i xs (omega arith), length-drop (start + i) part)

        ahead : length (take start part ++ take i xs) ≡ start + i
        ahead = omega (arith, length-append (take start part) (take i xs), length-take-le start part (omega arith), length-take-le i xs (omega arith))

        put : set (take start part ++ (take i xs ++ drop (start + i) part)) (start + i) x ≡ take start part ++ (take (i + 1) xs ++ drop (start + (i + 1)) part)
        put =
            let z : start + i + 1 ≡ start + (i + 1) = omega arith in
            let d : drop (start + i) part ≡ get_or part (start + i) x ∷ drop (start + (i + 1)) part = rw z at (drop_more part (start + i) x (omega arith)) in
            ap (λ (l : List E). set l (start + i) x) (sym (append_assoc (take start part) (take i xs) (drop (start + i) part)) ∙ ap (λ (l : List E). (take start part ++ take i xs) ++ l) d)
            ∙ set_at (take start part ++ take i xs) (get_or part (start + i) x) (drop (start + (i + 1)) part) x (start + i) ahead
            ∙ append_assoc (take start part) (take i xs) (x ∷ drop (start + (i + 1)) part)
            ∙ ap (λ (l : List E). take start part ++ l) (sym (append_assoc (take i xs) (x ∷ []) (drop (start + (i + 1)) part)) ∙ ap (λ (l : List E). l ++ drop (start + (i + 1)) part) (sym next))

        replaces : (h' : ℕ → List E) → h' ≡ with_place p (take start part ++ (take i xs ++ drop (start + i) part)) h → replaced p (start + i + 1) x h' ≡ Ok (with_place p (take start part ++ (take (i + 1) xs ++ drop (start + (i + 1)) part)) h)
        unfolding replaced
        replaces h' so_far =
            let old : List E = take start part ++ (take i xs ++ drop (start + i) part) in
            let s : h' p ≡ old = ap (λ (f : ℕ → List E). f p) so_far ∙ here p h old in
            let back : start + i + 1 - 1 ≡ start + i = omega arith in
            let b : leb (start + i + 1) (length old) ≡ true = le-leb (start + i + 1) (length old) (omega (arith, long)) in
            rw (s, place, le-leb 1 (start + i + 1) (omega arith), b, back, so_far)
            (ap Ok (again p h (set old (start + i) x) old ∙ ap (λ (l : List E). with_place p l h) put))

        pub one_replaced : (r : Result (Unit {0}) Fault) (h' h'' : ℕ → List E) → h' ≡ with_place p (take start part ++ (take i xs ++ drop (start + i) part)) h → Writes r h' h'' (replaced p (start + i + 1) x h') → (is_ok r ≡ true) × (h'' ≡ with_place p (take start part ++ (take (i + 1) xs ++ drop (start + (i + 1)) part)) h)
        one_replaced r h' h'' so_far w = wrote r h' h'' _ _ w (replaces h' so_far)

      appends : length (h p) + length xs ≤ 64 → (h' : ℕ → List E) → h' ≡ with_place p (h p ++ take i xs) h → appended p x h' ≡ Ok (with_place p (h p ++ take (i + 1) xs) h)
      unfolding appended
      appends few h' so_far =
          let s : h' p ≡ h p ++ take i xs = ap (λ (f : ℕ → List E). f p) so_far ∙ here p h (h p ++ take i xs) in
          let b : ltb (length (h p ++ take i xs)) 64 ≡ true = lt-ltb (length (h p ++ take i xs)) 64 (omega (arith, length-append (h p) (take i xs), length-take-le i xs (omega arith))) in
          rw (s, place, b, so_far)
          (ap Ok (again p h ((h p ++ take i xs) ++ (x ∷ [])) (h p ++ take i xs)
          ∙ ap (λ (l : List E). with_place p l h) (append_assoc (h p) (take i xs) (x ∷ []) ∙ ap (λ (l : List E). h p ++ l) (sym next))))

      pub one_appended : length (h p) + length xs ≤ 64 → (r : Result (Unit {0}) Fault) (h' h'' : ℕ → List E) → h' ≡ with_place p (h p ++ take i xs) h → Writes r h' h'' (appended p x h') → (is_ok r ≡ true) × (h'' ≡ with_place p (h p ++ take (i + 1) xs) h)
      one_appended few r h' h'' so_far w = wrote r h' h'' _ _ w (appends few h' so_far)
