-- A function that is changed at one name, or at one number.
use Rattle.std.proofs.Common.{◌≡◌, ℕ, true, false, cond, eqb, sym, ◌∙◌, subst, ⊎_elim}
use mathlib.Core.Path.{fun_ext}
use Rattle.std.proofs.lemmas.Bool.{eq-eqb, ne_eqb, eqb-true, cases_Bool, cases_eq, and_parts, and_from, true≢false}
use Rattle.model.specs.declared.kinds.Name.{Name}
use Rattle.model.specs.Kalls.{same_name}

pub name_is : (m n : Name) → same_name m n ≡ true → m ≡ n
name_is m n t =
    let h = and_parts (eqb m.share n.share) (eqb m.number n.number) t in
    λ j. record { share = eqb-true m.share n.share h.0 j; number = eqb-true m.number n.number h.1 j }

pub name_other : (m n : Name) → same_name m n ≡ false → m.share ≡ n.share → m.number ≡ n.number → ⊥
name_other m n t a b = true≢false (sym (and_from (eqb m.share n.share) (eqb m.number n.number) (eq-eqb m.share n.share a) (eq-eqb m.number n.number b)) ∙ t)

module _ {A : Type 0} (g : A → A) where
  pub at_name : (n : Name) (f f' : Name → A) → f' n ≡ g (f n) → ((m : Name) → same_name m n ≡ false → f' m ≡ f m) → f' ≡ (λ m. cond (same_name m n) (g (f m)) (f m))
  at_name n f f' here there = fun_ext (λ m.
      ⊎_elim
      (λ t. rw t (subst (λ (x : Name). f' x ≡ g (f x)) (sym (name_is m n t)) here))
      (λ t. rw t (there m t))
      (cases_Bool (same_name m n)))

  pub at_number : (s : ℕ) (f f' : ℕ → A) → f' s ≡ g (f s) → ((t : ℕ) → (t ≡ s → ⊥) → f' t ≡ f t) → f' ≡ (λ t. cond (eqb t s) (g (f t)) (f t))
  at_number s f f' here there = fun_ext (λ t.
      ⊎_elim
      (λ (e : t ≡ s). rw (eq-eqb t s e) (subst (λ (x : ℕ). f' x ≡ g (f x)) (sym e) here))
      (λ (e : t ≡ s → ⊥). rw (ne_eqb t s e) (there t e))
      (cases_eq t s))
