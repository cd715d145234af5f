use Rattle.std.specs.Prelude.{◌≡◌, ℕ, true}
use Rattle.std.proofs.Common.{ap, ◌∙◌, sym}
use Rattle.std.proofs.lemmas.Bool.{cond-true, cond-false, cond_both}
use Rattle.model.specs.Model.{Rule, InvalidAsZero}
use Rattle.rights.specs.Codes.{reading, on_every}

pub itself : (rule : Rule) (c : ℕ) → rule.valid c ≡ true → reading rule c ≡ c
itself rule c e = cond-true (rule.valid c) c 0 e

pub stays_valid : (rule : Rule) → rule.valid 0 ≡ true → (c : ℕ) → rule.valid (reading rule c) ≡ true
stays_valid rule zero_valid c = cond_both (rule.valid c) c 0 (λ x. rule.valid x ≡ true) (λ e. e) (λ e. zero_valid)

pub invalid : (rule : Rule) → rule.valid 0 ≡ true → InvalidAsZero (on_every rule)
invalid rule zero_valid c e =
    let z : reading rule c ≡ reading rule 0 =
    cond-false (rule.valid c) c 0 e ∙ sym (itself rule 0 zero_valid) in
    record {
      grants = λ k. ap (λ (x : ℕ). rule.grants x k) z;
      restrict = λ m. ap (λ (x : ℕ). rule.restrict x (reading rule m)) z;
      restrict_by = λ r. ap (λ (x : ℕ). rule.restrict (reading rule r) x) z;
      strip = ap rule.strip z;
      add_delete = ap rule.add_delete z;
      admit = λ n. ap (λ (x : ℕ). rule.admit x (reading rule n)) z;
      admit_as = λ a. ap (λ (x : ℕ). rule.admit (reading rule a) x) z;
    }
