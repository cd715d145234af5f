use Rattle.std.specs.Prelude.{◌≡◌, ℕ, ◌≤◌, min, max, true, false, ◌&&◌, ◌||◌, leb, ◌⊎◌, ◌==◌, nat_le, refl}
use Rattle.std.proofs.Common.{ap, ◌∙◌, sym, arith}
use Rattle.std.proofs.lemmas.Bool.Decides.{nat_tests}
use Rattle.std.proofs.lemmas.Bool.{ltb-true, lt-ltb, and_parts, and_right}
use Rattle.model.specs.Model.{Laws}
use Rattle.rights.specs.Steps.{steps, valid_steps, first_step}
use Rattle.rights.specs.Codes.{reading}
use Rattle.rights.specs.Reading.{itself, stays_valid}

abbrev as_step : ℕ → ℕ
as_step c = reading valid_steps c

valid : (c : ℕ) → steps.valid (as_step c) ≡ true
valid c = stays_valid valid_steps refl c

smaller : (c y : ℕ) → steps.valid (min (as_step c) y) ≡ true
smaller c y = let h = ltb-true _ 4 (valid c) in lt-ltb _ 4 (omega arith)

step_of : (f c : ℕ) → steps.valid c ≡ true → nat_le f (as_step c) ≡ nat_le f c
step_of f c h = ap (leb f) (itself valid_steps c h)

of_both : (f x y : ℕ) → nat_le f (min x y) ≡ (nat_le f x && nat_le f y)
of_both f x y = grind (arith, nat_tests)

-- the smaller of two steps grants what both grant
both : (f c y : ℕ) → nat_le f (as_step (min (as_step c) y)) ≡ (nat_le f (as_step c) && nat_le f y)
both f c y = step_of f _ (smaller c y) ∙ of_both f (as_step c) y

deletes : (k c : ℕ) → nat_le (first_step k) c ≡ (nat_le (first_step k) c || k == 0)
deletes k c = grind (arith, nat_tests)

guarded : (k a : ℕ) → (k ≡ 1) ⊎ ((k ≡ 9) ⊎ (k ≡ 10)) → nat_le (first_step k) (max a 1) ≡ true → nat_le (first_step k) a ≡ true
guarded k a h e = grind (arith, nat_tests)

full_from : (k : ℕ) → k ≤ 12 → nat_le (first_step k) 3 ≡ true
full_from k h = grind (arith, nat_tests)

pub lawful : Laws steps
lawful =
    record {
      restrict_both = λ r m k h. both (first_step k) r (as_step m);
      strip_less = λ r k h e. (and_parts _ _ (sym (both (first_step k) r 1) ∙ e)).0;
      strip_modify = λ r. both 2 r 1 ∙ and_right _ false refl;
      strip_unconfined = λ r. both 2 r 1 ∙ and_right _ false refl;
      add_delete_exact = λ r k h. step_of (first_step k) (as_step r) (valid r) ∙ deletes k (as_step r);
      admit_new = λ a n k h e. (and_parts _ _ (sym (both (first_step k) n (max (as_step a) 1)) ∙ e)).0;
      admit_given = λ a n k h e.
          guarded k (as_step a) h (and_parts _ _ (sym (both (first_step k) n (max (as_step a) 1)) ∙ e)).1;
      full_grants = full_from;
      zero_valid = refl;
      restrict_valid = λ r m. smaller r (as_step m);
      strip_valid = λ r. smaller r 1;
      add_delete_valid = valid;
      admit_valid = λ a n. smaller n (max (as_step a) 1);
      full_valid = refl;
    }
