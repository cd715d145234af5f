use Rattle.std.specs.Prelude.{◌≡◌, ℕ, zero, suc, ◌/◌, ◌%◌, ◌^◌, ◌<◌, ◌≤◌, Bool, true, false, ◌&&◌, ◌||◌, ◌⊎◌, ◌==◌, nat_eq, nat_le, refl}
use Rattle.std.proofs.Common.{ap, ap₂, ◌∙◌, sym, ⊎_elim, arith}
use Rattle.std.proofs.Math.Nat.{div-eq_of_lt}
use Rattle.std.specs.Int.Bits.{bit_and, bit_or, and_step, or_step}
use Rattle.std.proofs.lemmas.Nat.{and_shr, or_shr, and_le_l, or_lt}
use Rattle.std.proofs.Math.Dec.{eqb-suc-zero}
use Rattle.std.proofs.Math.Pow.{pow-lt}
use Rattle.std.proofs.lemmas.Bool.Decides.{nat_tests, Decides-below_and}
use Rattle.std.proofs.Math.Bool.{and_assoc, or-false}
use Rattle.std.proofs.lemmas.Bool.{ltb-true, lt-ltb, le-leb, and_parts, and_right}
use Rattle.model.specs.Model.{Laws}
use Rattle.rights.specs.Bits.{bits, valid_bits, bit}
use Rattle.rights.specs.Codes.{reading}
use Rattle.rights.specs.Reading.{itself, stays_valid}

abbrev as_bits : ℕ → ℕ
as_bits c = reading valid_bits c

lowest_and : (a b : ℕ) → (bit_and a b % 2 == 1) ≡ (a % 2 == 1 && b % 2 == 1)
lowest_and a b = let e = and_step a b in grind (arith, nat_tests)

lowest_or : (a b : ℕ) → (bit_or a b % 2 == 1) ≡ (a % 2 == 1 || b % 2 == 1)
lowest_or a b = let e = or_step a b in grind (arith, nat_tests)

bit_of_and : (a b k : ℕ) → bit (bit_and a b) k ≡ (bit a k && bit b k)
bit_of_and a b k = ap (λ (x : ℕ). nat_eq (x % 2) 1) (and_shr a b k) ∙ lowest_and (a / 2 ^ k) (b / 2 ^ k)

bit_of_or : (a b k : ℕ) → bit (bit_or a b) k ≡ (bit a k || bit b k)
bit_of_or a b k = ap (λ (x : ℕ). nat_eq (x % 2) 1) (or_shr a b k) ∙ lowest_or (a / 2 ^ k) (b / 2 ^ k)

bit_one : (k : ℕ) → bit 1 k ≡ (k == 0)
bit_one zero = refl
bit_one (suc k) =
    ap (λ (x : ℕ). nat_eq (x % 2) 1) (div-eq_of_lt (pow-lt {i = 0} {j = suc k} (omega arith))) ∙ sym (eqb-suc-zero k)

within : (c : ℕ) → as_bits c < 2097152
within c = ltb-true _ 2097152 (stays_valid valid_bits refl c)

masked : (c y : ℕ) → bits.valid (bit_and (as_bits c) y) ≡ true
masked c y = lt-ltb _ 2097152 (omega (arith, within c, and_le_l (as_bits c) y))

marked : (c : ℕ) → bits.valid (bit_or (as_bits c) 1) ≡ true
marked c = lt-ltb _ 2097152 (or_lt 21 (as_bits c) 1 (within c) (omega arith))

spread : (g x y : Bool) → ((g && x) && y) ≡ ((g && x) && (g && y))
spread true x y = refl
spread false x y = refl

-- a masked code grants what both grant
both : (k c y : ℕ) → (nat_le k 20 && bit (as_bits (bit_and (as_bits c) y)) k) ≡ ((nat_le k 20 && bit (as_bits c) k) && bit y k)
both k c y =
    ap (λ (x : ℕ). nat_le k 20 && bit x k) (itself valid_bits _ (masked c y)) ∙ ap (λ (x : Bool). nat_le k 20 && x) (bit_of_and (as_bits c) y k)
    ∙ sym (and_assoc (nat_le k 20) (bit (as_bits c) k) (bit y k))

deletes : (k c : ℕ) → k ≤ 20 → (nat_le k 20 && bit (as_bits (bit_or (as_bits c) 1)) k) ≡ ((nat_le k 20 && bit (as_bits c) k) || k == 0)
deletes k c h =
    ap₂ (λ (g : Bool) (x : ℕ). g && bit x k) (le-leb k 20 h) (itself valid_bits _ (marked c)) ∙ bit_of_or (as_bits c) 1 k
    ∙ ap₂ (λ (g x : Bool). (g && bit (as_bits c) k) || x) (sym (le-leb k 20 h)) (bit_one k)

guarded : (k a : ℕ) → (k ≡ 1) ⊎ ((k ≡ 9) ⊎ (k ≡ 10)) → bit (bit_or a 2095613) k ≡ true → (nat_le k 20 && bit a k) ≡ true
guarded k a h e =
    let free : bit 2095613 k ≡ false =
    ⊎_elim (λ p. ap (bit 2095613) p) (λ q. ⊎_elim (λ p. ap (bit 2095613) p) (λ p. ap (bit 2095613) p) q) h in
    let low : k ≤ 20 = grind arith in
    ap (λ (g : Bool). g && bit a k) (le-leb k 20 low)
    ∙ sym (or-false (bit a k)) ∙ ap (λ (x : Bool). bit a k || x) (sym free) ∙ sym (bit_of_or a 2095613 k) ∙ e

-- the test p holds of each number below n
abbrev every : (ℕ → Bool) → ℕ → Bool
every p zero = true
every p (suc n) = p n && every p n

full_from : (k : ℕ) → k ≤ 12 → (nat_le k 20 && bit 8191 k) ≡ true
full_from k h =
    let p : ℕ → Bool = λ k. nat_le k 20 && bit 8191 k in
    (Decides-below_and p (λ k. p k ≡ true) (every p) (λ k. (λ e. e, λ e. e)) refl (λ n. refl) 13).0 refl k (omega arith)

pub lawful : Laws bits
lawful =
    record {
      restrict_both = λ r m k h. both k r (as_bits m) ∙ spread (nat_le k 20) (bit (as_bits r) k) (bit (as_bits m) k);
      strip_less = λ r k h e. (and_parts _ _ (sym (both k r 2095615) ∙ e)).0;
      strip_modify = λ r. both 9 r 2095615 ∙ and_right _ false refl;
      strip_unconfined = λ r. both 10 r 2095615 ∙ and_right _ false refl;
      add_delete_exact = λ r k h. deletes k r h;
      admit_new = λ a n k h e. (and_parts _ _ (sym (both k n (bit_or (as_bits a) 2095613)) ∙ e)).0;
      admit_given = λ a n k h e. guarded k (as_bits a) h (and_parts _ _ (sym (both k n (bit_or (as_bits a) 2095613)) ∙ e)).1;
      full_grants = full_from;
      zero_valid = refl;
      restrict_valid = λ r m. masked r (as_bits m);
      strip_valid = λ r. masked r 2095615;
      add_delete_valid = marked;
      admit_valid = λ a n. masked n (bit_or (as_bits a) 2095613);
      full_valid = refl;
    }
