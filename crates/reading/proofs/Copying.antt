-- A block copied to a buffer's front.
use Rattle.std.proofs.Common.{◌≡◌, ℕ, ◌+◌, ◌-◌, ◌<◌, ◌≤◌, min, List, [], ◌∷◌, ◌++◌, length, get_or, take, drop, set, Ok, sym, ap, ◌∙◌, ⊎_elim, append_assoc, arith}
use native.Mathlib.Nat.{min-eq_left, min-eq_right}
use Rattle.std.proofs.lemmas.Bool.{le-leb, cases_lt}
use Rattle.std.proofs.lemmas.List.{take_all, take_more, drop_more, set_at, get_or-drop, length-take-le, length-drop}
use Rattle.model.specs.Kalls.{block}
use Rattle.reading.specs.Blocks.{Reads}

module _ {E : Type 0} (xs ys : List E) where
  one_more : (i : ℕ) (x : E) → i < length xs → i < length ys → x ≡ get_or xs i x → set (take i xs ++ drop i ys) i x ≡ take (i + 1) xs ++ drop (i + 1) ys
  one_more i x l m is =
      ap (λ (t : List E). set (take i xs ++ t) i x) (drop_more ys i x m) ∙
      set_at (take i xs) (get_or ys i x) (drop (i + 1) ys) x i (length-take-le i xs (omega arith)) ∙
      sym (append_assoc (take i xs) (x ∷ []) (drop (i + 1) ys)) ∙
      ap (λ (t : List E). t ++ drop (i + 1) ys) (ap (λ (y : E). take i xs ++ (y ∷ [])) is ∙ sym (take_more xs i x l))

-- a turn of the loop: x is the next element of the part
pub copied_more : {E : Type 0} (part ys zs : List E) (start i count : ℕ) (x : E) → start + count ≤ length part → count ≤ length ys → i < count → x ≡ get_or part (start + i) x → zs ≡ take i (drop start part) ++ drop i ys → set zs i x ≡ take (i + 1) (drop start part) ++ drop (i + 1) ys
copied_more {E} part ys zs start i count x there room l is so_far =
    let n = length-drop start part in
    ap (λ (t : List E). set t i x) so_far ∙ one_more (drop start part) ys i x (omega arith) (omega arith) (is ∙ sym (get_or-drop start part i x))

same_block : {E : Type 0} (xs : List E) (k n : ℕ) → n ≡ min k (length xs) → take k xs ≡ take n xs
same_block {E} xs k n e =
    ⊎_elim
    (λ (t : k < length xs). ap (λ (m : ℕ). take m xs) (sym (e ∙ min-eq_left (omega arith))))
    (λ (t : length xs ≤ k). take_all k xs t ∙ sym (take_all n xs (omega (arith, e ∙ min-eq_right t))))
    (cases_lt k (length xs))

-- the whole block, where it is asked for rightly
pub block_read : {E : Type 0} (xs ys zs : List E) (disp knt n : ℕ) → 1 ≤ disp → disp ≤ length xs → 1 ≤ knt → knt ≤ length ys → n ≡ min knt (length xs - (disp - 1)) → zs ≡ take n (drop (disp - 1) xs) ++ drop n ys → Reads (Ok n) ys zs (block disp knt (length ys) xs)
block_read {E} xs ys zs disp knt n a b c d e is =
    let l : List E = drop (disp - 1) xs in
    let e' : n ≡ min knt (length l) = rw (length-drop (disp - 1) xs) e in
    let m : length (take n l) ≡ n = length-take-le n l (omega arith) in
    rw (le-leb 1 disp a, le-leb disp (length xs) b, le-leb 1 knt c, le-leb knt (length ys) d, same_block l knt n e', m, is)
