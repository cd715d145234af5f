-- Sequences end to end: where the elements go as one of them is given another length.
use Rattle.std.proofs.Common.{◌≡◌, ℕ, ◌+◌, ◌-◌, ◌<◌, ◌≤◌, List, length, get_or, set, ap, ◌∙◌, ⊎_elim, arith}
use Rattle.std.proofs.lemmas.List.{get_or-set_same}
use Rattle.std.proofs.lemmas.Bool.{cases_order}
use Rattle.std.specs.List.{CopiedTo, SameBelow}
use Rattle.shelf.specs.Places.{greatest, most}
use Rattle.shelf.specs.Kept.{Short, Moved, before, begin}
use Rattle.shelf.specs.Sums.{before_mono, before_low, before_high, before_next, before_most}
use Rattle.shelf.specs.PackLaws.{follows}
use Rattle.shelf.proofs.Shortness.{short_set}

module _ (ls : List ℕ) (whole : length ls ≡ 160) (p : ℕ) (low : 1 ≤ p) (high : p ≤ 160) where
  -- a sequence ends before the last one does
  pub pack_ends : begin ls p + get_or ls (p - 1) 0 ≤ before ls 160
  pack_ends = omega (arith, before_next ls p low, before_mono ls p 160 high)

  -- the cells that are left hold the sequence at its new length
  pub pack_room : (v : ℕ) → v ≤ greatest → Short ls → begin ls p + v + (before ls 160 - (begin ls p + get_or ls (p - 1) 0)) ≤ most
  pack_room v small short =
      let up = before_high ls 160 (p - 1) v (omega arith) (omega arith) in
      omega (arith, pack_ends, up, before_most (set ls (p - 1) v) 160 (short_set ls (p - 1) v small short) (omega arith))

  module _ {E : Type 0} (xs ys : List E) (v dest end total : ℕ) (at_dest : dest ≡ begin ls p + v) (at_end : end ≡ begin ls p + get_or ls (p - 1) 0) (all : total ≡ before ls 160) (size : length ys ≡ length xs) (copied : CopiedTo xs ys end dest (total - end)) (below : SameBelow xs ys dest) where
    -- what lies from p's end on moves along
    later : (q k : ℕ) (d : E) → p < q → q ≤ 160 → k < get_or ls (q - 1) 0 → get_or ys (begin (set ls (p - 1) v) q + k) d ≡ get_or xs (begin ls q + k) d
    later q k d l hq lk =
        let up = before_high ls (q - 1) (p - 1) v (omega arith) (omega arith) in
        let past = follows ls p q low l in
        let within : begin ls q + k < total = omega (arith, before_next ls q (omega arith), before_mono ls q 160 hq) in
        let a = begin (set ls (p - 1) v) q + k in
        let e : end + (a - dest) ≡ begin ls q + k = omega arith in
        copied a d (omega arith) (omega arith) ∙ ap (λ (b : ℕ). get_or xs b d) e

    pub pack_moved : Moved begin ls (set ls (p - 1) v) xs ys
    pack_moved =
        record {
          size = size;
          left = λ q k d lq hq old new. ⊎_elim (λ (e : q ≡ p). own q k d e new) (⊎_elim (λ (l : q < p). earlier q k d lq l old) (λ (l : p < q). later q k d l hq old)) (cases_order q p);
        }
      where
        stays : (q k : ℕ) (d : E) → q ≤ p → begin ls q + k < dest → get_or ys (begin (set ls (p - 1) v) q + k) d ≡ get_or xs (begin ls q + k) d
        stays q k d l under =
            let e = before_low ls (q - 1) (p - 1) v (omega arith) in
            ap (λ (b : ℕ). get_or ys (b + k) d) e ∙ below (begin ls q + k) d under

        earlier : (q k : ℕ) (d : E) → 1 ≤ q → q < p → k < get_or ls (q - 1) 0 → get_or ys (begin (set ls (p - 1) v) q + k) d ≡ get_or xs (begin ls q + k) d
        earlier q k d lq l lk = stays q k d (omega arith) (omega (arith, follows ls q p lq l))

        own : (q k : ℕ) (d : E) → q ≡ p → k < get_or (set ls (p - 1) v) (q - 1) 0 → get_or ys (begin (set ls (p - 1) v) q + k) d ≡ get_or xs (begin ls q + k) d
        own q k d e new =
            let len : get_or (set ls (p - 1) v) (q - 1) 0 ≡ v = rw e (get_or-set_same ls (p - 1) v 0 (omega arith)) in
            let same : begin ls q ≡ begin ls p = ap (λ (i : ℕ). begin ls i) e in
            stays q k d (omega arith) (omega (arith, len, new, same))
