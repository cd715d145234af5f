-- How sequences lie in cells, by a table of their lengths. Place p's length is at p - 1.
use Rattle.std.specs.Prelude.{◌≡◌, ◌≢◌, ℕ, ◌+◌, ◌-◌, ◌*◌, ◌<◌, ◌≤◌, cond, ◌&&◌, List, [], length, take, drop, sum, Result, nat_le, nat_lt, slice_index, slice_index_or}
use Rattle.model.specs.declared.signals.Fault.{Fault}
use Rattle.shelf.specs.Places.{is_place, if_so, greatest, most}

abbrev pub Short : List ℕ → Type 0
Short lengths = (i : ℕ) → slice_index lengths i ≤ greatest

-- the n elements from a on
abbrev pub lot : {E : Type 0} → List E → ℕ → ℕ → List E
lot cells a n = take n (drop a cells)

-- what is held where place p's sequence begins at start p
unfoldable pub laid : {E : Type 0} → (ℕ → ℕ) → List ℕ → List E → ℕ → List E
laid start lengths cells p = cond (is_place p) (lot cells (start p) (slice_index lengths (p - 1))) []

abbrev pub row : ℕ → ℕ
row p = 64 * (p - 1)

abbrev pub rows : {E : Type 0} → List ℕ → List E → ℕ → List E
rows lengths cells = laid row lengths cells

-- the sum of the first i lengths
abbrev pub before : List ℕ → ℕ → ℕ
before lengths i = sum (take i lengths)

abbrev pub begin : List ℕ → ℕ → ℕ
begin lengths p = before lengths (p - 1)

abbrev pub packed : {E : Type 0} → List ℕ → List E → ℕ → List E
packed lengths cells = laid (begin lengths) lengths cells

-- by any lengths the sequences lie among the first cells, and none over another
pub record Lawful (start : List ℕ → ℕ → ℕ) : Type 0 where
  pub fits : (lengths : List ℕ) (p : ℕ) → Short lengths → 1 ≤ p → p ≤ 160 → start lengths p + slice_index lengths (p - 1) ≤ most
  pub apart : (lengths : List ℕ) (p q j k : ℕ) → Short lengths → 1 ≤ p → p ≤ 160 → 1 ≤ q → q ≤ 160 → q ≢ p → j < slice_index lengths (q - 1) → k < slice_index lengths (p - 1) → start lengths q + j ≢ start lengths p + k

-- each element of xs by the lengths `from` that the lengths `to` leave stands in ys where these say
pub record Moved {E : Type 0} (start : List ℕ → ℕ → ℕ) (from to : List ℕ) (xs ys : List E) : Type 0 where
  pub size : length ys ≡ length xs
  pub left : (q k : ℕ) (d : E) → 1 ≤ q → q ≤ 160 → k < slice_index from (q - 1) → k < slice_index to (q - 1) → slice_index_or ys (start to q + k) d ≡ slice_index_or xs (start from q + k) d

-- an index of place p's sequence from 0, and its length with one more element; else the refusal
abbrev pub kept_index : ℕ → ℕ → List ℕ → Result ℕ Fault
kept_index p i ls = if_so (nat_le 1 i && nat_le i (slice_index ls (p - 1))) (i - 1)

abbrev pub kept_longer : ℕ → List ℕ → Result ℕ Fault
kept_longer p ls = if_so (nat_lt (slice_index ls (p - 1)) greatest) (slice_index ls (p - 1) + 1)

-- the cell of the element at an index from 1, else the refusal
abbrev pub kept_cell : (ℕ → ℕ) → ℕ → ℕ → List ℕ → Result ℕ Fault
kept_cell start p i ls = if_so (is_place p && (nat_le 1 i && nat_le i (slice_index ls (p - 1)))) (start p + (i - 1))
