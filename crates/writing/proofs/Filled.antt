-- A data part given other elements, and the tests before it.
use Rattle.std.proofs.Common.{◌≡◌, ℕ, ◌+◌, ◌-◌, ◌≤◌, List, ◌++◌, length, take, Some, Ok, Result, ap, ◌∙◌}
use Rattle.std.proofs.lemmas.Bool.{le-leb}
use Rattle.std.proofs.lemmas.List.{length-take-le}
use Rattle.model.specs.declared.kinds.Name.{Name}
use Rattle.model.specs.declared.signals.Fault.{Fault}
use Rattle.model.specs.Kalls.{overwritten, lengthened}
use Rattle.shelf.specs.Places.{with_place}
use Rattle.scene.specs.declared.tables.Tables.{Tables}
use Rattle.scene.specs.Abstract.{frame, homes, elements_at, world}
use Rattle.scene.proofs.Homes.{refills}
use Rattle.writing.specs.Fills.{laid_over, Fills}

-- the whole, where the place of the name holds ys
module _ {E : Type 0} (t : Tables) (n : Name) (p : ℕ) (h h' : ℕ → List E) (lies : Some p ≡ homes t n) (only : (m : Name) → Some p ≡ homes t m → m ≡ n) where
  pub fills : (ys : List E) (m : Result (List E) Fault) → h' ≡ with_place p ys h → m ≡ Ok ys → Fills (Ok tt) n (world t h) (world t h') m
  fills ys m on e =
      rw e (λ j. Ok (record {
        frame = frame t;
        elements = ((ap (λ (f : ℕ → List E). λ (k : Name). elements_at f (homes t k)) on) ∙ refills n p ys h (homes t) lies only) j;
      }))

pub overwrites : {E : Type 0} (disp knt : ℕ) (xs part : List E) → 1 ≤ disp → 1 ≤ knt → knt ≤ length xs → disp - 1 + knt ≤ length part → overwritten disp knt xs part ≡ Ok (laid_over (disp - 1) (take knt xs) part)
overwrites disp knt xs part a b c d =
    rw (le-leb 1 disp a, le-leb 1 knt b, le-leb knt (length xs) c, le-leb (disp - 1 + knt) (length part) d, length-take-le knt xs c)

pub lengthens : {E : Type 0} (knt most : ℕ) (xs part : List E) → 1 ≤ knt → knt ≤ length xs → length part + knt ≤ most → lengthened knt most xs part ≡ Ok (part ++ take knt xs)
lengthens knt most xs part a b c = rw (le-leb 1 knt a, le-leb knt (length xs) b, le-leb (length part + knt) most c)
