use Rattle.std.proofs.Common.{◌≡◌, ◌++◌, take, drop}
use Rattle.reading.proofs.data.copy.Given as goal

abbrev pub invariant-loop-i : goal.invariant-loop-i
invariant-loop-i g l =
    (g.S.ReadableShelf.holds l.shelf ≡ g.S.ReadableShelf.holds l.initial.shelf) ×
    (l.cells ≡ take l.i (drop l.start (g.S.ReadableShelf.holds l.initial.shelf l.place)) ++ drop l.i l.initial.cells)
