use Rattle.std.proofs.Common.{◌≡◌, ◌+◌, ◌++◌, take, drop}
use Rattle.shelf.specs.Places.{with_place}
use Rattle.writing.proofs.writes.overwrite.Given as goal

abbrev pub invariant-loop-i : goal.invariant-loop-i
invariant-loop-i g l =
    let h = g.S.ReadableShelf.holds l.initial.shelf in
    g.S.ReadableShelf.holds l.shelf ≡ with_place l.place (take l.start (h l.place) ++ (take l.i l.elements ++ drop (l.start + l.i) (h l.place))) h
