use Rattle.std.proofs.Common.{◌≡◌, ◌++◌, take}
use Rattle.shelf.specs.Places.{with_place}
use Rattle.writing.proofs.writes.extend.Given as goal

abbrev pub invariant-loop-element : goal.invariant-loop-element
invariant-loop-element g l =
    let h = g.S.ReadableShelf.holds l.initial.shelf in
    g.S.ReadableShelf.holds l.shelf ≡ with_place l.place (h l.place ++ take l.element-index l.elements) h
