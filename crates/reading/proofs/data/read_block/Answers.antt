use Rattle.std.proofs.Common.{◌≡◌, ℕ, ◌-◌, min, List, ◌++◌, length, take, drop, ap, ap₂, ◌∙◌, arith}
use Rattle.std.proofs.lemmas.List.{length-take-le}
use Rattle.scene.specs.Abstract.{elements_at, homes}
use Rattle.reading.proofs.Copying.{block_read}
use Rattle.reading.proofs.data.read_block.Goals as goal

pub returns : goal.returns
returns g c =
    let E = g.row.S-Element.Denot in
    let h = g.S.ReadableShelf.holds c.args.shelf.now in
    let part = elements_at h (homes c.args.tables.now c.args.name) in
    let n = c.min-count.result in
    let lies : g.S.ReadableShelf.holds c.part_length-length.new.shelf c.in-Some.place ≡ part =
    ap (λ (f : ℕ → List E). f c.in-Some.place) c.part_length-length.ensures.same ∙
    ap (elements_at h) c.in-Some.ensures.value
    in
    let whole : length (take n c.args.buffer.now) ≡ n = length-take-le n c.args.buffer.now (omega arith) in
    record {
      same = c.copy.ensures.same ∙ c.part_length-length.ensures.same;
      value =
          block_read part c.args.buffer.now (c.copy.new.cells ++ drop n c.args.buffer.now) c.args.disp c.args.knt n
          (omega arith) (omega arith) (omega arith) (omega arith)
          (c.min-count.ensures ∙ ap (λ (m : ℕ). min c.args.knt (m - (c.args.disp - 1))) c.part_length-length.ensures.value)
          (ap (λ (zs : List E). zs ++ drop n c.args.buffer.now) (c.copy.ensures.value ∙ ap₂ (λ (m : ℕ) (xs : List E). take m (drop (c.args.disp - 1) xs)) whole lies));
      bound = omega arith;
    }
