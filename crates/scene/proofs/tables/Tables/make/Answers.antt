use Rattle.std.proofs.Common.{◌≡◌, ◌+◌, ◌-◌, ◌*◌, ◌<◌, List, length, replicate, get_or, set, Some, Err, sym, refl, ap, ◌∙◌, arith, rules}
use Rattle.std.proofs.lemmas.Bool.{le-leb, lt-leb}
use Rattle.std.proofs.lemmas.Result.{err_from_is_err_and}
use borrow.Rule.Slice.PartMut.{put_mid}
use Rattle.model.specs.declared.kinds.Slot.{Slot}
use Rattle.model.specs.declared.kinds.Slot.TheVariants.{Empty}
use Rattle.model.specs.Plan.{new_number}
use Rattle.scene.specs.Abstract.{living_of, frame_of}
use Rattle.scene.proofs.Making.{free_at, full, room_left, new_frame, new_homes, unused, new_bounded, new_distinct}
use Rattle.scene.proofs.tables.Tables.make.Goals as goal

pub returns-in_err-place : goal.returns-in_err-place
unfolding living_of new_number
returns-in_err-place c =
    let t = c.args.self.now in
    let long : length c.args.self.now.objects ≡ 160 = search rules in
    let p = err_from_is_err_and c.from_residual.result c.from_residual.ensures.1 in
    let none = c.in_err-place.ensures in
    rw (p.1, p.2) (rw (le-leb _ _ (full t.objects c.args.share long (sym none.ok_part ∙ c.unused_place.ensures.value))) ((rw none.ok_part at none.value) ∙ ap Err c.new.ensures), refl, refl)

pub returns-then-number-ge60000 : goal.returns-then-number-ge60000
unfolding living_of new_number
returns-then-number-ge60000 c =
    let t = c.args.self.now in
    let long : length c.args.self.now.objects ≡ 160 = search rules in
    let f = free_at t.objects c.args.share c.in_ok-place.place long (sym c.in_ok-place.ensures.ok_part ∙ c.unused_place.ensures.value) in
    (rw (lt-leb _ _ (room_left t.objects t.given c.args.share c.in_ok-place.place long f), le-leb _ _ c.if-number-ge60000.true) (ap Err c.new-then-number-ge60000.ensures), refl, refl)

pub invariant_of-self : goal.invariant_of-self
invariant_of-self c =
    let t = c.args.self.now in
    let long : length c.args.self.now.objects ≡ 160 = search rules in
    let wide : length c.args.self.now.given ≡ 9 = search rules in
    let f = free_at t.objects c.args.share c.in_ok-place.place long (sym c.in_ok-place.ensures.ok_part ∙ c.unused_place.ensures.value) in
    record {
      bounded = new_bounded t.objects t.given c.args.share c.in_ok-place.place long f c.args.kind _ refl t.bounded wide;
      distinct = new_distinct t.objects t.given c.args.share c.in_ok-place.place long f c.args.kind _ refl t.bounded t.distinct;
    }

pub returns : goal.returns
unfolding living_of new_number
returns c =
    let t = c.args.self.now in
    let long : length c.args.self.now.objects ≡ 160 = search rules in
    let wide : length c.args.self.now.given ≡ 9 = search rules in
    let big : length c.args.self.now.slots ≡ 1280 = search rules in
    let p = c.in_ok-place.place in
    let wiped : c.fill.new.self ≡ replicate 8 Empty = search rules in
    let f = free_at t.objects c.args.share c.in_ok-place.place long (sym c.in_ok-place.ensures.ok_part ∙ c.unused_place.ensures.value) in
    let b : (c.args.share < 9) × (c.in_ok-place.place < 160) = search rules in (
      rw (lt-leb _ _ (room_left t.objects t.given c.args.share p long f), lt-leb _ _ c.if-number-ge60000.false),
      ap (λ (l : List Slot). frame_of (set t.objects p (Some (record { number = get_or t.given c.args.share 0 + 1; kind = c.args.kind }))) (put_mid (8 * p) (8 * p + 8 - 8 * p) t.slots l) (set t.given c.args.share (get_or t.given c.args.share 0 + 1)) t.processes) wiped
          ∙ new_frame t.objects t.given c.args.share p long f c.args.kind _ refl t.bounded t.slots (8 * p + 8 - 8 * p) (omega arith) (omega arith) wide t.processes,
      new_homes t.objects t.given c.args.share p long f c.args.kind _ refl t.bounded,
      unused t.objects t.given c.args.share p long f c.args.kind _ refl t.bounded,
      omega arith,
      omega arith,
    )
