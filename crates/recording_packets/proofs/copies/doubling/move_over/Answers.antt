use Rattle.std.proofs.Common.{◌≡◌, ◌≢◌, ◌<◌, ◌∙◌, ◌++◌, length, ap, sym, None, arith}
use Rattle.std.specs.List.{slice_set}
use Rattle.std.proofs.lemmas.List.{get_or-set_other, length-set}
use Rattle.recording_packets.specs.copies.Slots.{halves}
use Rattle.recording_packets.proofs.about_copies.SlotLemmas.{moved_more}
use Rattle.recording_packets.proofs.copies.doubling.move_over.Goals as goal

pub loop-place-preserved : goal.loop-place-preserved
loop-place-preserved c =
    let within : c.loop-place.place-index < length c.loop-place.slots = omega (arith, c.loop-place.auto.slots, c.loop-place-test.true) in
    let below : c.loop-place.place-index < length c.args.slots.now = omega (arith, within, c.loop-place.auto.slots) in
    record {
      moved =
          c.put_halves.ensures.items ∙ ap (λ x. c.loop-place.more.items ++ halves c.args.shift x) (c.take.ensures.value ∙ sym c.place-item.is)
          ∙ moved_more (halves c.args.shift) c.args.slots.now c.loop-place.slots c.args.more.now.items c.loop-place.more.items c.loop-place.place-index _ below within
          (c.loop-place.invariant.left c.loop-place.place-index (omega arith)) c.place-item.is c.loop-place.invariant.moved;
      left = λ k far.
          let apart : k ≢ c.loop-place.place-index = omega (arith, far) in
          get_or-set_other c.loop-place.slots c.loop-place.place-index k _ None apart ∙ c.loop-place.invariant.left k (omega (arith, far));
      room =
          let same : length (slice_set c.loop-place.slots c.loop-place.place-index c.take.new.self) ≡ length c.loop-place.slots = length-set c.loop-place.slots c.loop-place.place-index _ in
          omega (arith, c.loop-place.invariant.room, c.put_halves.ensures.len, c.put_halves.ensures.capacity, within, same);
    }
