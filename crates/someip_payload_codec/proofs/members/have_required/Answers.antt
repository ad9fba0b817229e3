use Rattle.std.proofs.Common.{◌≡◌, is_some, true, None, get_or, refl, ap, arith, sym, ◌∙◌, inl, inr}
use Rattle.std.proofs.lemmas.List.{get_or_read_under}
use Rattle.someip_payload_codec.proofs.tagged.TaggedLoops.{required_next}
use Rattle.someip_payload_codec.proofs.members.have_required.Goals as goal
use Rattle.someip_payload_codec.proofs.members.have_required.Goals.{else-not-members-i-via-then-not-members-i+else-is_none, else-not-members-i-via-else-not-members-i}

pub loop-i-preserved : goal.loop-i-preserved
loop-i-preserved c =
    let next = required_next c.args.members.now c.args.slots.now c.loop-i.i c.index-members-i.result c.loop-i-test.true (omega arith) in
    elim c.else-not-members-i.branch [
      | else-not-members-i-via-then-not-members-i+else-is_none w ↦
          let some : is_some (get_or c.args.slots.now c.loop-i.i None) ≡ true = ap is_some (sym (get_or_read_under c.args.slots.now c.loop-i.i _ w.index-slots-i.result None w.index-slots-i.is (omega arith) refl)) ∙ w.if-is_none.ensures in
          sym (next (inl some)) ∙ c.loop-i.invariant
      | else-not-members-i-via-else-not-members-i w ↦ sym (next (inr w.if-not-members-i.false)) ∙ c.loop-i.invariant
    ]
