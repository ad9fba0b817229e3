use Rattle.std.proofs.Common.{sym, ◌∙◌, ◌∷◌}
use Rattle.someip_payload_values.proofs.OtherNumbers.{one_more, ids_on, ids_large, ids_again, ids_done, was_there, was_none}
use Rattle.someip_payload_values.proofs.check.have_ids.Goals as goal
use Rattle.someip_payload_values.proofs.check.have_ids.Goals.{then-member-gt-MAX_DATA_ID-via-then-member-gt-MAX_DATA_ID as large, then-member-gt-MAX_DATA_ID-via-else-member-gt-MAX_DATA_ID+in_ok-insert+then-not-branch as again}

pub returns-then-member-gt-MAX_DATA_ID : goal.returns-then-member-gt-MAX_DATA_ID
returns-then-member-gt-MAX_DATA_ID c =
    let (earlier, so_far, has) = c.loop-member.invariant in
    elim c.then-member-gt-MAX_DATA_ID.branch [
      | large w ↦ sym (ids_large earlier c.args.members.now c.loop-member.member-index c.member-item.result c.loop-member-test.true c.member-item.is w.if-member-gt-MAX_DATA_ID.true) ∙ so_far
      | again w ↦ sym (ids_again earlier c.args.members.now c.loop-member.member-index c.member-item.result c.loop-member-test.true c.member-item.is
          (sym (has c.member-item.result.id) ∙ was_there _ _ w.in_ok-insert.ensures.added w.if-not-branch.true)) ∙ so_far
    ]

pub loop-member-preserved : goal.loop-member-preserved
loop-member-preserved c =
    let (earlier, so_far, has) = c.loop-member.invariant in
    let id = c.member-item.result.id in (
      id ∷ earlier,
      sym (ids_on earlier c.args.members.now c.loop-member.member-index c.member-item.result c.loop-member-test.true c.member-item.is c.if-member-gt-MAX_DATA_ID.false (sym (has id) ∙ was_none _ _ c.in_ok-insert.ensures.added c.if-not-branch.false)) ∙ so_far,
      λ k. one_more id k earlier _ _ (c.in_ok-insert.ensures.updates.0 k) (has k),
    )

pub returns : goal.returns
returns c =
    let (earlier, so_far, has) = c.loop-member.invariant in
    sym (ids_done earlier c.args.members.now c.loop-member.member-index c.loop-member-test.false) ∙ so_far
