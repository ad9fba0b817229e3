use Rattle.std.proofs.Common.{sym, ◌∙◌}
use Rattle.someip_payload_values.proofs.OtherNumbers.{was_there, was_none}
use Rattle.someip_payload_values.proofs.OtherNames.{one_more, names_on, names_bad, names_again, names_done}
use Rattle.someip_payload_values.proofs.names.are_names.Goals as goal
use Rattle.someip_payload_values.proofs.names.are_names.Goals.{then-not-is_name-via-then-not-is_name as bad, then-not-is_name-via-else-not-is_name+in_ok-insert+then-not-branch as again}

pub returns-then-not-is_name : goal.returns-then-not-is_name
returns-then-not-is_name c =
    let (earlier, so_far, has) = c.loop-i.invariant in
    elim c.then-not-is_name.branch [
      | bad w ↦ sym (names_bad earlier c.args.names.now c.loop-i.i _ c.loop-i-test.true (sym c.is_name.ensures ∙ w.if-not-is_name.true)) ∙ so_far
      | again w ↦ sym (names_again earlier c.args.names.now c.loop-i.i _ c.loop-i-test.true (sym (has (record { ref_ptr = (0, 0); now = _ })) ∙ was_there _ _ w.in_ok-insert.ensures.added w.if-not-branch.true)) ∙ so_far
    ]

pub loop-i-preserved : goal.loop-i-preserved
loop-i-preserved c =
    let (earlier, so_far, has) = c.loop-i.invariant in (
      _,
      sym (names_on earlier c.args.names.now c.loop-i.i _ c.loop-i-test.true (sym c.is_name.ensures ∙ c.if-not-is_name.false) (sym (has (record { ref_ptr = (0, 0); now = _ })) ∙ was_none _ _ c.in_ok-insert.ensures.added c.if-not-branch.false)) ∙ so_far,
      λ k. one_more _ k.now earlier _ _ (c.in_ok-insert.ensures.updates.0 k) (has k),
    )

pub returns : goal.returns
returns c =
    let (earlier, so_far, has) = c.loop-i.invariant in
    sym (names_done earlier c.args.names.now c.loop-i.i c.loop-i-test.false) ∙ so_far
