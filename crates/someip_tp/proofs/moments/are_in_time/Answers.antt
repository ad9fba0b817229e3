use Rattle.std.proofs.Common.{sym, ◌∙◌}
use Rattle.someip_tp.proofs.promises.CallMoments.{follow_from_start, follow_at, none_at, all_followed}
use Rattle.someip_tp.proofs.moments.are_in_time.Goals as goal

pub loop-call-init : goal.loop-call-init
loop-call-init c = follow_from_start c.args.calls.now

pub returns-in_default : goal.returns-in_default
returns-in_default c =
    ((λ h. cc), (λ fit. absurd (none_at c.args.calls.now c.loop-call.call-index c.loop-call.last _ c.loop-call-test.true (sym c.moment_after.ensures ∙ c.in_default.is) c.loop-call.invariant fit)))

pub loop-call-preserved : goal.loop-call-preserved
loop-call-preserved c =
    follow_at c.args.calls.now c.loop-call.call-index c.loop-call.last c.in-Some.now _ c.loop-call-test.true (sym c.moment_after.ensures ∙ c.in-Some.is) c.loop-call.invariant

pub returns : goal.returns
returns c = all_followed c.args.calls.now c.loop-call.call-index c.loop-call.last c.loop-call-test.false c.loop-call.invariant
