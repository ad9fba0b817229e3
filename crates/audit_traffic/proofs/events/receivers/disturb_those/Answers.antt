use Rattle.std.proofs.Common.{◌<◌, if◌then◌else◌, length, arith}
use Rattle.audit_traffic.specs.events.EventRules.{may_reach}
use Rattle.audit_traffic.specs.events.FlowGroups.{disturbed_at}
use Rattle.audit_traffic.proofs.about_events.GroupLemmas.{changed_more}
use Rattle.audit_traffic.proofs.events.receivers.disturb_those.Goals as goal

pub loop-receiver-preserved : goal.loop-receiver-preserved
loop-receiver-preserved c =
    let below : c.loop-receiver.receiver-index < length c.args.receivers.now = omega (arith, c.loop-receiver-test.true) in
    let within : c.loop-receiver.receiver-index < length c.loop-receiver.receivers = omega (arith, below, c.loop-receiver.auto.receivers) in
    rw c.disturbed_for.ensures (changed_more (λ r. if may_reach c.args.client r.endpoint.ip then disturbed_at r else r) c.args.receivers.now c.loop-receiver.receivers c.loop-receiver.receiver-index _ within below c.loop-receiver.invariant)
