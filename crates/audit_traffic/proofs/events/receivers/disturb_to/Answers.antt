use Rattle.std.proofs.Common.{◌<◌, length, arith}
use Rattle.audit_traffic.specs.events.FlowGroups.{disturbed_to}
use Rattle.audit_traffic.proofs.about_events.GroupLemmas.{changed_more}
use Rattle.audit_traffic.proofs.events.receivers.disturb_to.Goals as goal

pub loop-receiver-preserved : goal.loop-receiver-preserved
loop-receiver-preserved c =
    let below : c.loop-receiver.receiver-index < length c.args.receivers.now = omega (arith, c.loop-receiver-test.true) in
    let within : c.loop-receiver.receiver-index < length c.loop-receiver.receivers = omega (arith, below, c.loop-receiver.auto.receivers) in
    rw c.disturbed_to.ensures (changed_more (disturbed_to c.args.endpoint.now) c.args.receivers.now c.loop-receiver.receivers c.loop-receiver.receiver-index _ within below c.loop-receiver.invariant)
