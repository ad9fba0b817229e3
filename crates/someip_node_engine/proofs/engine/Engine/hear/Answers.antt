use Rattle.std.proofs.Common.{◌∙◌, sym}
use Rattle.someip_node_engine.proofs.HearingLemmas.{peer_rebooted}
use Rattle.someip_node_engine.proofs.engine.Engine.hear.Goals as goal

pub returns-in_ok-forget_peer-in-Some-Rebooted-clause-heard : goal.returns-in_ok-forget_peer-in-Some-Rebooted-clause-heard
returns-in_ok-forget_peer-in-Some-Rebooted-clause-heard g c =
    let saw = rw c.in-Some-Rebooted.is at c.in_ok-seen.ensures.entered in
    let after = c.in_ok-forget_peer-in-Some-Rebooted.ensures in
    rw (← c.self.view_is) (peer_rebooted _ _ _ _ _ _ _ _ _ (sym c.in-Some-Rebooted.field-0-is ∙ saw.1) saw.2 after.outputs after.tables)
