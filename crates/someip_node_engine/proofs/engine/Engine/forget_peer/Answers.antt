use Rattle.std.proofs.Common.{sym, subst, ◌∙◌}
use Rattle.std.specs.List.Sorted.{IsStrictlySortedBy}
use Rattle.sd_core.specs.Eventgroups.{eventgroup_cmp}
use Rattle.sd_core.specs.Keys.{instance_cmp}
use Rattle.someip_node_engine.proofs.HearingLemmas.{reboot_told}
use Rattle.someip_node_engine.proofs.RisingLemmas.{keys_rise}
use Rattle.someip_node_engine.proofs.engine.Engine.forget_peer.Goals as goal

pub returns-clause-outputs : goal.returns-clause-outputs
returns-clause-outputs g c =
    rw (← c.self.view_is) (reboot_told _ _ _ _ _ _ _ _ _ c.in_ok-push.ensures.items (c.deref.ensures.value ∙ c.in_ok-gone.ensures.ended) (c.deref-2.ensures.value ∙ c.in_ok-ended.ensures.ended) c.in_ok-tell_endings.ensures)

pub tell_endings-requires-clause-gone : goal.tell_endings-requires-clause-gone
tell_endings-requires-clause-gone g c =
    subst (IsStrictlySortedBy instance_cmp) (sym (c.deref.ensures.value ∙ c.in_ok-gone.ensures.ended)) (keys_rise _)

pub tell_endings-requires-clause-eventgroups : goal.tell_endings-requires-clause-eventgroups
tell_endings-requires-clause-eventgroups g c =
    subst (IsStrictlySortedBy eventgroup_cmp) (sym (c.deref-2.ensures.value ∙ c.in_ok-ended.ensures.ended)) (keys_rise _)
