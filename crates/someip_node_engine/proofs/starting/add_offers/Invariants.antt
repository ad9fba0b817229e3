use Rattle.std.proofs.Common.{◌≡◌}
use Rattle.sd_core.specs.Keys.{instance_cmp}
use Rattle.someip_node_engine.proofs.StartLemmas.{offer_entry, over}
use Rattle.someip_node_engine.proofs.starting.add_offers.Given as goal

-- with those that are left the map has all
abbrev pub invariant-loop-instance : goal.invariant-loop-instance
invariant-loop-instance l = over instance_cmp offer_entry l.instance-iterator.iter l.offers.versions ≡ over instance_cmp offer_entry l.services.entries l.fn.offers.versions
