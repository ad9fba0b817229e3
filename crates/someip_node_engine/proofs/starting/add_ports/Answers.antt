use Rattle.std.proofs.Common.{ap, refl, sym, ◌∙◌}
use Rattle.std.specs.FinMap.{insert}
use Rattle.std.specs.Ordering.{nat_cmp}
use Rattle.someip_tables.specs.Tables.{map_of}
use Rattle.someip_node_engine.proofs.StartLemmas.{one_over, over, over_none, port_entry}
use Rattle.someip_node_engine.proofs.starting.add_ports.Goals as goal

pub loop-instance-init : goal.loop-instance-init
loop-instance-init c = rw (c.into_iter-instance-iterator.ensures.into_iter_gives, c.rev-instance-items.ensures.source, c.iter.ensures.rest) refl

pub loop-instance-preserved : goal.loop-instance-preserved
loop-instance-preserved c =
    one_over nat_cmp port_entry _ _ (c.in-Some.instance.now, c.in-Some.service.now) _ _ _ c.in-Some.ensures.steps
    (c.in_ok-add_port.ensures ∙ ap (λ port. insert (map_of nat_cmp c.loop-instance.ports.entries) port c.in-Some.instance.now) c.port.ensures) c.loop-instance.invariant

pub returns : goal.returns
returns c =
    ap (λ es. over nat_cmp port_entry es (map_of nat_cmp c.loop-instance.ports.entries)) (sym c.in-None.ensures.steps.0) ∙ c.loop-instance.invariant
    ∙ ap (over nat_cmp port_entry c.args.services.now.entries) c.requires ∙ over_none nat_cmp port_entry c.args.services.now.entries
