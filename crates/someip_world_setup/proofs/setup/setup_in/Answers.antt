use Rattle.std.proofs.Common.{map}
use Rattle.std.proofs.lemmas.Result.{err_from_is_err_and}
use Rattle.toml.specs.View.{view}
use Rattle.someip_world_setup_keys.proofs.RangeLemmas.{SetupRange, setup_in}
use Rattle.someip_world_setup_keys.specs.SaidByKeys.{said_setup}
use Rattle.someip_world_setup_keys.specs.Values.{node_view, parts_view}
use Rattle.someip_world_setup.proofs.NetworkLemmas.{good_network, at_some}
use Rattle.someip_world_setup.proofs.FaultLemmas.{parts_refuse, unknown_refuses, clash_refuses}
use Rattle.someip_world_setup.proofs.setup.setup_in.Goals as goal

pub returns-in_err-refuse_unknown-clause-fault : goal.returns-in_err-refuse_unknown-clause-fault
returns-in_err-refuse_unknown-clause-fault c =
    let p = err_from_is_err_and c.from_residual-in_err-refuse_unknown.result c.from_residual-in_err-refuse_unknown.ensures.1 in
    rw (p.1, p.2) (unknown_refuses (view c.args.tree.now) _ c.in_err-refuse_unknown.ensures)

pub returns-in_err-refuse_clashes-clause-fault : goal.returns-in_err-refuse_clashes-clause-fault
returns-in_err-refuse_clashes-clause-fault c =
    let p = err_from_is_err_and c.from_residual-in_err-refuse_clashes.result c.from_residual-in_err-refuse_clashes.ensures.1 in
    rw (p.1, p.2) (clash_refuses (view c.args.tree.now) _ _ c.in_ok-parts.ensures.said c.in_err-refuse_clashes.ensures)

pub returns-in_err-parts-clause-fault : goal.returns-in_err-parts-clause-fault
returns-in_err-parts-clause-fault c =
    let p = err_from_is_err_and c.from_residual.result c.from_residual.ensures.1 in
    rw (p.1, p.2) (parts_refuse (view c.args.tree.now) _ c.in_err-parts.ensures.said)

pub invariant_of-result : goal.invariant_of-result
invariant_of-result c =
    good_network c.in_ok-parts.parts.common (map node_view c.in_ok-parts.parts.nodes.items) c.in_ok-nodes.nodes.items
    (at_some SetupRange (said_setup (view c.args.tree.now)) (parts_view c.in_ok-parts.parts) c.in_ok-parts.ensures.said (setup_in (view c.args.tree.now)))
    c.in_ok-refuse_clashes.ensures
    c.in_ok-parts.ensures.good
    (rw c.deref.ensures.value at c.in_ok-nodes.ensures)
