use Rattle.std.proofs.Common.{codes, ◌∙◌}
use Rattle.std.proofs.lemmas.Result.{err_from_is_err_and}
use Rattle.toml.specs.View.{view}
use Rattle.someip_world_setup_keys.specs.SaidByKeys.{said_eventgroup, id_at, group_events}
use Rattle.someip_world_setup_keys.proofs.AskingLemmas.{fails_too, none_then, same_then}
use Rattle.someip_world_setup_keys.proofs.wants.eventgroup.Goals as goal

pub returns-in_err-id : goal.returns-in_err-id
returns-in_err-id c =
    let p = err_from_is_err_and c.from_residual.result c.from_residual.ensures.1 in
    rw (p.1, p.2) (fails_too _ (id_at (codes "id") (view c.args.table.now)) (said_eventgroup (view c.args.table.now)) (λ none. none_then _ none) c.in_err-id.ensures)

pub returns-in_err-members : goal.returns-in_err-members
returns-in_err-members c =
    let p = err_from_is_err_and c.from_residual-in_err-members.result c.from_residual-in_err-members.ensures.1 in
    rw (p.1, p.2) (fails_too _ (group_events (view c.args.table.now)) (said_eventgroup (view c.args.table.now)) (λ none. same_then _ c.in_ok-id.ensures ∙ none_then _ none) c.in_err-members.ensures)

pub returns : goal.returns
returns c = same_then _ c.in_ok-id.ensures ∙ same_then _ c.in_ok-members.ensures
