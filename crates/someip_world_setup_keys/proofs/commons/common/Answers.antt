use Rattle.std.proofs.Common.{codes, pos, ◌∙◌}
use Rattle.std.proofs.lemmas.Result.{err_from_is_err_and}
use Rattle.toml.specs.View.{view}
use Rattle.someip_node_rules.specs.forms.GoodConfigs.{greatest_message_limit}
use Rattle.someip_world_setup_keys.specs.Keys.{number_or, address_at}
use Rattle.someip_world_setup_keys.specs.SaidByKeys.{said_common, said_phases, count_or, time_or}
use Rattle.someip_world_setup_keys.proofs.AskingLemmas.{fails_too, none_then, same_then}
use Rattle.someip_world_setup_keys.proofs.commons.common.Goals as goal

pub returns-in_err-group-clause-found : goal.returns-in_err-group-clause-found
returns-in_err-group-clause-found c =
    let p = err_from_is_err_and c.from_residual.result c.from_residual.ensures.1 in
    rw (p.1, p.2) (fails_too _ (address_at (codes "group") (view c.args.table.now)) (said_common (view c.args.table.now)) (λ none. none_then _ none) c.in_err-group.ensures)

pub returns-in_err-initial_min_ms-clause-found : goal.returns-in_err-initial_min_ms-clause-found
returns-in_err-initial_min_ms-clause-found c =
    let p = err_from_is_err_and c.from_residual-in_err-initial_min_ms.result c.from_residual-in_err-initial_min_ms.ensures.1 in
    rw (p.1, p.2) (fails_too _ (number_or (codes "initial_min") (pos 10) 0 60000 (view c.args.table.now)) (said_common (view c.args.table.now)) (λ none. same_then _ c.in_ok-group.ensures ∙ none_then _ none) c.in_err-initial_min_ms.ensures.found)

pub returns-in_err-initial_max_ms-clause-found : goal.returns-in_err-initial_max_ms-clause-found
returns-in_err-initial_max_ms-clause-found c =
    let p = err_from_is_err_and c.from_residual-in_err-initial_max_ms.result c.from_residual-in_err-initial_max_ms.ensures.1 in
    rw (p.1, p.2) (fails_too _ (number_or (codes "initial_max") (pos 100) c.in_ok-initial_min_ms.initial_min_ms 60000 (view c.args.table.now)) (said_common (view c.args.table.now)) (λ none. same_then _ c.in_ok-group.ensures ∙ (same_then _ c.in_ok-initial_min_ms.ensures.found ∙ none_then _ none)) c.in_err-initial_max_ms.ensures.found)

pub returns-in_err-phases-clause-found : goal.returns-in_err-phases-clause-found
returns-in_err-phases-clause-found c =
    let p = err_from_is_err_and c.from_residual-in_err-phases.result c.from_residual-in_err-phases.ensures.1 in
    rw (p.1, p.2) (fails_too _ (said_phases (view c.args.table.now)) (said_common (view c.args.table.now)) (λ none. same_then _ c.in_ok-group.ensures ∙ (same_then _ c.in_ok-initial_min_ms.ensures.found ∙ (same_then _ c.in_ok-initial_max_ms.ensures.found ∙ none_then _ none))) c.in_err-phases.ensures)

pub returns-in_err-message_limit-clause-found : goal.returns-in_err-message_limit-clause-found
returns-in_err-message_limit-clause-found c =
    let p = err_from_is_err_and c.from_residual-in_err-message_limit.result c.from_residual-in_err-message_limit.ensures.1 in
    rw (p.1, p.2) (fails_too _ (number_or (codes "message_limit") (pos 65536) 1400 greatest_message_limit (view c.args.table.now)) (said_common (view c.args.table.now)) (λ none. same_then _ c.in_ok-group.ensures ∙ (same_then _ c.in_ok-initial_min_ms.ensures.found ∙ (same_then _ c.in_ok-initial_max_ms.ensures.found ∙ (same_then _ c.in_ok-phases.ensures ∙ none_then _ none)))) c.in_err-message_limit.ensures.found)

pub returns-in_err-slots-clause-found : goal.returns-in_err-slots-clause-found
returns-in_err-slots-clause-found c =
    let p = err_from_is_err_and c.from_residual-in_err-slots.result c.from_residual-in_err-slots.ensures.1 in
    rw (p.1, p.2) (fails_too _ (count_or (codes "slots") (pos 16) (view c.args.table.now)) (said_common (view c.args.table.now)) (λ none. same_then _ c.in_ok-group.ensures ∙ (same_then _ c.in_ok-initial_min_ms.ensures.found ∙ (same_then _ c.in_ok-initial_max_ms.ensures.found ∙ (same_then _ c.in_ok-phases.ensures ∙ (same_then _ c.in_ok-message_limit.ensures.found ∙ none_then _ none))))) c.in_err-slots.ensures.found)

pub returns-in_err-peers-clause-found : goal.returns-in_err-peers-clause-found
returns-in_err-peers-clause-found c =
    let p = err_from_is_err_and c.from_residual-in_err-peers.result c.from_residual-in_err-peers.ensures.1 in
    rw (p.1, p.2) (fails_too _ (count_or (codes "peers") (pos 64) (view c.args.table.now)) (said_common (view c.args.table.now)) (λ none. same_then _ c.in_ok-group.ensures ∙ (same_then _ c.in_ok-initial_min_ms.ensures.found ∙ (same_then _ c.in_ok-initial_max_ms.ensures.found ∙ (same_then _ c.in_ok-phases.ensures ∙ (same_then _ c.in_ok-message_limit.ensures.found ∙ (same_then _ c.in_ok-slots.ensures.found ∙ none_then _ none)))))) c.in_err-peers.ensures.found)

pub returns-in_err-reassembly_timeout_ms-clause-found : goal.returns-in_err-reassembly_timeout_ms-clause-found
returns-in_err-reassembly_timeout_ms-clause-found c =
    let p = err_from_is_err_and c.from_residual-in_err-reassembly_timeout_ms.result c.from_residual-in_err-reassembly_timeout_ms.ensures.1 in
    rw (p.1, p.2) (fails_too _ (time_or (codes "reassembly_timeout") (pos 1000) (view c.args.table.now)) (said_common (view c.args.table.now)) (λ none. same_then _ c.in_ok-group.ensures ∙ (same_then _ c.in_ok-initial_min_ms.ensures.found ∙ (same_then _ c.in_ok-initial_max_ms.ensures.found ∙ (same_then _ c.in_ok-phases.ensures ∙ (same_then _ c.in_ok-message_limit.ensures.found ∙ (same_then _ c.in_ok-slots.ensures.found ∙ (same_then _ c.in_ok-peers.ensures.found ∙ none_then _ none))))))) c.in_err-reassembly_timeout_ms.ensures.found)

pub returns-in_err-call_timeout_ms-clause-found : goal.returns-in_err-call_timeout_ms-clause-found
returns-in_err-call_timeout_ms-clause-found c =
    let p = err_from_is_err_and c.from_residual-in_err-call_timeout_ms.result c.from_residual-in_err-call_timeout_ms.ensures.1 in
    rw (p.1, p.2) (fails_too _ (time_or (codes "call_timeout") (pos 2000) (view c.args.table.now)) (said_common (view c.args.table.now)) (λ none. same_then _ c.in_ok-group.ensures ∙ (same_then _ c.in_ok-initial_min_ms.ensures.found ∙ (same_then _ c.in_ok-initial_max_ms.ensures.found ∙ (same_then _ c.in_ok-phases.ensures ∙ (same_then _ c.in_ok-message_limit.ensures.found ∙ (same_then _ c.in_ok-slots.ensures.found ∙ (same_then _ c.in_ok-peers.ensures.found ∙ (same_then _ c.in_ok-reassembly_timeout_ms.ensures.found ∙ none_then _ none)))))))) c.in_err-call_timeout_ms.ensures.found)

pub returns-clause-found : goal.returns-clause-found
returns-clause-found c = same_then _ c.in_ok-group.ensures ∙ (same_then _ c.in_ok-initial_min_ms.ensures.found ∙ (same_then _ c.in_ok-initial_max_ms.ensures.found ∙ (same_then _ c.in_ok-phases.ensures ∙ (same_then _ c.in_ok-message_limit.ensures.found ∙ (same_then _ c.in_ok-slots.ensures.found ∙ (same_then _ c.in_ok-peers.ensures.found ∙ (same_then _ c.in_ok-reassembly_timeout_ms.ensures.found ∙ same_then _ c.in_ok-call_timeout_ms.ensures.found)))))))
