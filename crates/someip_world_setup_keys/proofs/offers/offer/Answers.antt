use Rattle.std.proofs.Common.{codes, pos, ◌∙◌}
use Rattle.std.proofs.lemmas.Result.{err_from_is_err_and}
use Rattle.toml.specs.View.{view}
use Rattle.someip_world_setup_keys.specs.Keys.{number_or}
use Rattle.someip_world_setup_keys.specs.SaidByKeys.{said_offer, id_at, major_at, ttl_at, port_at, methods_at, events_at}
use Rattle.someip_world_setup_keys.proofs.AskingLemmas.{fails_too, none_then, same_then}
use Rattle.someip_world_setup_keys.proofs.offers.offer.Goals as goal

pub returns-in_err-service : goal.returns-in_err-service
returns-in_err-service c =
    let p = err_from_is_err_and c.from_residual.result c.from_residual.ensures.1 in
    rw (p.1, p.2) (fails_too _ (id_at (codes "service") (view c.args.table.now)) (said_offer (view c.args.table.now)) (λ none. none_then _ none) c.in_err-service.ensures)

pub returns-in_err-instance : goal.returns-in_err-instance
returns-in_err-instance c =
    let p = err_from_is_err_and c.from_residual-in_err-instance.result c.from_residual-in_err-instance.ensures.1 in
    rw (p.1, p.2) (fails_too _ (id_at (codes "instance") (view c.args.table.now)) (said_offer (view c.args.table.now)) (λ none. same_then _ c.in_ok-service.ensures ∙ none_then _ none) c.in_err-instance.ensures)

pub returns-in_err-major : goal.returns-in_err-major
returns-in_err-major c =
    let p = err_from_is_err_and c.from_residual-in_err-major.result c.from_residual-in_err-major.ensures.1 in
    rw (p.1, p.2) (fails_too _ (major_at (view c.args.table.now)) (said_offer (view c.args.table.now)) (λ none. same_then _ c.in_ok-service.ensures ∙ (same_then _ c.in_ok-instance.ensures ∙ none_then _ none)) c.in_err-major.ensures)

pub returns-in_err-minor : goal.returns-in_err-minor
returns-in_err-minor c =
    let p = err_from_is_err_and c.from_residual-in_err-minor.result c.from_residual-in_err-minor.ensures.1 in
    rw (p.1, p.2) (fails_too _ (number_or (codes "minor") (pos 0) 0 0xFFFFFFFE (view c.args.table.now)) (said_offer (view c.args.table.now)) (λ none. same_then _ c.in_ok-service.ensures ∙ (same_then _ c.in_ok-instance.ensures ∙ (same_then _ c.in_ok-major.ensures ∙ none_then _ none))) c.in_err-minor.ensures.found)

pub returns-in_err-ttl : goal.returns-in_err-ttl
returns-in_err-ttl c =
    let p = err_from_is_err_and c.from_residual-in_err-ttl.result c.from_residual-in_err-ttl.ensures.1 in
    rw (p.1, p.2) (fails_too _ (ttl_at (view c.args.table.now)) (said_offer (view c.args.table.now)) (λ none. same_then _ c.in_ok-service.ensures ∙ (same_then _ c.in_ok-instance.ensures ∙ (same_then _ c.in_ok-major.ensures ∙ (same_then _ c.in_ok-minor.ensures.found ∙ none_then _ none)))) c.in_err-ttl.ensures)

pub returns-in_err-port : goal.returns-in_err-port
returns-in_err-port c =
    let p = err_from_is_err_and c.from_residual-in_err-port.result c.from_residual-in_err-port.ensures.1 in
    rw (p.1, p.2) (fails_too _ (port_at (codes "port") (view c.args.table.now)) (said_offer (view c.args.table.now)) (λ none. same_then _ c.in_ok-service.ensures ∙ (same_then _ c.in_ok-instance.ensures ∙ (same_then _ c.in_ok-major.ensures ∙ (same_then _ c.in_ok-minor.ensures.found ∙ (same_then _ c.in_ok-ttl.ensures ∙ none_then _ none))))) c.in_err-port.ensures)

pub returns-in_err-methods : goal.returns-in_err-methods
returns-in_err-methods c =
    let p = err_from_is_err_and c.from_residual-in_err-methods.result c.from_residual-in_err-methods.ensures.1 in
    rw (p.1, p.2) (fails_too _ (methods_at (codes "methods") (view c.args.table.now)) (said_offer (view c.args.table.now)) (λ none. same_then _ c.in_ok-service.ensures ∙ (same_then _ c.in_ok-instance.ensures ∙ (same_then _ c.in_ok-major.ensures ∙ (same_then _ c.in_ok-minor.ensures.found ∙ (same_then _ c.in_ok-ttl.ensures ∙ (same_then _ c.in_ok-port.ensures ∙ none_then _ none)))))) c.in_err-methods.ensures)

pub returns-in_err-oneways : goal.returns-in_err-oneways
returns-in_err-oneways c =
    let p = err_from_is_err_and c.from_residual-in_err-oneways.result c.from_residual-in_err-oneways.ensures.1 in
    rw (p.1, p.2) (fails_too _ (methods_at (codes "oneways") (view c.args.table.now)) (said_offer (view c.args.table.now)) (λ none. same_then _ c.in_ok-service.ensures ∙ (same_then _ c.in_ok-instance.ensures ∙ (same_then _ c.in_ok-major.ensures ∙ (same_then _ c.in_ok-minor.ensures.found ∙ (same_then _ c.in_ok-ttl.ensures ∙ (same_then _ c.in_ok-port.ensures ∙ (same_then _ c.in_ok-methods.ensures ∙ none_then _ none))))))) c.in_err-oneways.ensures)

pub returns-in_err-events : goal.returns-in_err-events
returns-in_err-events c =
    let p = err_from_is_err_and c.from_residual-in_err-events.result c.from_residual-in_err-events.ensures.1 in
    rw (p.1, p.2) (fails_too _ (events_at (view c.args.table.now)) (said_offer (view c.args.table.now)) (λ none. same_then _ c.in_ok-service.ensures ∙ (same_then _ c.in_ok-instance.ensures ∙ (same_then _ c.in_ok-major.ensures ∙ (same_then _ c.in_ok-minor.ensures.found ∙ (same_then _ c.in_ok-ttl.ensures ∙ (same_then _ c.in_ok-port.ensures ∙ (same_then _ c.in_ok-methods.ensures ∙ (same_then _ c.in_ok-oneways.ensures ∙ none_then _ none)))))))) c.in_err-events.ensures)

pub returns-in_err-subscribers : goal.returns-in_err-subscribers
returns-in_err-subscribers c =
    let p = err_from_is_err_and c.from_residual-in_err-subscribers.result c.from_residual-in_err-subscribers.ensures.1 in
    rw (p.1, p.2) (fails_too _ (number_or (codes "subscribers") (pos 16) 1 1024 (view c.args.table.now)) (said_offer (view c.args.table.now)) (λ none. same_then _ c.in_ok-service.ensures ∙ (same_then _ c.in_ok-instance.ensures ∙ (same_then _ c.in_ok-major.ensures ∙ (same_then _ c.in_ok-minor.ensures.found ∙ (same_then _ c.in_ok-ttl.ensures ∙ (same_then _ c.in_ok-port.ensures ∙ (same_then _ c.in_ok-methods.ensures ∙ (same_then _ c.in_ok-oneways.ensures ∙ (same_then _ c.in_ok-events.ensures ∙ none_then _ none))))))))) c.in_err-subscribers.ensures.found)

pub returns : goal.returns
returns c = same_then _ c.in_ok-service.ensures ∙ (same_then _ c.in_ok-instance.ensures ∙ (same_then _ c.in_ok-major.ensures ∙ (same_then _ c.in_ok-minor.ensures.found ∙ (same_then _ c.in_ok-ttl.ensures ∙ (same_then _ c.in_ok-port.ensures ∙ (same_then _ c.in_ok-methods.ensures ∙ (same_then _ c.in_ok-oneways.ensures ∙ (same_then _ c.in_ok-events.ensures ∙ same_then _ c.in_ok-subscribers.ensures.found))))))))
