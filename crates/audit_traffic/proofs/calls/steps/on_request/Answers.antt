use Rattle.std.proofs.Common.{◌≡◌, ap, ◌∙◌}
use Rattle.std.specs.FinMap.{get}
use Rattle.someip_tables.proofs.Outcomes.{on_err}
use Rattle.audit_traffic.specs.calls.CallBooks.{known}
use Rattle.audit_traffic.specs.calls.KnownCalls.{known_at, known_by_request}
use Rattle.audit_traffic.proofs.about_calls.BookLemmas.{changed, known_alike}
use Rattle.audit_traffic.proofs.calls.steps.on_request.Goals as goal

pub returns-in_err-insert-clause-grows : goal.returns-in_err-insert-clause-grows
returns-in_err-insert-clause-grows c =
    let known : c.judge_request-told.result.1 ≡ known_by_request c.args.opened (known c.args.opened.since c.args.calls.now c.args.call) =
    c.judge_request-told.ensures.known ∙ ap (known_by_request c.args.opened) (c.known_at-before.ensures ∙ ap (known_at c.args.opened.since) c.unanswered-before.ensures)
    ∙ known_alike c.args.opened.since c.args.opened (get c.args.calls.now c.args.call) in
    on_err c.from_residual.result (changed _ c.args.call _ _ known c.in_err-insert.ensures.grows)
