use Rattle.std.proofs.Common.{Option, ℕ, ap, codes, ◌∙◌}
use Rattle.std.specs.Option.{option_and_then}
use Rattle.std.proofs.lemmas.Result.{err_from_is_err_and}
use Rattle.toml.specs.View.{view}
use Rattle.someipctl_rules.specs.Keys.{id_at}
use Rattle.someipctl_rules.specs.Saying.{message_in, placed}
use Rattle.someipctl_rules.specs.Told.{FailsAt}
use Rattle.someipctl_rules.proofs.RefusalLemmas.{refuses_by}
use Rattle.someipctl_rules.proofs.rule_reading.message_in.Goals as goal

pub returns-in_err-service-clause-err : goal.returns-in_err-service-clause-err
returns-in_err-service-clause-err c =
    let p = err_from_is_err_and c.from_residual.result c.from_residual.ensures.1 in
    let e = c.in_err-service.ensures in
    rw (p.1, p.2)
    (refuses_by (message_in (view c.args.table.now)) (view c.args.table.now) (codes "service") _
    (ap (λ (o : Option (Option ℕ)). option_and_then (λ service. option_and_then (placed service) (id_at (codes "method") (view c.args.table.now))) o) e.0) (FailsAt.service e.0) e.1)

pub returns-in_err-id_at-clause-err : goal.returns-in_err-id_at-clause-err
returns-in_err-id_at-clause-err c =
    let p = err_from_is_err_and c.from_residual-in_err-id_at.result c.from_residual-in_err-id_at.ensures.1 in
    let e = c.in_err-id_at.ensures in
    rw (p.1, p.2)
    (refuses_by (message_in (view c.args.table.now)) (view c.args.table.now) (codes "method") _
    (ap (λ (o : Option (Option ℕ)). option_and_then (λ service. option_and_then (placed service) (id_at (codes "method") (view c.args.table.now))) o) c.in_ok-service.ensures
    ∙ ap (option_and_then (placed c.in_ok-service.service)) e.0) (FailsAt.method e.0) e.1)
