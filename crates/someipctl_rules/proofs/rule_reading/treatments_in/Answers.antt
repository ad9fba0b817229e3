use Rattle.std.proofs.Common.{codes, map, option_map}
use Rattle.std.proofs.lemmas.Result.{err_from_is_err_and}
use Rattle.toml.specs.View.{view}
use Rattle.someipctl_rules.specs.Saying.{treatments_in}
use Rattle.someipctl_rules.specs.Told.{FailsAt}
use Rattle.someipctl_rules.proofs.RefusalLemmas.{err_found, kinds_told, list_told, none_by_bounds, none_by_list, ok_found, refuses_by, treated_so, wrong_tells}
use Rattle.someipctl_rules.proofs.rule_reading.treatments_in.Goals as goal

pub returns-in_err-allowed-clause-err : goal.returns-in_err-allowed-clause-err
returns-in_err-allowed-clause-err c =
    let p = err_from_is_err_and c.from_residual.result c.from_residual.ensures.1 in
    let e = c.in_err-allowed.ensures in
    rw (p.1, p.2) (refuses_by (treatments_in (view c.args.table.now)) (view c.args.table.now) (codes "allow") _ (none_by_list (view c.args.table.now) e.0) (FailsAt.allow e.0) (wrong_tells (codes "allow") _ e.1))

pub returns-in_err-refuse_kinds-clause-err : goal.returns-in_err-refuse_kinds-clause-err
returns-in_err-refuse_kinds-clause-err c =
    let p = err_from_is_err_and c.from_residual-in_err-refuse_kinds.result c.from_residual-in_err-refuse_kinds.ensures.1 in
    rw (p.1, p.2) (list_told (view c.args.table.now) (map view c.in_ok-allowed.allowed.now) _ c.in_ok-allowed.ensures c.in_err-refuse_kinds.ensures.unsaid c.in_err-refuse_kinds.ensures.err)

pub returns-in_err-bounds-clause-err : goal.returns-in_err-bounds-clause-err
returns-in_err-bounds-clause-err c =
    let p = err_from_is_err_and c.from_residual-in_err-bounds.result c.from_residual-in_err-bounds.ensures.1 in
    let e = c.in_err-bounds.ensures in
    rw (p.1, p.2)
    (refuses_by (treatments_in (view c.args.table.now)) (view c.args.table.now) (codes "at_most") _
    (none_by_bounds (view c.args.table.now) (map view c.in_ok-allowed.allowed.now) c.in_ok-allowed.ensures c.in_ok-refuse_kinds.ensures.ok e.0) (FailsAt.bounds e.0) e.1)

pub returns-in_err-refuse_unknown_kinds-clause-err : goal.returns-in_err-refuse_unknown_kinds-clause-err
returns-in_err-refuse_unknown_kinds-clause-err c =
    let p = err_from_is_err_and c.from_residual-in_err-refuse_unknown_kinds.result c.from_residual-in_err-refuse_unknown_kinds.ensures.1 in
    rw (p.1, p.2)
    (kinds_told (view c.args.table.now) (map view c.in_ok-allowed.allowed.now) (option_map (λ b. view b.now) c.in_ok-bounds.bounds) _ c.in_ok-allowed.ensures c.in_ok-refuse_kinds.ensures.ok c.in_ok-bounds.ensures
    c.in_err-refuse_unknown_kinds.ensures.unsaid c.in_err-refuse_unknown_kinds.ensures.err)

pub returns-clause-ok : goal.returns-clause-ok
returns-clause-ok c =
    ok_found c.treatments_of.result (codes "at_most") _ (treatments_in (view c.args.table.now))
    (treated_so (view c.args.table.now) (map view c.in_ok-allowed.allowed.now) c.in_ok-allowed.ensures c.in_ok-refuse_kinds.ensures.ok (option_map (λ b. view b.now) c.in_ok-bounds.bounds) c.in_ok-bounds.ensures c.in_ok-refuse_unknown_kinds.ensures.ok) c.treatments_of.ensures

pub returns-clause-err : goal.returns-clause-err
returns-clause-err c =
    err_found c.treatments_of.result (view c.args.table.now) (codes "at_most") _ (treatments_in (view c.args.table.now))
    (treated_so (view c.args.table.now) (map view c.in_ok-allowed.allowed.now) c.in_ok-allowed.ensures c.in_ok-refuse_kinds.ensures.ok (option_map (λ b. view b.now) c.in_ok-bounds.bounds) c.in_ok-bounds.ensures c.in_ok-refuse_unknown_kinds.ensures.ok)
    (FailsAt.bound (map view c.in_ok-allowed.allowed.now) (option_map (λ b. view b.now) c.in_ok-bounds.bounds) c.in_ok-bounds.ensures) c.treatments_of.ensures
