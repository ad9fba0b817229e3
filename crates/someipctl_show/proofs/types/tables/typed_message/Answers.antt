use Rattle.std.proofs.Common.{◌≡◌, None, codes}
use Rattle.std.proofs.lemmas.Result.{err_from_is_err_and}
use Rattle.toml.specs.View.{view}
use Rattle.someipctl_show.specs.types.Keys.{id_at, kind_at, label_at}
use Rattle.someipctl_show.specs.types.Faults.{no_service, no_method, no_type, no_name}
use Rattle.someipctl_show.specs.types.Views.{typed_view}
use Rattle.someipctl_show.proofs.about_types.TableLemmas.{fails_by, form_fails, other_told, table_said}
use Rattle.someipctl_show.proofs.types.tables.typed_message.Goals as goal

pub returns-in_err-service-clause-said : goal.returns-in_err-service-clause-said
returns-in_err-service-clause-said c =
    let p = err_from_is_err_and c.from_residual.result c.from_residual.ensures.1 in
    rw (p.1, p.2) (fails_by c.args.names.now c.args.left (view c.args.table.now) (codes "service") (id_at (codes "service") (view c.args.table.now)) _ no_service c.in_err-service.ensures)

pub returns-in_err-method-clause-said : goal.returns-in_err-method-clause-said
returns-in_err-method-clause-said c =
    let p = err_from_is_err_and c.from_residual-in_err-method.result c.from_residual-in_err-method.ensures.1 in
    rw (p.1, p.2) (fails_by c.args.names.now c.args.left (view c.args.table.now) (codes "method") (id_at (codes "method") (view c.args.table.now)) _ no_method c.in_err-method.ensures)

pub returns-in_err-kind-clause-said : goal.returns-in_err-kind-clause-said
returns-in_err-kind-clause-said c =
    let p = err_from_is_err_and c.from_residual-in_err-kind.result c.from_residual-in_err-kind.ensures.1 in
    rw (p.1, p.2) (fails_by c.args.names.now c.args.left (view c.args.table.now) (codes "type") (kind_at (view c.args.table.now)) _ no_type c.in_err-kind.ensures)

pub returns-in_err-name-clause-said : goal.returns-in_err-name-clause-said
returns-in_err-name-clause-said c =
    let p = err_from_is_err_and c.from_residual-in_err-name.result c.from_residual-in_err-name.ensures.1 in
    rw (p.1, p.2) (fails_by c.args.names.now c.args.left (view c.args.table.now) (codes "name") (label_at (view c.args.table.now)) _ no_name c.in_err-name.ensures)

pub returns-in_err-shape-clause-said : goal.returns-in_err-shape-clause-said
returns-in_err-shape-clause-said c =
    let p = err_from_is_err_and c.from_residual-in_err-shape.result c.from_residual-in_err-shape.ensures.1 in
    rw (p.1, p.2) (form_fails c.args.names.now c.args.left (view c.args.table.now) _ c.in_err-shape.ensures.said)

pub returns-clause-said : goal.returns-clause-said
returns-clause-said c =
    table_said c.args.names.now c.args.left (view c.args.table.now)
    (typed_view (record { service = c.in_ok-service.service; method = c.in_ok-method.method; kind = c.in_ok-kind.kind; shape = c.in_ok-shape.shape; name = c.in_ok-name.name }))
    c.in_ok-service.ensures c.in_ok-method.ensures c.in_ok-kind.ensures c.in_ok-shape.ensures.said c.in_ok-name.ensures

pub returns-in_err-service-clause-told : goal.returns-in_err-service-clause-told
returns-in_err-service-clause-told c =
    let p = err_from_is_err_and c.from_residual.result c.from_residual.ensures.1 in
    rw (p.1, p.2) (other_told (id_at (codes "service") (view c.args.table.now) ≡ None) (codes "service") c.args.names.now c.args.left (view c.args.table.now) _ (λ same none text is. absurd cc) c.in_err-service.ensures)

pub returns-in_err-method-clause-told : goal.returns-in_err-method-clause-told
returns-in_err-method-clause-told c =
    let p = err_from_is_err_and c.from_residual-in_err-method.result c.from_residual-in_err-method.ensures.1 in
    rw (p.1, p.2) (other_told (id_at (codes "method") (view c.args.table.now) ≡ None) (codes "method") c.args.names.now c.args.left (view c.args.table.now) _ (λ same none text is. absurd cc) c.in_err-method.ensures)

pub returns-in_err-kind-clause-told : goal.returns-in_err-kind-clause-told
returns-in_err-kind-clause-told c =
    let p = err_from_is_err_and c.from_residual-in_err-kind.result c.from_residual-in_err-kind.ensures.1 in
    rw (p.1, p.2) (other_told (kind_at (view c.args.table.now) ≡ None) (codes "type") c.args.names.now c.args.left (view c.args.table.now) _ (λ same none text is. absurd cc) c.in_err-kind.ensures)

pub returns-in_err-name-clause-told : goal.returns-in_err-name-clause-told
returns-in_err-name-clause-told c =
    let p = err_from_is_err_and c.from_residual-in_err-name.result c.from_residual-in_err-name.ensures.1 in
    rw (p.1, p.2) (other_told (label_at (view c.args.table.now) ≡ None) (codes "name") c.args.names.now c.args.left (view c.args.table.now) _ (λ same none text is. absurd cc) c.in_err-name.ensures)
