use Rattle.std.proofs.Common.{sym, subst}
use Rattle.std.proofs.lemmas.Result.{err_from_is_err_and}
use Rattle.someip_payload_values.specs.View.{form}
use Rattle.someip_payload_values.specs.declared.shape.Shape.{Shape}
use Rattle.someipctl_show.specs.types.Keys.{IsOnly}
use Rattle.someipctl_show.specs.types.Says.{IsShapeText}
use Rattle.someipctl_show.proofs.about_types.TableLemmas.{not_read_none, not_read_told, read_said, refused_tells}
use Rattle.someipctl_show.proofs.types.keys.shape_of.Goals as goal

pub returns-in_err-shape-clause-said : goal.returns-in_err-shape-clause-said
returns-in_err-shape-clause-said c =
    let p = err_from_is_err_and c.from_residual.result c.from_residual.ensures.1 in
    rw (p.1, p.2) (not_read_none c.args.names.now c.args.left c.args.text.now _ c.in_err-shape.ensures.err)

pub returns-in_err-shape-clause-told : goal.returns-in_err-shape-clause-told
returns-in_err-shape-clause-told c =
    let p = err_from_is_err_and c.from_residual.result c.from_residual.ensures.1 in
    rw (p.1, p.2) (not_read_told c.args.names.now c.args.left c.args.text.now _ c.in_err-shape.ensures.err)

pub returns-in_err-accepted-clause-said : goal.returns-in_err-accepted-clause-said
returns-in_err-accepted-clause-said c =
    let p = err_from_is_err_and c.from_residual-in_err-accepted.result c.from_residual-in_err-accepted.ensures.1 in
    rw (p.1, p.2) (refused_tells c.args.names.now c.args.left c.in_ok-shape.rest c.args.text.now (form c.in_ok-shape.shape) _ c.in_ok-shape.ensures.ok c.in_err-accepted.ensures.err).0

pub returns-in_err-accepted-clause-told : goal.returns-in_err-accepted-clause-told
returns-in_err-accepted-clause-told c =
    let p = err_from_is_err_and c.from_residual-in_err-accepted.result c.from_residual-in_err-accepted.ensures.1 in
    rw (p.1, p.2) (refused_tells c.args.names.now c.args.left c.in_ok-shape.rest c.args.text.now (form c.in_ok-shape.shape) _ c.in_ok-shape.ensures.ok c.in_err-accepted.ensures.err).1

pub returns-clause-said : goal.returns-clause-said
returns-clause-said c =
    let ok = c.in_ok-accepted.ensures.ok in
    subst (λ (s : Shape). IsOnly (IsShapeText c.args.names.now c.args.left c.args.text.now) (form s)) (sym ok.0)
    (read_said c.args.names.now c.args.left c.in_ok-shape.rest c.args.text.now (form c.in_ok-shape.shape) c.in_ok-shape.ensures.ok ok.1)
