use Rattle.std.proofs.Common.{ℕ, List, [], sym, ◌∙◌, arith}
use Rattle.std.proofs.lemmas.Result.{err_from_is_err_and}
use Rattle.std.proofs.lemmas.List.{append-nil}
use Rattle.someip_payload.proofs.shape_text.read_shape_in.Goals as goal

pub returns-in_err-shape-clause-only : goal.returns-in_err-shape-clause-only
returns-in_err-shape-clause-only c = λ f is deep.
    let p = err_from_is_err_and c.from_residual.result c.from_residual.ensures.1 in
    let none : List ℕ = [] in
    let text = c.as_bytes-text.ensures.value ∙ sym (append-nil c.args.text.now) in
    rw (p.1, p.2) (c.in_err-shape.ensures.only f c.args.text.now none text is deep tt)

pub returns-then-end-text-clause-only : goal.returns-then-end-text-clause-only
returns-then-end-text-clause-only c = λ f is deep.
    let none : List ℕ = [] in
    let text = c.as_bytes-text.ensures.value ∙ sym (append-nil c.args.text.now) in
    let read = c.in_ok-shape.ensures.only f c.args.text.now none text is deep tt in
    omega (arith, read.1, c.if-end-text.true, c.as_bytes-text.ensures.len)

pub returns-clause-only : goal.returns-clause-only
returns-clause-only c = λ f is deep.
    let none : List ℕ = [] in
    let text = c.as_bytes-text.ensures.value ∙ sym (append-nil c.args.text.now) in
    (c.in_ok-shape.ensures.only f c.args.text.now none text is deep tt).0
