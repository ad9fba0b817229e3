use Rattle.std.proofs.Common.{rules}
use Rattle.std.proofs.lemmas.Result.{on_ok_weaker, on_err_weaker}
use Rattle.someipctl_io.specs.ToldViews.{view_head}
use Rattle.someipctl_io.proofs.SendingLemmas.{OnErr-any, Sends-nil, Sends-trans, Stops-after, Stops-before}
use Rattle.someipctl_io.proofs.ObjectLemmas.{no-value, some-value}
use Rattle.someipctl_io.proofs.told_items.put_value_line.Goals as goal

pub returns-then-is_empty-clause-ok : goal.returns-then-is_empty-clause-ok
returns-then-is_empty-clause-ok g c = rw (no-value c.args.head.now.form (view_head c.args.head.now) c.args.fields.now (search rules)) (Sends-nil _ _)

pub returns-in_err-put_begin-clause-err : goal.returns-in_err-put_begin-clause-err
returns-in_err-put_begin-clause-err g c =
    rw (some-value c.args.head.now.form (view_head c.args.head.now) c.args.fields.now (search rules)) (OnErr-any c.from_residual.result (Stops-before _ _ _ _ _ c.in_err-put_begin.ensures.err))

pub returns-in_err-put-clause-err : goal.returns-in_err-put-clause-err
returns-in_err-put-clause-err g c =
    rw (some-value c.args.head.now.form (view_head c.args.head.now) c.args.fields.now (search rules))
    (OnErr-any c.from_residual-in_err-put.result (Stops-after _ _ _ _ _ _ _ c.in_ok-put_begin.ensures.ok (Stops-before _ _ _ _ _ c.in_err-put.ensures.err)))

pub returns-clause-ok : goal.returns-clause-ok
returns-clause-ok g c =
    rw (some-value c.args.head.now.form (view_head c.args.head.now) c.args.fields.now (search rules))
    (on_ok_weaker c.put_end_of_line.result (λ s. Sends-trans _ _ _ _ _ _ _ _ c.in_ok-put_begin.ensures.ok (Sends-trans _ _ _ _ _ _ _ _ c.in_ok-put.ensures.ok s)) c.put_end_of_line.ensures.ok)

pub returns-clause-err : goal.returns-clause-err
returns-clause-err g c =
    rw (some-value c.args.head.now.form (view_head c.args.head.now) c.args.fields.now (search rules))
    (on_err_weaker c.put_end_of_line.result (λ s. Stops-after _ _ _ _ _ _ _ c.in_ok-put_begin.ensures.ok (Stops-after _ _ _ _ _ _ _ c.in_ok-put.ensures.ok s)) c.put_end_of_line.ensures.err)
