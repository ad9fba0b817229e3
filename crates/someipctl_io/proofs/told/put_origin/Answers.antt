use Rattle.std.proofs.Common.{ap, map}
use Rattle.std.proofs.lemmas.List.{drop_more}
use Rattle.someipctl_io.specs.ToldLines.{origin_text}
use Rattle.someipctl_io.specs.ToldViews.{view_field}
use Rattle.someipctl_io.proofs.SendingLemmas.{OnErr-any, IsSending-more, IsSending-stop}
use Rattle.someipctl_io.proofs.told.put_origin.Goals as goal

pub returns-in_err-put_spaced_field-clause-err : goal.returns-in_err-put_spaced_field-clause-err
returns-in_err-put_spaced_field-clause-err g c =
    OnErr-any c.from_residual.result
    (IsSending-stop _ _ _ _ _ _ _ _ _ c.loop-field.invariant (ap (λ fs. origin_text (map view_field fs)) (drop_more c.args.fields.now c.loop-field.field-index _ c.loop-field-test.true)) c.in_err-put_spaced_field.ensures.err)

pub loop-field-preserved : goal.loop-field-preserved
loop-field-preserved g c =
    IsSending-more _ _ _ _ _ _ _ _ _ _ c.loop-field.invariant (ap (λ fs. origin_text (map view_field fs)) (drop_more c.args.fields.now c.loop-field.field-index _ c.loop-field-test.true)) c.in_ok-put_spaced_field.ensures.ok
