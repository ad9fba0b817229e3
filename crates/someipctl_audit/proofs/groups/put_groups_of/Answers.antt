use Rattle.std.proofs.Common.{ap}
use Rattle.std.proofs.lemmas.List.{drop_more}
use Rattle.someipctl_io.proofs.SendingLemmas.{OnErr-any, IsSending-more, IsSending-stop}
use Rattle.std.specs.List.{flat_map}
use Rattle.someipctl_audit.specs.Groupings.{line_of_kind}
use Rattle.someipctl_audit.proofs.groups.put_groups_of.Goals as goal

pub returns-in_err-put_group_of-clause-err : goal.returns-in_err-put_group_of-clause-err
returns-in_err-put_group_of-clause-err g c =
    OnErr-any c.from_residual.result
    (IsSending-stop _ _ _ _ _ _ _ _ _ c.loop-one.invariant (ap (flat_map (line_of_kind c.args.form c.args.kind)) (drop_more c.args.groups.now c.loop-one.one-index _ c.loop-one-test.true)) c.in_err-put_group_of.ensures.err)

pub loop-one-preserved : goal.loop-one-preserved
loop-one-preserved g c =
    IsSending-more _ _ _ _ _ _ _ _ _ _ c.loop-one.invariant (ap (flat_map (line_of_kind c.args.form c.args.kind)) (drop_more c.args.groups.now c.loop-one.one-index _ c.loop-one-test.true)) c.in_ok-put_group_of.ensures.ok
