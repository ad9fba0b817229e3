use Rattle.std.proofs.Common.{ap, map}
use Rattle.someipctl_io.proofs.DiscoveryLemmas.{next_left}
use Rattle.sd_wire.specs.contents.Values.{view_read}
use Rattle.someipctl_io.specs.ToldLines.{lines_text}
use Rattle.someipctl_io.specs.ToldViews.{view_head}
use Rattle.someipctl_io.specs.ToldItems.{entry_told}
use Rattle.someipctl_io.proofs.SendingLemmas.{OnErr-any, IsSending-more, IsSending-stop}
use Rattle.someipctl_io.proofs.told_entries.put_entries_in.Goals as goal

pub returns-in_err-put_entry_in-clause-err : goal.returns-in_err-put_entry_in-clause-err
returns-in_err-put_entry_in-clause-err g c =
    OnErr-any c.from_residual.result
    (IsSending-stop _ _ _ _ _ _ _ _ _ c.loop-entry.invariant (ap (λ es. lines_text c.args.head.now.form (view_head c.args.head.now) (map entry_told (map view_read es))) (next_left c.args.entries.now c.loop-entry.entry-index c.entry-item.result c.loop-entry-test.true c.entry-item.is)) c.in_err-put_entry_in.ensures.err)

pub loop-entry-preserved : goal.loop-entry-preserved
loop-entry-preserved g c =
    IsSending-more _ _ _ _ _ _ _ _ _ _ c.loop-entry.invariant (ap (λ es. lines_text c.args.head.now.form (view_head c.args.head.now) (map entry_told (map view_read es))) (next_left c.args.entries.now c.loop-entry.entry-index c.entry-item.result c.loop-entry-test.true c.entry-item.is)) c.in_ok-put_entry_in.ensures.ok
