use Rattle.std.proofs.Common.{ap, map}
use Rattle.someipctl_io.proofs.DiscoveryLemmas.{next_left}
use Rattle.std.specs.List.{flat_map}
use Rattle.sd_wire.specs.contents.Values.{view_read}
use Rattle.someipctl_io.specs.Discovery.{entry_line}
use Rattle.someipctl_io.proofs.SendingLemmas.{OnErr-any, IsSending-more, IsSending-stop}
use Rattle.someipctl_io.proofs.discovery.put_entries.Goals as goal

pub returns-in_err-put_entry-clause-err : goal.returns-in_err-put_entry-clause-err
returns-in_err-put_entry-clause-err g c =
    OnErr-any c.from_residual.result
    (IsSending-stop _ _ _ _ _ _ _ _ _ c.loop-entry.invariant (ap (λ es. flat_map (entry_line c.args.k) (map view_read es)) (next_left c.args.entries.now c.loop-entry.entry-index c.entry-item.result c.loop-entry-test.true c.entry-item.is)) c.in_err-put_entry.ensures.err)

pub loop-entry-preserved : goal.loop-entry-preserved
loop-entry-preserved g c =
    IsSending-more _ _ _ _ _ _ _ _ _ _ c.loop-entry.invariant (ap (λ es. flat_map (entry_line c.args.k) (map view_read es)) (next_left c.args.entries.now c.loop-entry.entry-index c.entry-item.result c.loop-entry-test.true c.entry-item.is)) c.in_ok-put_entry.ensures.ok
