use Rattle.recording_packets.specs.View.{view_arrival}
use Rattle.someipctl_io.proofs.SendingLemmas.{OnErr-any}
use Rattle.someipctl_audit.specs.AskedAudits.{view_asked}
use Rattle.someipctl_audit.proofs.RunLemmas.{next_puts, next_stops}
use Rattle.someipctl_audit.proofs.audits.put_datagram.Goals as goal

pub returns-in_err-put_next-clause-stops : goal.returns-in_err-put_next-clause-stops
returns-in_err-put_next-clause-stops g c =
    OnErr-any c.from_residual.result
    (next_stops (view_asked c.args.asked.now) c.seen_next-seen.result (view_arrival c.args.arrival.now) c.args.auditing.now.audit c.args.gone.now _ _ _ c.seen_next-seen.ensures.seen c.seen_next-seen.ensures.time c.in_err-put_next.ensures.stops)

pub returns-clause-puts : goal.returns-clause-puts
returns-clause-puts g c =
    next_puts (view_asked c.args.asked.now) c.seen_next-seen.result (view_arrival c.args.arrival.now) c.args.auditing.now.audit _ c.args.gone.now c.put_next.new.tally _ _ _ _ c.seen_next-seen.ensures.seen c.seen_next-seen.ensures.time c.in_ok-put_next.ensures.puts
