use Rattle.std.proofs.Common.{[], ap, arith}
use Rattle.std.proofs.lemmas.Result.{err_from_is_err_and}
use Rattle.recording.specs.Readers.{IsNext, ReaderValue}
use Rattle.recording.specs.declared.Next.TheVariants.{Unread}
use Rattle.someipctl_io.proofs.SendingLemmas.{OnErr-any, Sends-flush, Stops-flush}
use Rattle.someipctl_recordings.proofs.ComingLemmas.{comes_both, comes_unread, comes_read, read_may, stopped}
use Rattle.someipctl_recordings.proofs.read_loop.next_coming.Goals as goal

pub returns-in_err-flush-clause-stops : goal.returns-in_err-flush-clause-stops
returns-in_err-flush-clause-stops g c = OnErr-any c.from_residual.result (Stops-flush _ _ _ _ _ _ c.loop-fault.invariant.1 c.in_err-flush.ensures.err)

pub loop-fault-preserved : goal.loop-fault-preserved
loop-fault-preserved g c =
    let e = c.in-Ok-Unread.ensures in
    let none : IsNext c.loop-fault.recording c.next.new.self Unread = rw c.in-Ok-Unread.field-0-is at e.next in
    let read = c.in-Ok.ensures.read in
    let place = ap (λ (r : ReaderValue). r.place) read.is in (
      comes_both _ _ _ _ _ _ [] [] c.loop-fault.invariant.0
          (comes_both _ _ _ _ _ _ [] [] (comes_unread c.loop-fault.recording c.next.new.self (g.R.Read.remaining c.loop-fault.source) none e.whole) (comes_read c.next.new.self c.read_from.new.self _ _ read)),
      Sends-flush _ _ _ _ _ _ _ c.loop-fault.invariant.1 c.in_ok-flush.ensures.ok,
      omega (arith, c.loop-fault.invariant.2, e.forward, place),
    )

pub returns-in_err-flush-clause-machine : goal.returns-in_err-flush-clause-machine
returns-in_err-flush-clause-machine g c =
    let e = c.in-Ok-Unread.ensures in
    let none : IsNext c.loop-fault.recording c.next.new.self Unread = rw c.in-Ok-Unread.field-0-is at e.next in
    let p = err_from_is_err_and c.from_residual.result c.from_residual.ensures.1 in
    rw (p.1, p.2) (stopped _ c.args.recording.now c.loop-fault.recording c.next.new.self _ _ c.loop-fault.invariant.0 none e.whole (λ wants. wants))

pub returns-in-Err-read_from-clause-machine : goal.returns-in-Err-read_from-clause-machine
returns-in-Err-read_from-clause-machine g c =
    let e = c.in-Ok-Unread.ensures in
    let none : IsNext c.loop-fault.recording c.next.new.self Unread = rw c.in-Ok-Unread.field-0-is at e.next in
    rw c.fault_of_read.ensures (stopped _ _ _ _ _ _ c.loop-fault.invariant.0 none e.whole (read_may _ _ c.next.new.self))
