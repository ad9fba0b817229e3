use Rattle.std.proofs.Common.{ap, ◌∙◌}
use Rattle.std.proofs.lemmas.Result.{on_err_weaker}
use Rattle.someip_audit.specs.SdShown.{Work}
use Rattle.someipctl_io.proofs.SendingLemmas.{OnErr-any}
use Rattle.someipctl_audit.specs.AskedAudits.{view_asked}
use Rattle.someipctl_audit.specs.Tallies.{tally_looked}
use Rattle.someipctl_audit.specs.Scenes.{view_seen}
use Rattle.someipctl_audit.proofs.StepLemmas.{on_ok_two, seen_end, seen_stop, seen_stop_due, seen_stop_found}
use Rattle.someipctl_audit.proofs.auditing.put_seen.Goals as goal

pub returns-in_err-put_due-clause-stops : goal.returns-in_err-put_due-clause-stops
returns-in_err-put_due-clause-stops g c = OnErr-any c.from_residual.result (seen_stop_due (view_asked c.args.asked.now) c.args.seen.now.time (view_seen c.args.seen.now) _ _ _ _ _ c.in_err-put_due.ensures.stops)

pub returns-in_err-messages-clause-stops : goal.returns-in_err-messages-clause-stops
returns-in_err-messages-clause-stops g c = OnErr-any c.from_residual-in_err-messages.result (seen_stop (view_asked c.args.asked.now) c.args.seen.now.time (view_seen c.args.seen.now) _ _ _ _ _ _ _ _ c.in_ok-put_due.ensures.puts)

pub returns-in_err-look-clause-stops : goal.returns-in_err-look-clause-stops
returns-in_err-look-clause-stops g c = OnErr-any c.from_residual-in_err-look.result (seen_stop (view_asked c.args.asked.now) c.args.seen.now.time (view_seen c.args.seen.now) _ _ _ _ _ _ _ _ c.in_ok-put_due.ensures.puts)

pub returns-clause-puts : goal.returns-clause-puts
returns-clause-puts g c =
    let work = rw c.clear.ensures.items at c.in_ok-messages.ensures.ok in
    let shown = ap (λ (w : Work). w.told) work in
    let left = ap (λ (w : Work). w.held) work in
    let looked = c.in_ok-look.ensures.looked ∙ ap (λ n. tally_looked n c.put_due.new.tally) c.in_ok-messages.ensures.count in
    let ok = rw c.deref.ensures.value at c.put_all_found.ensures.ok in
    let counts = rw c.deref.ensures.value at c.put_all_found.ensures.counts in
    on_ok_two c.put_all_found.result
    (λ sends more. seen_end (view_asked c.args.asked.now) c.args.seen.now.time (view_seen c.args.seen.now) _ _ _ _ _ _ _ _ _ _ _ _ _ c.saw.new.findings.items c.in_ok-put_due.ensures.puts shown left looked sends more)
    ok counts

pub returns-clause-stops : goal.returns-clause-stops
returns-clause-stops g c =
    let work = rw c.clear.ensures.items at c.in_ok-messages.ensures.ok in
    let shown = ap (λ (w : Work). w.told) work in
    let left = ap (λ (w : Work). w.held) work in
    let err = rw c.deref.ensures.value at c.put_all_found.ensures.err in
    let looked = c.in_ok-look.ensures.looked ∙ ap (λ n. tally_looked n c.put_due.new.tally) c.in_ok-messages.ensures.count in
    on_err_weaker c.put_all_found.result
    (seen_stop_found (view_asked c.args.asked.now) c.args.seen.now.time (view_seen c.args.seen.now) _ _ _ _ _ _ _ _ _ _ _ c.saw.new.findings.items c.in_ok-put_due.ensures.puts shown left looked)
    err
