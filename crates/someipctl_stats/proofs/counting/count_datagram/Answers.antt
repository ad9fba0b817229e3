use Rattle.std.proofs.Common.{◌≡◌, ◌∙◌, ap, refl, sym}
use Rattle.std.proofs.lemmas.Result.{on_ok_weaker}
use Rattle.someip_audit.specs.SdShown.{Work}
use Rattle.audit_endpoints.specs.WatchedEndpoints.{is_looked_at}
use Rattle.someipctl_recordings.specs.Wanted.{view_wanted}
use Rattle.someipctl_audit.specs.Scenes.{view_seen}
use Rattle.someipctl_stats.specs.Counting.{after_facts, datagram_facts}
use Rattle.someipctl_stats.specs.Micros.{micros_after}
use Rattle.someipctl_stats.proofs.CountingLemmas.{hears_so, looked_at, messages_counted}
use Rattle.someipctl_stats.proofs.counting.count_datagram.Goals.{then-is_some+in_ok-count_messages, else-is_some}
use Rattle.someipctl_stats.proofs.counting.count_datagram.Goals as goal

pub returns : goal.returns
returns g c =
    let w = view_wanted c.args.wanted.now in
    let seen = view_seen c.args.seen.now in
    let time = c.args.seen.now.time in
    let before = c.args.counting.now in
    let moment = c.micros_after-counting.ensures.moment in
    let work = rw c.clear.ensures.items at c.in_ok-messages.ensures.ok in
    let shown = ap (λ (k : Work). k.told) work in
    let left = ap (λ (k : Work). k.held) work in
    let looked = sym (looked_at seen c.count_due.new.audit c.in_ok-messages.messages c.in_ok-messages.ensures.count) ∙ sym c.is_some.ensures in
    let step : c.if-is_some.counting
    ≡ record before { micros = micros_after before.micros time; figures = after_facts (datagram_facts w (micros_after before.micros time) time seen (is_looked_at c.count_due.new.audit.watched seen.origin)) c.count_due.new.figures } =
    elim c.if-is_some.branch [
      | then-is_some+in_ok-count_messages k ↦ k.counting-is ∙ messages_counted w time seen before _ c.count_due.new.figures _ _ _ moment (looked ∙ k.if-is_some.true) k.in_ok-count_messages.ensures
      | else-is_some k ↦ k.counting-is ∙ messages_counted w time seen before _ c.count_due.new.figures _ _ _ moment (looked ∙ k.if-is_some.false) refl
    ] in
    on_ok_weaker c.count_findings.result
    (hears_so w time seen _ c.count_due.new.audit _ before _ _ c.count_due.new.figures _ c.in_ok-count_due.ensures shown left step)
    (rw c.deref.ensures.value at c.count_findings.ensures)
