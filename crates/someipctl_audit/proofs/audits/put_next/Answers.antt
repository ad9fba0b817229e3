use Rattle.std.proofs.Common.{◌≡◌, ◌∙◌, not, true, None, Option, Some, ap, refl, sym}
use Rattle.std.specs.Option.{is_some}
use Rattle.std.proofs.lemmas.Result.{on_ok_weaker}
use Rattle.someip_audit.specs.Audits.{AuditState}
use Rattle.someipctl_io.proofs.SendingLemmas.{OnErr-any}
use Rattle.someipctl_audit.specs.AskedAudits.{AskedAudit, view_asked}
use Rattle.someipctl_audit.specs.Scenes.{view_seen}
use Rattle.someip_audit.specs.Audits.{Seen}
use Rattle.someipctl_audit.specs.SeenIn.{audit_at}
use Rattle.someipctl_audit.proofs.RunLemmas.{begin_stops}
use Rattle.someipctl_audit.proofs.audits.put_next.Goals.{then-is_none+in_ok-begin_with, else-is_none}
use Rattle.someipctl_audit.proofs.audits.put_next.Goals as goal

-- the audit at a datagram, where it began with it
begun : (asked : AskedAudit) (seen : Seen) (before now : Option AuditState) (state : AuditState) → is_some before ≡ not true → now ≡ Some (audit_at asked None seen) → now ≡ Some state → state ≡ audit_at asked before seen
begun asked seen None now state none is some = cc
begun asked seen (Some other) now state none is some = absurd cc

-- and where it stood
stood : (asked : AskedAudit) (seen : Seen) (before : Option AuditState) (state : AuditState) → before ≡ Some state → state ≡ audit_at asked before seen
stood asked seen None state is = absurd cc
stood asked seen (Some other) state is = cc

pub returns-in_err-begin_with-clause-stops : goal.returns-in_err-begin_with-clause-stops
returns-in_err-begin_with-clause-stops g c =
    OnErr-any c.from_residual.result (begin_stops (view_asked c.args.asked.now) c.args.seen.now c.args.auditing.now.audit c.args.tally.now.noted (g.W.Write.contents c.args.writer.now) c.args.buffer.now)

pub returns-clause-puts : goal.returns-clause-puts
returns-clause-puts g c =
    let at : c.in-Some.audit ≡ audit_at (view_asked c.args.asked.now) c.args.auditing.now.audit (view_seen c.args.seen.now) = elim c.if-is_none.branch [
      | then-is_none+in_ok-begin_with w ↦ begun (view_asked c.args.asked.now) (view_seen c.args.seen.now) c.args.auditing.now.audit c.if-is_none.auditing.audit c.in-Some.audit (c.is_none.ensures ∙ ap not w.if-is_none.true) (ap (λ a. a.audit) w.auditing-is ∙ w.in_ok-begin_with.ensures.begun) c.in-Some.is
      | else-is_none w ↦ stood (view_asked c.args.asked.now) (view_seen c.args.seen.now) c.args.auditing.now.audit c.in-Some.audit (sym (ap (λ a. a.audit) w.auditing-is) ∙ c.in-Some.is)
    ] in
    on_ok_weaker c.put_seen.result (λ p. record { state = c.put_seen.new.audit; is = refl; puts = rw (← at) p }) c.put_seen.ensures.puts
