-- A recording has one audit.
use Rattle.std.proofs.Common.{◌≡◌, ℕ, List, [], ◌∷◌, None, Some, refl, ap, sym, subst, ◌∙◌}
use Rattle.someip_audit.specs.Audits.{AuditState, Audits, Report, Seen, seen_messages}
use Rattle.someip_audit.proofs.NextLemmas.{audits_one, drains_one, hears_one}
use Rattle.someipctl_audit.specs.AskedAudits.{AskedAudit}
use Rattle.someipctl_audit.specs.SeenIn.{Tells, audit_at, ended_with, looked_by, looked_more, looked_of, none_looked}

-- as many datagrams are looked at, and messages, whichever way it is told
looked_by_one : (last : ℕ) (datagrams : List Seen) (state : AuditState) (reports others : List Report) (after other : AuditState)
    (x : Audits last state datagrams reports after) (y : Audits last state datagrams others other)
    → looked_by last state datagrams reports after x ≡ looked_by last state datagrams others other y
looked_by_one last [] state reports others after other x y = ap (λ (a : AuditState). ended_with (Some a) none_looked) (drains_one last x.0 y.0 state after other x.1 y.1).1
looked_by_one last (seen ∷ datagrams) state reports others after other x y =
    ap (λ between. looked_more (seen_messages seen between) (looked_by seen.now x.2 datagrams x.1 after x.4))
    (drains_one seen.now x.3.told y.3.told state x.3.between y.3.between x.3.drains y.3.drains).1
    ∙ ap (looked_more (seen_messages seen y.3.between)) (subst SameAs (hears_one state seen x.0 y.0 x.2 y.2 x.3 y.3).1 (λ z. looked_by_one seen.now datagrams x.2 x.1 y.1 after other x.4 z) y.4)
  where
    SameAs : AuditState → Type 0
    SameAs between = (z : Audits seen.now between datagrams y.1 other)
        → looked_by seen.now x.2 datagrams x.1 after x.4 ≡ looked_by seen.now between datagrams y.1 other z

pub tells_one : (asked : AskedAudit) (datagrams : List Seen) (reports others : List Report) → Tells asked 0 None datagrams reports → Tells asked 0 None datagrams others
    → reports ≡ others
tells_one asked [] reports others x y = x ∙ sym y
tells_one asked (seen ∷ datagrams) reports others x y = (audits_one 0 (seen ∷ datagrams) (audit_at asked None seen) reports others x.0 y.0 x.1 y.1).0

pub looked_one : (asked : AskedAudit) (datagrams : List Seen) (reports others : List Report) (x : Tells asked 0 None datagrams reports) (y : Tells asked 0 None datagrams others)
    → looked_of asked 0 None datagrams reports x ≡ looked_of asked 0 None datagrams others y
looked_one asked [] reports others x y = refl
looked_one asked (seen ∷ datagrams) reports others x y = looked_by_one 0 (seen ∷ datagrams) (audit_at asked None seen) reports others x.0 y.0 x.1 y.1
