use Rattle.std.proofs.Common.{◌≡◌, true, refl, rules}
use Rattle.someip_audit.specs.Audits.{without_passed}
use Rattle.audit_endpoints.specs.WatchedEndpoints.{is_looked_at}
use Rattle.someip_audit.specs.SdShown.{working}
use Rattle.someip_audit.proofs.FrontLemmas.{begun_none, on_err_any, seen_begun, seen_front}
use Rattle.someip_audit.proofs.audit.Audit.saw.Goals as goal

pub returns-in_err-expire-clause-err : goal.returns-in_err-expire-clause-err
returns-in_err-expire-clause-err g c =
    on_err_any c.from_residual.result (begun_none _ _ _ refl (seen_front (record { now = c.args.now; origin = c.args.origin.now; bytes = c.args.bytes.now }) (working c.args.self.now c.args.findings.now.items)))

pub returns-in_err-count-clause-err : goal.returns-in_err-count-clause-err
returns-in_err-count-clause-err g c =
    let looked : is_looked_at c.expire.new.self.watched c.args.origin.now ≡ true = search rules in
    let left : c.expire.new.self ≡ without_passed c.args.now c.args.self.now = search rules in
    on_err_any c.from_residual-in_err-count.result
    (seen_begun (record { now = c.args.now; origin = c.args.origin.now; bytes = c.args.bytes.now }) c.args.self.now c.expire.new.self c.args.findings.now.items
    c.saw_datagram.new.findings.items left looked c.in_err-count.ensures.err)
