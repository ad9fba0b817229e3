use Rattle.sd_wire.specs.contents.Values.{view_sd}
use Rattle.someip_audit.specs.SdShown.{working}
use Rattle.someip_audit.proofs.FrontLemmas.{begun_none, on_err_any, on_err_by, sd_begun, sd_front}
use Rattle.someip_audit.proofs.books.Books.saw_sd.Goals as goal

pub returns-in_err-saw_session-clause-err : goal.returns-in_err-saw_session-clause-err
returns-in_err-saw_session-clause-err g c =
    on_err_any c.from_residual.result
    (begun_none _ _ _ c.in_err-saw_session.ensures.err (sd_front c.args.now c.args.origin.now c.args.session (view_sd c.args.read.now) (working c.args.self.now c.args.findings.now.items)))

pub returns-clause-err : goal.returns-clause-err
returns-clause-err g c =
    on_err_by c.saw_entries.result
    (sd_begun c.args.now c.args.origin.now c.deref.result.now _ c.sd_message.result _ c.args.self.now c.args.findings.now.items c.saw_session.new.self c.saw_session.new.findings.items c.saw_entries.new.findings.items
    c.deref.ensures.value c.sd_message.ensures c.in_ok-saw_session.ensures.ok)
    c.saw_entries.ensures.err
