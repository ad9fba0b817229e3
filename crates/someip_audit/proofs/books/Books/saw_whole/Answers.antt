use Rattle.someip_audit.specs.SdShown.{working}
use Rattle.someip_audit.proofs.FrontLemmas.{begun_none, coded_begun, on_err_any, on_err_by, whole_begun, whole_front}
use Rattle.someip_audit.proofs.books.Books.saw_whole.Goals as goal

pub returns-in_err-saw_call-clause-err : goal.returns-in_err-saw_call-clause-err
returns-in_err-saw_call-clause-err g c =
    on_err_any c.from_residual.result
    (begun_none _ _ _ c.in_err-saw_call.ensures.err (whole_front c.args.now c.args.origin.now c.args.message.now.header c.args.message.now.payload.now (working c.args.self.now c.args.findings.now.items)))

pub returns-in_err-tell_if_any-clause-err : goal.returns-in_err-tell_if_any-clause-err
returns-in_err-tell_if_any-clause-err g c =
    on_err_any c.from_residual-in_err-tell_if_any.result
    (whole_begun c.args.now c.args.origin.now c.args.message.now.header c.args.message.now.payload.now c.args.self.now c.args.findings.now.items c.saw_call.new.self c.saw_call.new.findings.items
    c.tell_if_any.new.findings.items c.in_ok-saw_call.ensures.ok c.in_err-tell_if_any.ensures.err)

pub returns-clause-err : goal.returns-clause-err
returns-clause-err g c =
    on_err_by c.saw_rest.result
    (coded_begun c.args.now c.args.origin.now c.args.message.now.header c.args.message.now.payload.now c.told_of_code.result c.args.self.now c.args.findings.now.items c.saw_call.new.self
    c.saw_call.new.findings.items c.tell_if_any.new.findings.items c.saw_rest.new.findings.items c.in_ok-saw_call.ensures.ok c.told_of_code.ensures c.in_ok-tell_if_any.ensures.ok)
    c.saw_rest.ensures.err
