use Rattle.someip_audit.specs.SdShown.{working}
use Rattle.someip_audit.proofs.FrontLemmas.{on_err_any, on_err_by, whole_taken_begun, whole_told}
use Rattle.someip_audit.proofs.books.Books.take_whole.Goals as goal

pub returns-in_err-saw_whole-clause-err : goal.returns-in_err-saw_whole-clause-err
returns-in_err-saw_whole-clause-err g c =
    on_err_any c.from_residual.result
    (whole_taken_begun c.args.now c.args.origin.now c.args.message.now.header c.args.message.now.payload.now (working c.args.self.now c.args.findings.now.items) c.args.findings.now.items
    c.saw_whole.new.findings.items c.in_err-saw_whole.ensures.err)

pub returns-clause-err : goal.returns-clause-err
returns-clause-err g c =
    on_err_by c.saw_way.result
    (whole_told c.args.now c.args.origin.now c.args.message.now.header c.args.message.now.payload.now c.args.self.now c.saw_whole.new.self c.args.findings.now.items c.saw_whole.new.findings.items
    c.saw_way.new.findings.items c.in_ok-saw_whole.ensures.ok)
    c.saw_way.ensures.err
