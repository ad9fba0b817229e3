use Rattle.someip_audit.specs.SdShown.{working}
use Rattle.someip_audit.proofs.FrontLemmas.{begun_none, flowed_begun, heard_begun, judged_begun, on_err_any, on_err_by, rest_front}
use Rattle.someip_audit.proofs.books.Books.saw_rest.Goals as goal

pub returns-in_err-judge-clause-err : goal.returns-in_err-judge-clause-err
returns-in_err-judge-clause-err g c =
    on_err_any c.from_residual.result
    (begun_none _ _ _ c.in_err-judge.ensures.err (rest_front c.args.now c.args.origin.now c.args.header.now (working c.args.self.now c.args.findings.now.items)))

pub returns-in_err-saw_event-clause-err : goal.returns-in_err-saw_event-clause-err
returns-in_err-saw_event-clause-err g c =
    on_err_any c.from_residual-in_err-saw_event.result
    (judged_begun c.args.now c.args.origin.now c.args.header.now c.args.self.now c.args.findings.now.items c.judge.new.self c.judge.new.findings.items c.saw_event.new.findings.items
    c.in_ok-judge.ensures.ok c.in_err-saw_event.ensures.err)

pub returns-in_err-saw_flow-clause-err : goal.returns-in_err-saw_flow-clause-err
returns-in_err-saw_flow-clause-err g c =
    on_err_any c.from_residual-in_err-saw_flow.result
    (heard_begun c.args.now c.args.origin.now c.args.header.now c.args.self.now c.args.findings.now.items c.judge.new.self c.saw_event.new.self c.judge.new.findings.items
    c.saw_event.new.findings.items c.saw_flow.new.findings.items c.in_ok-judge.ensures.ok c.in_ok-saw_event.ensures.ok c.in_err-saw_flow.ensures.err)

pub returns-clause-err : goal.returns-clause-err
returns-clause-err g c =
    on_err_by c.saw_cycle.result
    (flowed_begun c.args.now c.args.origin.now c.args.header.now c.args.self.now c.args.findings.now.items c.judge.new.self c.saw_event.new.self c.saw_flow.new.self c.judge.new.findings.items
    c.saw_event.new.findings.items c.saw_flow.new.findings.items c.saw_cycle.new.findings.items c.in_ok-judge.ensures.ok c.in_ok-saw_event.ensures.ok c.in_ok-saw_flow.ensures.ok)
    c.saw_cycle.ensures.err
