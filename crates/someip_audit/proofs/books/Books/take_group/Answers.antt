use Rattle.someip_audit.specs.SdShown.{working}
use Rattle.someip_audit.proofs.FrontLemmas.{begun_none, group_taken_begun, group_taken_front, on_err_any, on_err_by}
use Rattle.someip_audit.proofs.books.Books.take_group.Goals as goal

pub returns-in_err-saw_subscribe-clause-err : goal.returns-in_err-saw_subscribe-clause-err
returns-in_err-saw_subscribe-clause-err g c =
    on_err_any c.from_residual.result
    (begun_none _ _ _ c.in_err-saw_subscribe.ensures.err (group_taken_front c.args.now c.args.entry c.args.endpoint (working c.args.self.now c.args.findings.now.items)))

pub returns-clause-err : goal.returns-clause-err
returns-clause-err g c =
    on_err_by c.saw_receiver.result
    (group_taken_begun c.args.now c.args.entry c.args.endpoint c.args.self.now c.change.new.self c.saw_subscribe.new.self c.args.findings.now.items c.saw_subscribe.new.findings.items
    c.saw_receiver.new.findings.items c.change.ensures c.in_ok-saw_subscribe.ensures.ok)
    c.saw_receiver.ensures.err
