use Rattle.someip_audit.specs.SdShown.{working}
use Rattle.someip_audit.proofs.FrontLemmas.{begun_none, group_begun, group_front, on_err_any, on_err_by}
use Rattle.someip_audit.proofs.books.Books.saw_group.Goals as goal

pub returns-in_err-tell_if_any-clause-err : goal.returns-in_err-tell_if_any-clause-err
returns-in_err-tell_if_any-clause-err g c =
    on_err_any c.from_residual.result
    (begun_none _ _ _ c.in_err-tell_if_any.ensures.err (group_front c.args.now c.args.entry c.args.endpoint (working c.args.self.now c.args.findings.now.items)))

pub returns-clause-err : goal.returns-clause-err
returns-clause-err g c =
    on_err_by c.take_group.result
    (group_begun c.args.now c.args.entry c.args.endpoint c.told_unasked.result c.args.self.now c.args.findings.now.items c.tell_if_any.new.findings.items c.take_group.new.findings.items
    c.told_unasked.ensures c.in_ok-tell_if_any.ensures.ok)
    c.take_group.ensures.err
