use Rattle.someip_audit.specs.SdShown.{working}
use Rattle.someip_audit.proofs.FrontLemmas.{begun_none, good_begun, good_front, on_err_any, on_err_by}
use Rattle.someip_audit.proofs.books.Books.saw_good.Goals as goal

pub returns-in_err-saw_endpoint-clause-err : goal.returns-in_err-saw_endpoint-clause-err
returns-in_err-saw_endpoint-clause-err g c =
    on_err_any c.from_residual.result
    (begun_none _ _ _ c.in_err-saw_endpoint.ensures.err (good_front c.args.now c.args.origin.now c.args.head.now c.args.endpoint (working c.args.self.now c.args.findings.now.items)))

pub returns-clause-err : goal.returns-clause-err
returns-clause-err g c =
    on_err_by c.saw_head.result
    (good_begun c.args.now c.args.origin.now c.args.head.now c.args.endpoint c.named_endpoint.result c.args.self.now c.saw_endpoint.new.self c.args.findings.now.items
    c.saw_endpoint.new.findings.items c.saw_head.new.findings.items c.named_endpoint.ensures c.in_ok-saw_endpoint.ensures.ok)
    c.saw_head.ensures.err
