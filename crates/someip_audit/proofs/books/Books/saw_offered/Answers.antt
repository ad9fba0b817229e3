use Rattle.someip_audit.specs.SdShown.{working}
use Rattle.someip_audit.proofs.FrontLemmas.{begun_none, offered_begun, offered_front, on_err_any, on_err_by}
use Rattle.someip_audit.proofs.books.Books.saw_offered.Goals as goal

pub returns-in_err-saw_offer-clause-err : goal.returns-in_err-saw_offer-clause-err
returns-in_err-saw_offer-clause-err g c =
    on_err_any c.from_residual.result (begun_none _ _ _ c.in_err-saw_offer.ensures.err (offered_front c.args.now c.args.entry (working c.args.self.now c.args.findings.now.items)))

pub returns-clause-err : goal.returns-clause-err
returns-clause-err g c =
    on_err_by c.saw_server.result
    (offered_begun c.args.now c.args.entry c.args.self.now c.args.findings.now.items c.saw_offer.new.self c.saw_offer.new.findings.items c.saw_server.new.findings.items c.in_ok-saw_offer.ensures.ok)
    c.saw_server.ensures.err
