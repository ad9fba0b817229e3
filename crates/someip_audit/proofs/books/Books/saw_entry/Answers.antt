use Rattle.sd_wire.specs.contents.Values.{view_read}
use Rattle.someip_audit.specs.SdShown.{working}
use Rattle.someip_audit.proofs.FrontLemmas.{begun_none, entry_begun, entry_front, on_err_any, on_err_by}
use Rattle.someip_audit.proofs.books.Books.saw_entry.Goals as goal

pub returns-in_err-tell_if_any-clause-err : goal.returns-in_err-tell_if_any-clause-err
returns-in_err-tell_if_any-clause-err g c =
    on_err_any c.from_residual.result
    (begun_none _ _ _ c.in_err-tell_if_any.ensures.err (entry_front c.args.now c.args.origin.now (view_read c.args.entry.now) (working c.args.self.now c.args.findings.now.items)))

pub returns-clause-err : goal.returns-clause-err
returns-clause-err g c =
    on_err_by c.take_entry.result
    (entry_begun c.args.now c.args.origin.now (view_read c.args.entry.now) c.told_of_options.result c.args.self.now c.note_offer.new.self c.args.findings.now.items c.tell_if_any.new.findings.items
    c.take_entry.new.findings.items c.note_offer.ensures c.told_of_options.ensures c.in_ok-tell_if_any.ensures.ok)
    c.take_entry.ensures.err
