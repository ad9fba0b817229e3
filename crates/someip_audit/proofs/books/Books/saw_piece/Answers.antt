use Rattle.std.proofs.Common.{refl}
use Rattle.someip_wire.specs.View.{view}
use Rattle.someip_audit.specs.SdShown.{working}
use Rattle.someip_audit.proofs.FrontLemmas.{begun_none, on_err_any, piece_front}
use Rattle.someip_audit.proofs.books.Books.saw_piece.Goals as goal

pub returns-in_err-told-clause-err : goal.returns-in_err-told-clause-err
returns-in_err-told-clause-err g c =
    on_err_any c.from_residual.result (begun_none _ _ _ refl (piece_front c.args.now c.args.origin.now (view c.args.message.now) (working c.args.self.now c.args.findings.now.items)))
