use Rattle.std.proofs.Common.{ap, refl, sym, ◌∙◌}
use Rattle.std.specs.Result.{result_map_both}
use Rattle.sd_wire.specs.contents.Values.{view_sd}
use Rattle.someip_audit.proofs.ItemLemmas.{fault_fits}
use Rattle.sd_wire.specs.decoding.Program.{reading}
use Rattle.someip_audit.specs.SdShown.{working}
use Rattle.someip_audit.proofs.FrontLemmas.{begun_none, on_err_any, payload_front}
use Rattle.someip_audit.proofs.books.Books.saw_payload.Goals as goal

pub returns-in_err-read-clause-err : goal.returns-in_err-read-clause-err
returns-in_err-read-clause-err g c =
    on_err_any c.from_residual.result (begun_none _ _ _ refl (payload_front c.args.now c.args.origin.now c.args.place c.args.session (reading c.args.payload.now) (working c.args.self.now c.args.findings.now.items)))

pub in_datagram-requires : goal.in_datagram-requires
in_datagram-requires g c = fault_fits c.args.place _ c.args.payload.now c.in-Err.fault (sym c.in_ok-read.ensures ∙ ap (result_map_both view_sd (λ e. e)) c.in-Err.is) c.requires
