use Rattle.std.proofs.Common.{◌∙◌, ◌++◌, [], ◌∷◌, sym, ap}
use Rattle.std.specs.Prelude.{option_map}
use Rattle.std.proofs.lemmas.Result.{on_err_weaker, on_ok_weaker}
use Rattle.recording.specs.View.{view_record}
use Rattle.someipctl_io.proofs.SendingLemmas.{OnErr-any, Sends-as, Sends-trans, Stops-after, Stops-as, Stops-before}
use Rattle.someipctl_extract.specs.declared.output.Output.{Output}
use Rattle.someipctl_extract.specs.Extraction.{with_packets}
use Rattle.someipctl_extract.proofs.ExtractionLemmas.{bytes_behind, bytes_kept, fits_kept, output_kept}
use Rattle.someipctl_extract.proofs.output.Output.put_datagram.Goals as goal

pub returns-in_err-put_all-in-Some-packets-clause-err : goal.returns-in_err-put_all-in-Some-packets-clause-err
returns-in_err-put_all-in-Some-packets-clause-err g c =
    let under = sym c.packets.ensures ∙ ap (option_map (λ packets. packets.now)) c.in-Some-packets.is in
    OnErr-any c.from_residual.result
    (Stops-as _ _ _ _ _ (bytes_kept c.args.self.now c.args.key c.in-Some.key c.args.kept.now (view_record c.args.found.now) c.in-Some-packets.packets.now c.in-Some.is under)
    (Stops-before _ _ _ _ _ c.in_err-put_all-in-Some-packets.ensures.err))

pub returns-in_ok-put_all-in-Some-packets-clause-ok : goal.returns-in_ok-put_all-in-Some-packets-clause-ok
returns-in_ok-put_all-in-Some-packets-clause-ok g c =
    let under = sym c.packets.ensures ∙ ap (option_map (λ packets. packets.now)) c.in-Some-packets.is in
    let r = view_record c.args.found.now in
    let all = ap (λ (o : Output). bytes_behind c.args.self.now c.in-Some-packets.packets.now ++ bytes_behind o (r ∷ [])) c.in_ok-put_all-in-Some-packets.ensures.after
    ∙ bytes_kept c.args.self.now c.args.key c.in-Some.key c.args.kept.now r c.in-Some-packets.packets.now c.in-Some.is under in
    on_ok_weaker c.put-in-Some-packets.result (λ sends. Sends-as _ _ _ _ _ _ all (Sends-trans _ _ _ _ _ _ _ _ c.in_ok-put_all-in-Some-packets.ensures.ok sends)) c.put-in-Some-packets.ensures.ok

pub returns-in_ok-put_all-in-Some-packets-clause-after : goal.returns-in_ok-put_all-in-Some-packets-clause-after
returns-in_ok-put_all-in-Some-packets-clause-after g c =
    let under = sym c.packets.ensures ∙ ap (option_map (λ packets. packets.now)) c.in-Some-packets.is in
    let r = view_record c.args.found.now in
    on_ok_weaker c.put-in-Some-packets.result
    (λ is. is ∙ ap (λ (o : Output). with_packets o (r ∷ [])) c.in_ok-put_all-in-Some-packets.ensures.after ∙ output_kept c.args.self.now c.args.key c.in-Some.key c.args.kept.now r c.in-Some-packets.packets.now c.in-Some.is under)
    c.put-in-Some-packets.ensures.after

pub returns-in_ok-put_all-in-Some-packets-clause-err : goal.returns-in_ok-put_all-in-Some-packets-clause-err
returns-in_ok-put_all-in-Some-packets-clause-err g c =
    let under = sym c.packets.ensures ∙ ap (option_map (λ packets. packets.now)) c.in-Some-packets.is in
    let r = view_record c.args.found.now in
    let all = ap (λ (o : Output). bytes_behind c.args.self.now c.in-Some-packets.packets.now ++ bytes_behind o (r ∷ [])) c.in_ok-put_all-in-Some-packets.ensures.after
    ∙ bytes_kept c.args.self.now c.args.key c.in-Some.key c.args.kept.now r c.in-Some-packets.packets.now c.in-Some.is under in
    on_err_weaker c.put-in-Some-packets.result (λ stops. Stops-as _ _ _ _ _ all (Stops-after _ _ _ _ _ _ _ c.in_ok-put_all-in-Some-packets.ensures.ok stops)) c.put-in-Some-packets.ensures.err

pub returns-in_ok-put_all-in-Some-packets-clause-fits : goal.returns-in_ok-put_all-in-Some-packets-clause-fits
returns-in_ok-put_all-in-Some-packets-clause-fits g c =
    let under = sym c.packets.ensures ∙ ap (option_map (λ packets. packets.now)) c.in-Some-packets.is in
    on_ok_weaker c.put-in-Some-packets.result
    (λ one. fits_kept c.args.key c.in-Some.key c.args.kept.now (view_record c.args.found.now) c.in-Some-packets.packets.now c.in-Some.is under c.in_ok-put_all-in-Some-packets.ensures.fits one)
    c.put-in-Some-packets.ensures.fits
