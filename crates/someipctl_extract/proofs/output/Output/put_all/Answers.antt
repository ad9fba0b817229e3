use Rattle.std.proofs.Common.{◌≡◌, ◌+◌, ◌∙◌, [], ◌∷◌, drop, sym, ap, subst}
use Rattle.std.proofs.lemmas.List.{drop_more}
use Rattle.recording.specs.Captured.{RecordValue}
use Rattle.recording.specs.View.{view_record}
use Rattle.recording_writing.proofs.FileLemmas.{bytes_grow}
use Rattle.someipctl_io.proofs.SendingLemmas.{IsSending-stop, OnErr-any}
use Rattle.someipctl_extract.specs.declared.output.Output.{Output}
use Rattle.someipctl_extract.specs.Extraction.{with_packets}
use Rattle.someipctl_extract.proofs.ExtractionLemmas.{AreFit, bytes_behind, sends_one}
use Rattle.someipctl_extract.proofs.output.Output.put_all.Goals as goal

pub returns-in_err-put-clause-err : goal.returns-in_err-put-clause-err
returns-in_err-put-clause-err g c =
    let k = view_record c.record.result in
    let others = drop (c.loop-packet.packet-index + 1) c.args.packets.now in
    let left : drop c.loop-packet.packet-index c.args.packets.now ≡ k ∷ others =
    drop_more c.args.packets.now c.loop-packet.packet-index c.packet-item.result c.loop-packet-test.true ∙ ap (λ (r : RecordValue). r ∷ others) (sym (c.record.ensures ∙ c.packet-item.is)) in
    OnErr-any c.from_residual.result
    (IsSending-stop _ _ _ _ _ _ _ _ _ c.loop-packet.invariant.0 (ap (bytes_behind c.loop-packet.self) left ∙ bytes_grow c.loop-packet.self.packets (k ∷ []) others) c.in_err-put.ensures.err)

pub loop-packet-preserved : goal.loop-packet-preserved
loop-packet-preserved g c =
    let k = view_record c.record.result in
    let others = drop (c.loop-packet.packet-index + 1) c.args.packets.now in
    let left : drop c.loop-packet.packet-index c.args.packets.now ≡ k ∷ others =
    drop_more c.args.packets.now c.loop-packet.packet-index c.packet-item.result c.loop-packet-test.true ∙ ap (λ (r : RecordValue). r ∷ others) (sym (c.record.ensures ∙ c.packet-item.is)) in (
      sends_one _ _ _ _ _ _ c.loop-packet.self c.put.new.self k (drop c.loop-packet.packet-index c.args.packets.now) others _ c.loop-packet.invariant.0 left c.in_ok-put.ensures.after c.in_ok-put.ensures.ok,
      c.loop-packet.invariant.1 ∙ ap (with_packets c.loop-packet.self) left ∙ ap (λ (o : Output). with_packets o others) (sym c.in_ok-put.ensures.after),
      (λ rest. c.loop-packet.invariant.2 (subst AreFit (sym left) (c.in_ok-put.ensures.fits, rest))),
    )
