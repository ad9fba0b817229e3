use Rattle.std.proofs.Common.{◌≡◌, false, sym, ◌∙◌}
use Rattle.recording.specs.View.{view_record}
use Rattle.recording_writing.specs.Blocks.{number_of, is_too_long}
use Rattle.someipctl_io.proofs.SendingLemmas.{OnErr-any, Sends-as, Sends-trans, Stops-as, Stops-after, Stops-before}
use Rattle.recording_writing.proofs.WritingLemmas.{number_fits, written_bytes}
use Rattle.recording_writing.proofs.writer.PacketWriter.put.Goals as goal

pub returns-in_err-describe-clause-err : goal.returns-in_err-describe-clause-err
returns-in_err-describe-clause-err g c =
    let number : c.number_of-number.result ≡ number_of c.args.self.now c.args.packet.now.link = cc (c.number_of-number.ensures, c.deref.ensures.value, c.self.view_is) in
    let short : is_too_long c.number_of-number.result (view_record c.args.packet.now) ≡ false = sym c.is_too_long.ensures ∙ c.if-is_too_long.false in
    OnErr-any c.from_residual.result (Stops-as _ _ _ _ _ (written_bytes c.args.self.now (view_record c.args.packet.now) _ number short) (Stops-before _ _ _ _ _ c.in_err-describe.ensures.err))

pub put_block-requires-clause-few : goal.put_block-requires-clause-few
put_block-requires-clause-few g c =
    number_fits c.self.inside.links.items c.args.packet.now.link _ c.self.invariant (cc (c.number_of-number.ensures, c.deref.ensures.value))

pub returns-in_err-put_block-clause-err : goal.returns-in_err-put_block-clause-err
returns-in_err-put_block-clause-err g c =
    let number : c.number_of-number.result ≡ number_of c.args.self.now c.args.packet.now.link = cc (c.number_of-number.ensures, c.deref.ensures.value, c.self.view_is) in
    let short : is_too_long c.number_of-number.result (view_record c.args.packet.now) ≡ false = sym c.is_too_long.ensures ∙ c.if-is_too_long.false in
    OnErr-any c.from_residual-in_err-put_block.result
    (Stops-as _ _ _ _ _ (written_bytes c.args.self.now (view_record c.args.packet.now) _ number short) (Stops-after _ _ _ _ _ _ _ c.in_ok-describe.ensures.ok c.in_err-put_block.ensures.err))

pub returns-clause-ok : goal.returns-clause-ok
returns-clause-ok g c =
    let number : c.number_of-number.result ≡ number_of c.args.self.now c.args.packet.now.link = cc (c.number_of-number.ensures, c.deref.ensures.value, c.self.view_is) in
    let short : is_too_long c.number_of-number.result (view_record c.args.packet.now) ≡ false = sym c.is_too_long.ensures ∙ c.if-is_too_long.false in
    Sends-as _ _ _ _ _ _ (written_bytes c.args.self.now (view_record c.args.packet.now) _ number short)
    (Sends-trans _ _ _ _ _ _ _ _ c.in_ok-describe.ensures.ok c.in_ok-put_block.ensures.ok)
