use Rattle.std.proofs.Common.{ap, sym, ◌∙◌}
use Rattle.std.proofs.lemmas.Result.{on_ok_weaker, on_err_weaker}
use Rattle.recording.specs.declared.number.ByteOrder.TheVariants.{Little}
use Rattle.recording.specs.Spelling.{block_bytes}
use Rattle.recording.specs.View.{view_record}
use Rattle.someipctl_io.proofs.SendingLemmas.{Sends-as, Stops-as}
use Rattle.recording_writing.proofs.BlockLemmas.{block_simple, block_enhanced}
use Rattle.recording_writing.proofs.writer.put_block.Goals as goal

pub returns-then-is_simple-clause-ok : goal.returns-then-is_simple-clause-ok
returns-then-is_simple-clause-ok g c =
    on_ok_weaker c.put_simple.result (Sends-as _ _ _ _ _ _ (ap (block_bytes Little) (sym (block_simple c.args.number (view_record c.args.packet.now) (sym c.is_simple.ensures ∙ c.if-is_simple.true))))) c.put_simple.ensures.ok

pub returns-then-is_simple-clause-err : goal.returns-then-is_simple-clause-err
returns-then-is_simple-clause-err g c =
    on_err_weaker c.put_simple.result (Stops-as _ _ _ _ _ (ap (block_bytes Little) (sym (block_simple c.args.number (view_record c.args.packet.now) (sym c.is_simple.ensures ∙ c.if-is_simple.true))))) c.put_simple.ensures.err

pub returns-else-is_simple-clause-ok : goal.returns-else-is_simple-clause-ok
returns-else-is_simple-clause-ok g c =
    on_ok_weaker c.put_enhanced.result (Sends-as _ _ _ _ _ _ (ap (block_bytes Little) (sym (block_enhanced c.args.number (view_record c.args.packet.now) (sym c.is_simple.ensures ∙ c.if-is_simple.false))))) c.put_enhanced.ensures.ok

pub returns-else-is_simple-clause-err : goal.returns-else-is_simple-clause-err
returns-else-is_simple-clause-err g c =
    on_err_weaker c.put_enhanced.result (Stops-as _ _ _ _ _ (ap (block_bytes Little) (sym (block_enhanced c.args.number (view_record c.args.packet.now) (sym c.is_simple.ensures ∙ c.if-is_simple.false))))) c.put_enhanced.ensures.err
