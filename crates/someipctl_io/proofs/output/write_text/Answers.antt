use Rattle.std.proofs.Common.{rules}
use Rattle.std.proofs.lemmas.List.{take_rest}
use Rattle.std.proofs.Math.Seq.{take-add}
use Rattle.someipctl_io.proofs.SendingLemmas.{Appends-more}
use Rattle.someipctl_io.proofs.output.write_text.Goals as goal

pub loop-done-preserved : goal.loop-done-preserved
loop-done-preserved g c = (search rules, Appends-more _ _ _ _ _ _ c.loop-done.invariant.1 c.in-Ok.ensures.bytes (rw take_rest (take-add c.loop-done.done c.in-Ok.n c.args.text.now)))
