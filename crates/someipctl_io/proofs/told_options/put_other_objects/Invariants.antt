use Rattle.std.proofs.Common.{drop}
use Rattle.someipctl_io.specs.JsonTexts.{other_items_text}
use Rattle.someipctl_io.specs.OptionObjects.{option_items}
use Rattle.someipctl_io.proofs.SendingLemmas.{IsSending}
use Rattle.someipctl_io.proofs.told_options.put_other_objects.Given as goal

abbrev pub invariant-loop-other : goal.invariant-loop-other
invariant-loop-other g l = IsSending (g.W.Write.contents l.initial.writer) l.initial.buffer (g.W.Write.contents l.writer) l.buffer (other_items_text (option_items (drop l.other-index l.others))) (other_items_text (option_items l.others))
