use Rattle.std.proofs.Common.{drop, codes, ◌++◌}
use Rattle.std.specs.List.{flat_map}
use Rattle.someipctl_io.specs.Options.{option_text}
use Rattle.someipctl_io.proofs.SendingLemmas.{IsSending}
use Rattle.someipctl_io.proofs.options.put_others.Given as goal

abbrev pub invariant-loop-other : goal.invariant-loop-other
invariant-loop-other g l = IsSending (g.W.Write.contents l.initial.writer) l.initial.buffer (g.W.Write.contents l.writer) l.buffer (flat_map (λ other. codes ", " ++ option_text other) (drop l.other-index l.others)) (flat_map (λ other. codes ", " ++ option_text other) l.others)
