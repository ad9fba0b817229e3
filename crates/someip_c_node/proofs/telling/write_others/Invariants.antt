use Rattle.std.proofs.Common.{map, take}
use Rattle.std.specs.Fmt.{HasWritten, IsPlainFormatter}
use Rattle.someip_texts.specs.Words.{spaced, word_text}
use Rattle.someip_c_node.proofs.telling.write_others.Given as goal

-- the words so far were written
abbrev pub invariant-loop-word : goal.invariant-loop-word
invariant-loop-word g l = IsPlainFormatter l.initial.f → HasWritten g.W.Write.write_str_gives l.initial.f (spaced (map word_text (take l.word-index l.words))) l.f
