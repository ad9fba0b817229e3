use Rattle.std.proofs.Common.{drop, map}
use Rattle.someip_texts.specs.Words.{spaced, word_text}
use Rattle.someipctl_io.proofs.SendingLemmas.{IsSending}
use Rattle.someipctl_io.proofs.words.put_words.Given as goal

abbrev pub invariant-loop-word : goal.invariant-loop-word
invariant-loop-word g l = IsSending (g.W.Write.contents l.initial.writer) l.initial.buffer (g.W.Write.contents l.writer) l.buffer (spaced (map word_text (drop l.word-index l.words))) (spaced (map word_text l.words))
