use Rattle.std.proofs.Common.{ap, map}
use Rattle.std.proofs.Output.{has_written_of_eq}
use Rattle.std.proofs.lemmas.List.{take_all}
use Rattle.someip_texts.specs.Words.{spaced, word_text}
use Rattle.someip_c_node.proofs.telling.write_others.Goals as goal

pub returns : goal.returns
returns g c p done =
    has_written_of_eq _ _ _ _ _ (ap (λ ws. spaced (map word_text ws)) (take_all c.loop-word.word-index c.args.words.now c.loop-word-test.false)) (c.loop-word.invariant p)
