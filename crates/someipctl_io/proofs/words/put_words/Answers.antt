use Rattle.std.proofs.Common.{ap, map}
use Rattle.std.proofs.lemmas.List.{drop_more}
use Rattle.someip_texts.specs.Words.{spaced, word_text}
use Rattle.someipctl_io.proofs.SendingLemmas.{OnErr-any, IsSending-more, IsSending-stop}
use Rattle.someipctl_io.proofs.words.put_words.Goals as goal

pub returns-in_err-put_word-clause-err : goal.returns-in_err-put_word-clause-err
returns-in_err-put_word-clause-err g c =
    OnErr-any c.from_residual.result
    (IsSending-stop _ _ _ _ _ _ _ _ _ c.loop-word.invariant (ap (λ ws. spaced (map word_text ws)) (drop_more c.args.words.now c.loop-word.word-index _ c.loop-word-test.true)) c.in_err-put_word.ensures.err)

pub loop-word-preserved : goal.loop-word-preserved
loop-word-preserved g c =
    IsSending-more _ _ _ _ _ _ _ _ _ _ c.loop-word.invariant (ap (λ ws. spaced (map word_text ws)) (drop_more c.args.words.now c.loop-word.word-index _ c.loop-word-test.true)) c.in_ok-put_word.ensures.ok
