use Rattle.std.proofs.Common.{ap, sym, ◌∙◌, map}
use Rattle.std.proofs.lemmas.List.{drop_more}
use Rattle.someipctl_recordings.specs.WholeLimits.{number_within}
use Rattle.someipctl_show.proofs.WordLemmas.{bad_word}
use Rattle.someipctl_recordings.proofs.lists.read_numbers.Goals as goal

pub returns-in-None-clause-bad : goal.returns-in-None-clause-bad
returns-in-None-clause-bad c = λ bad.
    bad_word (number_within c.args.low c.args.high) c.loop-word.numbers.items _ _ _ _ c.loop-word.invariant (ap (map (λ w. w.now)) (drop_more c.args.words.now c.loop-word.word-index _ c.loop-word-test.true)) (sym c.number_of.ensures ∙ c.in-None.is)
