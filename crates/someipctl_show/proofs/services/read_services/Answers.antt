use Rattle.std.proofs.Common.{ap, sym, ◌∙◌, map}
use Rattle.std.proofs.lemmas.List.{drop_more}
use Rattle.someipctl_show.specs.Services.{service_in}
use Rattle.someipctl_show.proofs.WordLemmas.{bad_word}
use Rattle.someipctl_show.proofs.services.read_services.Goals as goal

pub returns-in-None-clause-bad : goal.returns-in-None-clause-bad
returns-in-None-clause-bad c = λ bad.
    bad_word service_in c.loop-word.services.items _ _ _ _ c.loop-word.invariant (ap (map (λ w. w.now)) (drop_more c.args.words.now c.loop-word.word-index _ c.loop-word-test.true)) (sym rw c.as_bytes.ensures.value at c.service_of.ensures ∙ c.in-None.is)
