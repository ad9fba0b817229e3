use Rattle.std.proofs.Common.{[], ap, map, refl}
use Rattle.std.proofs.lemmas.List.{drop_all, drop_more}
use Rattle.someipctl_recordings.proofs.ListLemmas.{read_all, read_bad, read_more}
use Rattle.someipctl_recordings.proofs.lists.read_addresses.Goals as goal

pub loop-word-init : goal.loop-word-init
loop-word-init c = rw c.new-addresses.ensures.items ([], tt, refl)

pub returns-in-None-clause-bad : goal.returns-in-None-clause-bad
returns-in-None-clause-bad c = λ same.
    read_bad (map (λ w. w.now) c.args.words.now) _ _ _ c.loop-word.addresses.items c.loop-word.invariant (ap (map (λ w. w.now)) (drop_more c.args.words.now c.loop-word.word-index _ c.loop-word-test.true)) c.in-None.ensures.none

pub loop-word-preserved : goal.loop-word-preserved
loop-word-preserved c =
    rw c.in_ok-push-in-Some.ensures.items
    (read_more (map (λ w. w.now) c.args.words.now) _ _ _ c.loop-word.addresses.items c.in-Some.address c.loop-word.invariant
    (ap (map (λ w. w.now)) (drop_more c.args.words.now c.loop-word.word-index _ c.loop-word-test.true)) c.in-Some.ensures.some)

pub returns-clause-ok : goal.returns-clause-ok
returns-clause-ok c = read_all (map (λ w. w.now) c.args.words.now) _ c.loop-word.addresses.items c.loop-word.invariant (ap (map (λ w. w.now)) (drop_all c.loop-word.word-index c.args.words.now c.loop-word-test.false))
