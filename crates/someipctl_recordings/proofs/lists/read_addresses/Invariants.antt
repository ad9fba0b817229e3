use Rattle.std.proofs.Common.{drop, map}
use Rattle.someipctl_recordings.proofs.ListLemmas.{ReadTo}
use Rattle.someipctl_recordings.proofs.lists.read_addresses.Given as goal

abbrev pub invariant-loop-word : goal.invariant-loop-word
invariant-loop-word l = ReadTo (map (λ w. w.now) l.words) (map (λ w. w.now) (drop l.word-index l.words)) l.addresses.items
