use Rattle.std.proofs.Common.{◌≡◌, ◌++◌, Some, drop, map}
use Rattle.someipctl_recordings.specs.WholeLimits.{number_within}
use Rattle.someipctl_recordings.proofs.lists.read_numbers.Given as goal

abbrev pub invariant-loop-word : goal.invariant-loop-word
invariant-loop-word l = map (λ n. Some n) l.numbers.items ++ map (number_within l.low l.high) (map (λ w. w.now) (drop l.word-index l.words)) ≡ map (number_within l.low l.high) (map (λ w. w.now) l.words)
