use Rattle.std.proofs.Common.{◌≡◌, map, string_bytes, take}
use Rattle.someipctl_explore.specs.GoalTexts.{texts_at}
use Rattle.someipctl_explore.proofs.goals.words_of.Given as goal

-- the words so far were taken
abbrev pub invariant-loop-part : goal.invariant-loop-part
invariant-loop-part l = map string_bytes l.words.items ≡ texts_at (take l.part-index l.part-items)
