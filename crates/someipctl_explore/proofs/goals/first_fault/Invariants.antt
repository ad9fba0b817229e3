use Rattle.std.proofs.Common.{◌≡◌, drop, map}
use Rattle.someip_explore.specs.GoalViews.{words_of}
use Rattle.someipctl_explore.specs.GoalTexts.{first_fault}
use Rattle.someipctl_explore.proofs.goals.first_fault.Given as goal

-- those that are left decide
abbrev pub invariant-loop-words : goal.invariant-loop-words
invariant-loop-words l = first_fault l.nodes (map words_of (drop l.words-index l.all)) ≡ first_fault l.nodes (map words_of l.all)
