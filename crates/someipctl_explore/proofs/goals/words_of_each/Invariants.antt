use Rattle.std.proofs.Common.{◌≡◌, map, take}
use Rattle.someip_world_schedule.specs.Steps.{words_in}
use Rattle.someip_explore.specs.GoalViews.{words_of}
use Rattle.someipctl_explore.specs.GoalTexts.{texts_at}
use Rattle.someipctl_explore.proofs.goals.words_of_each.Given as goal

-- the words of the texts so far were taken
abbrev pub invariant-loop-text : goal.invariant-loop-text
invariant-loop-text l = map words_of l.all.items ≡ map words_in (texts_at (take l.text-index l.texts))
