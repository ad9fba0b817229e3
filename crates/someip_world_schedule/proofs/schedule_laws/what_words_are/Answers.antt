use Rattle.someip_world_schedule.proofs.LineLemmas.{line_joined, words_unparted, only_words}
use Rattle.someip_world_schedule.proofs.schedule_laws.what_words_are.Goals as goal

pub returns-clause-spelled : goal.returns-clause-spelled
returns-clause-spelled c = line_joined

pub returns-clause-unparted : goal.returns-clause-unparted
returns-clause-unparted c = words_unparted

pub returns-clause-only : goal.returns-clause-only
returns-clause-only c = only_words
