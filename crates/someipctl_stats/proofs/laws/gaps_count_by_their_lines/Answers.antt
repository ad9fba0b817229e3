use Rattle.std.proofs.Common.{[], ◌∷◌, refl}
use Rattle.audit_stats.specs.Stats.{BeganAgain, Lost}
use Rattle.someipctl_stats.proofs.ChosenLemmas.{no_event_counts}
use Rattle.someipctl_stats.proofs.laws.gaps_count_by_their_lines.Goals as goal

pub returns-clause-as_one : goal.returns-clause-as_one
returns-clause-as_one c = λ lost. refl

pub returns-clause-at_the_deadline : goal.returns-clause-at_the_deadline
returns-clause-at_the_deadline c = λ lost. refl

pub returns-clause-of_no_client : goal.returns-clause-of_no_client
returns-clause-of_no_client c = λ w client number time origin flow is. no_event_counts w client time origin flow.service flow.method (Lost flow number ∷ []) is

pub returns-clause-no_reboot : goal.returns-clause-no_reboot
returns-clause-no_reboot c = λ w client time origin way is. no_event_counts w client time origin 0xffff 0x8100 (BeganAgain way ∷ []) is
