use Rattle.someipctl_stats.specs.StatsAccount.{stats_begun}
use Rattle.someipctl_stats.proofs.OneTextLemmas.{account_one}
use Rattle.someipctl_stats.proofs.laws.a_recording_has_one_text.Goals as goal

pub returns : goal.returns
returns c = λ asked arrivals text other x y. account_one (stats_begun asked) arrivals text other x y
