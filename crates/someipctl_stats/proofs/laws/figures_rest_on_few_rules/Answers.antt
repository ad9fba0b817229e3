use Rattle.std.proofs.Common.{refl}
use Rattle.someipctl_stats.proofs.SameTextLemmas.{accounts_alike}
use Rattle.someipctl_stats.proofs.laws.figures_rest_on_few_rules.Goals as goal

pub returns-clause-rest : goal.returns-clause-rest
returns-clause-rest c = λ asked rules arrivals text other agree x y. accounts_alike asked rules arrivals text other agree x y

pub returns-clause-of_sessions : goal.returns-clause-of_sessions
returns-clause-of_sessions c = λ rules. record { limits = refl; overtaking = refl; counting = refl; segments = refl }
