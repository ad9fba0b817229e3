use Rattle.someipctl_stats.proofs.CountingLemmas.{after_facts-reverse}
use Rattle.someipctl_stats.proofs.laws.facts_are_counted_in_order.Goals as goal

pub returns : goal.returns
returns c = λ limits earlier facts. after_facts-reverse limits facts earlier
