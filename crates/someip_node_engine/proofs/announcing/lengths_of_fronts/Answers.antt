use Rattle.someip_node_engine.proofs.FrontSizeLemmas.{fronts_are_within}
use Rattle.someip_node_engine.proofs.announcing.lengths_of_fronts.Goals as goal

pub returns-in-Ok-clause-within : goal.returns-in-Ok-clause-within
returns-in-Ok-clause-within c = fronts_are_within c.args.entries.now c.in-Ok.lengths.items c.in-Ok.ensures.fronts
