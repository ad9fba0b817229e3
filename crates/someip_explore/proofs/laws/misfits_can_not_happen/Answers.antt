use Rattle.someip_explore.proofs.MisfitLemmas.{known_misfit, moved_misfit, unknown_misfit}
use Rattle.someip_explore.proofs.laws.misfits_can_not_happen.Goals as goal

pub returns-clause-unknown : goal.returns-clause-unknown
returns-clause-unknown c nodes index w s named = unknown_misfit nodes index w s named

pub returns-clause-known : goal.returns-clause-known
returns-clause-known c nodes index w s place h fault named here is = known_misfit nodes index w s place h fault named here is

pub returns-clause-moves : goal.returns-clause-moves
returns-clause-moves c nodes steps lines move fault s is inside = moved_misfit nodes steps lines move fault s is inside
