use Rattle.someip_world_rules.proofs.Lives.{after_restart}
use Rattle.someip_world_rules.proofs.run_laws.lives_begin_with_a_restart.Goals as goal

pub returns-clause-met : goal.returns-clause-met
returns-clause-met c nodes configs steps n place item was j = after_restart nodes configs steps n place was.i j was.lives

pub returns-clause-offered : goal.returns-clause-offered
returns-clause-offered c nodes configs steps n place h instance known was j = after_restart nodes configs steps n place was.i j was.lives
