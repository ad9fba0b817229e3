use Rattle.someip_world_rules.proofs.FitRunLemmas.{all_given_fits, copies_fit}
use Rattle.someip_world_rules.proofs.run_laws.all_that_is_given_fits.Goals as goal

pub returns-clause-given : goal.returns-clause-given
returns-clause-given c nodes configs steps fits all = all_given_fits nodes configs fits steps all

pub returns-clause-copies : goal.returns-clause-copies
returns-clause-copies c nodes configs fits are = copies_fit nodes configs are fits
