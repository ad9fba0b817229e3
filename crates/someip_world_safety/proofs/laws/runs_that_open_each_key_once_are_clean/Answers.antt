use Rattle.someip_world_safety.proofs.runs.CleanLemmas.{opens_once_is_clean}
use Rattle.someip_world_safety.proofs.laws.runs_that_open_each_key_once_are_clean.Goals as goal

pub returns : goal.returns
returns c nodes configs steps fits own off_group offers once short n i before = opens_once_is_clean nodes configs steps fits own off_group offers short once i
