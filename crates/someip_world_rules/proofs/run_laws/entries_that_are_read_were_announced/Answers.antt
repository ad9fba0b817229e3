use Rattle.someip_world_rules.proofs.AnnouncedLemmas.{entry_read}
use Rattle.someip_world_rules.proofs.run_laws.entries_that_are_read_were_announced.Goals as goal

pub returns : goal.returns
returns c = entry_read
