use Rattle.someip_audit.proofs.about_groups.GroupLemmas.{first_three}
use Rattle.someip_audit.proofs.groups.laws.the_first_three_are_told.Goals as goal

pub returns : goal.returns
returns c = first_three
