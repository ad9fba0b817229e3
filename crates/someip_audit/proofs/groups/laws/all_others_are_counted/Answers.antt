use Rattle.someip_audit.proofs.about_groups.GroupLemmas.{counted}
use Rattle.someip_audit.proofs.groups.laws.all_others_are_counted.Goals as goal

pub returns : goal.returns
returns c = counted
