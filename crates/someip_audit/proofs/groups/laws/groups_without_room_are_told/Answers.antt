use Rattle.someip_audit.proofs.about_groups.GroupLemmas.{without_room_same, without_room_told}
use Rattle.someip_audit.proofs.groups.laws.groups_without_room_are_told.Goals as goal

pub returns-clause-told : goal.returns-clause-told
returns-clause-told c = without_room_told

pub returns-clause-same : goal.returns-clause-same
returns-clause-same c = without_room_same
