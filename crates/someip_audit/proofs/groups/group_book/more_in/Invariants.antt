use Rattle.std.proofs.Common.{◌≡◌, ◌++◌}
use Rattle.std.specs.List.{flat_map}
use Rattle.someip_audit.specs.groups.GroupTables.{told_more}
use Rattle.someip_audit.proofs.groups.group_book.more_in.Given as goal

-- with those of the groups that are left the list has all
abbrev pub invariant-loop-key : goal.invariant-loop-key
invariant-loop-key l = l.groups.items ++ flat_map told_more l.key-iterator ≡ flat_map told_more l.numbers.entries
