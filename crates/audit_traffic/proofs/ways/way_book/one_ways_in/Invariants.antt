use Rattle.std.proofs.Common.{◌≡◌, ◌++◌}
use Rattle.std.specs.List.{flat_map}
use Rattle.someip_tables.specs.Tables.{map_of}
use Rattle.audit_traffic.specs.ways.WayKeys.{way_cmp}
use Rattle.audit_traffic.specs.ways.WayTables.{told_one_way}
use Rattle.audit_traffic.proofs.ways.way_book.one_ways_in.Given as goal

-- with those of the ways that are left the list has all
abbrev pub invariant-loop-way : goal.invariant-loop-way
invariant-loop-way l =
    l.ways.items ++ flat_map (told_one_way (map_of way_cmp l.numbers.entries)) l.way-iterator
    ≡ flat_map (told_one_way (map_of way_cmp l.numbers.entries)) l.numbers.entries
