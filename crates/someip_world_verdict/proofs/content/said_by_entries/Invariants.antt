use Rattle.std.proofs.Common.{◌≡◌, ◌++◌, drop, map}
use Rattle.sd_wire.specs.contents.Values.{view_read}
use Rattle.someip_world_verdict.specs.Contents.{said_by_entries}
use Rattle.someip_world_verdict.proofs.content.said_by_entries.Given as goal

-- what was said so far, and what the entries that are left say, is what all say
abbrev pub invariant-loop-entry : goal.invariant-loop-entry
invariant-loop-entry l =
    l.said.items ++ said_by_entries l.from l.to (map view_read (drop l.entry-index l.entries)) ≡ said_by_entries l.from l.to (map view_read l.entries)
