use Rattle.std.proofs.Common.{◌≡◌, map, drop}
use Rattle.sd_wire.specs.contents.Values.{view_read}
use Rattle.someip_services.specs.Services.{entries_taken}
use Rattle.someip_services.proofs.history.ServiceHistory.take_entries.Given as goal

-- what the entries that are left change now is what all change
abbrev pub invariant-loop-entry : goal.invariant-loop-entry
invariant-loop-entry l = entries_taken l.now l.origin (map view_read (drop l.entry-index l.entries)) l.self ≡ entries_taken l.now l.origin (map view_read l.entries) l.fn.self
