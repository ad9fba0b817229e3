use Rattle.std.proofs.Common.{◌≡◌, map, drop}
use Rattle.sd_wire.specs.contents.Values.{view_read}
use Rattle.audit_endpoints.specs.Learning.{learnt_of}
use Rattle.audit_endpoints.proofs.watched.Watched.learn_entries.Given as goal

-- what the entries that are left teach now is what all teach
abbrev pub invariant-loop-entry : goal.invariant-loop-entry
invariant-loop-entry l = learnt_of (map view_read (drop l.entry-index l.entries)) l.self ≡ learnt_of (map view_read l.entries) l.fn.self
