use Rattle.std.proofs.Common.{length}
use Rattle.someip_tables.specs.Tables.{map_of}
use Rattle.audit_sd.specs.sessions.OtherPairs.{IsLess}
use Rattle.audit_sd.specs.sessions.SessionBooks.{pair_cmp}
use Rattle.audit_sd.proofs.sessions.others.forget_after.Given as goal

-- what is left lacks at most what the sender sent to other destinations
abbrev pub invariant-loop-pair : goal.invariant-loop-pair
invariant-loop-pair l = IsLess l.fn.sender l.fn.destination (map_of pair_cmp l.fn.last.entries) (map_of pair_cmp l.last.entries)

-- each turn uses up a pair
abbrev pub decreases-loop-pair : goal.decreases-loop-pair
decreases-loop-pair l = length l.last.entries
