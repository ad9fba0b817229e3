use Rattle.std.proofs.Common.{◌≡◌, ℕ, ◌<◌, ◌-◌, true}
use Rattle.someip_tables.specs.Lastings.{unexpired}
use Rattle.someip_tables.specs.Tables.{map_of}
use Rattle.someip_rpc.specs.Ids.{call_cmp}
use Rattle.someip_rpc.specs.Sessions.{session_after}
use Rattle.someip_rpc.specs.Calls.{is_pending}
use Rattle.someip_rpc.proofs.pending.first_free.Given as goal

abbrev pub invariant-loop-message : goal.invariant-loop-message
invariant-loop-message l = record {
  steps : l.session ≡ session_after l.passed l.first;
  waiting : (k : ℕ) → k < l.passed → is_pending (unexpired l.now (map_of call_cmp l.pending)) l.message (session_after k l.first) ≡ true;
}

abbrev pub decreases-loop-message : goal.decreases-loop-message
decreases-loop-message l = 1024 - l.passed
