use Rattle.std.proofs.Common.{◌≡◌}
use Rattle.someip_tables.specs.Tables.{map_of}
use Rattle.audit_traffic.specs.gaps.GapRules.{session_after}
use Rattle.audit_traffic.specs.gaps.GapTables.{with_missing}
use Rattle.audit_traffic.specs.gaps.MissingKeys.{missing_cmp}
use Rattle.audit_traffic.proofs.gaps.waiting.wait_for.Given as goal

-- the sessions so far wait, and the next one is at hand
abbrev pub invariant-loop : goal.invariant-loop
invariant-loop l =
    (l.session ≡ session_after l.first l.counter)
    × (map_of missing_cmp l.waiting ≡ with_missing l.flow l.first l.awaited l.counter (map_of missing_cmp l.fn.waiting))
