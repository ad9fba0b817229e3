use Rattle.std.proofs.Common.{◌≡◌}
use Rattle.std.specs.List.{flat_map}
use Rattle.someipctl_recordings.specs.Wanted.{view_wanted}
use Rattle.someipctl_stats.specs.Counting.{after_facts, item_facts}
use Rattle.someipctl_stats.proofs.counting.count_messages.Given as goal

-- the items that are left now make of the figures what all make of them
abbrev pub invariant-loop-item : goal.invariant-loop-item
invariant-loop-item l =
    after_facts (flat_map (item_facts (view_wanted l.wanted) l.micros l.seen.time l.seen.origin) l.item-iterator) l.figures
    ≡ after_facts (flat_map (item_facts (view_wanted l.wanted) l.micros l.seen.time l.seen.origin) l.initial.item-iterator) l.initial.figures
