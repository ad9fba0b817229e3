use Rattle.std.proofs.Common.{◌≡◌, option_map}
use Rattle.std.specs.List.{list_any}
use Rattle.someipctl_recordings.specs.Wanted.{asks_message}
use Rattle.someipctl_recordings.proofs.wanted.names_message.Given as goal

-- none so far
abbrev pub invariant-loop-item : goal.invariant-loop-item
invariant-loop-item l =
    list_any (asks_message (option_map (λ s. s.now) l.services) l.client) l.item-iterator
    ≡ list_any (asks_message (option_map (λ s. s.now) l.services) l.client) l.initial.item-iterator
