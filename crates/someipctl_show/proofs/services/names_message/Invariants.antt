use Rattle.std.proofs.Common.{◌≡◌}
use Rattle.std.specs.List.{list_any}
use Rattle.someipctl_show.specs.Services.{asks_item}
use Rattle.someipctl_show.proofs.services.names_message.Given as goal

-- none so far
abbrev pub invariant-loop-item : goal.invariant-loop-item
invariant-loop-item l = list_any (asks_item l.services) l.item-iterator ≡ list_any (asks_item l.services) l.initial.item-iterator
