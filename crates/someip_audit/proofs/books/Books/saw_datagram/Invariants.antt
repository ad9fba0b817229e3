use Rattle.std.proofs.Common.{◌≡◌, ◌≤◌, ◌+◌, length}
use Rattle.someip_audit.specs.AnyShown.{items_shown, message_count}
use Rattle.someip_audit.specs.SdShown.{IsFront, working}
use Rattle.someip_audit.proofs.ItemLemmas.{items_len}
use Rattle.someip_audit.proofs.books.Books.saw_datagram.Given as goal

-- what the items that are left show now is what all show, and what was told stays; they lie within the datagram
abbrev pub invariant-loop-item : goal.invariant-loop-item
invariant-loop-item g l =
    record {
      same :
          items_shown l.now l.origin l.place l.item-iterator (working l.self l.findings.items)
          ≡ items_shown l.now l.origin 0 l.initial.item-iterator (working l.fn.self l.fn.findings.items);
      front : IsFront l.fn.findings.items l.findings.items;
      within : l.place + items_len l.item-iterator ≤ length l.fn.datagram;
      counted : l.count + message_count l.item-iterator ≡ message_count l.initial.item-iterator;
      few : l.count ≤ l.place;
    }
