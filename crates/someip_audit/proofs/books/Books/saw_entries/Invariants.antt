use Rattle.std.proofs.Common.{◌≡◌, map, drop}
use Rattle.sd_wire.specs.contents.Values.{view_read}
use Rattle.someip_audit.specs.SdShown.{IsFront, entries_shown, working}
use Rattle.someip_audit.proofs.books.Books.saw_entries.Given as goal

-- what the entries that are left show now is what all show, and what was told stays
abbrev pub invariant-loop-entry : goal.invariant-loop-entry
invariant-loop-entry g l =
    record {
      same :
          entries_shown l.now l.origin (map view_read (drop l.entry-index l.entries)) (working l.self l.findings.items)
          ≡ entries_shown l.now l.origin (map view_read l.entries) (working l.fn.self l.fn.findings.items);
      front : IsFront l.fn.findings.items l.findings.items;
    }
