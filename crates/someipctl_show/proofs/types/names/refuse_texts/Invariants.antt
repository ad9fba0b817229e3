use Rattle.std.proofs.Common.{◌≡◌, true}
use Rattle.toml.specs.View.{members_view, table_view}
use Rattle.someipctl_show.specs.types.Names.{are_texts, first_bad}
use Rattle.someipctl_show.proofs.types.names.refuse_texts.Given as goal

-- where the rest are texts by names, all are, and the first of all that is none is that of the rest
abbrev pub invariant-loop-name : goal.invariant-loop-name
invariant-loop-name l = record {
  good : are_texts (members_view l.name-iterator) ≡ true → are_texts (table_view l.table) ≡ true;
  first : first_bad (table_view l.table) ≡ first_bad (members_view l.name-iterator);
}
