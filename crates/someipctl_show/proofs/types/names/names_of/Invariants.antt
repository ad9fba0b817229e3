use Rattle.std.proofs.Common.{◌≡◌, ◌++◌, ℕ, List, map, string_bytes}
use Rattle.toml.specs.View.{table_view, view}
use Rattle.someipctl_show.specs.types.Judging.{Judged}
use Rattle.someipctl_show.specs.types.References.{IsOneOf, Knows}
use Rattle.someipctl_show.specs.types.Tables.{keys_of_members}
use Rattle.someipctl_show.proofs.types.names.names_of.Given as goal

-- the first keys were judged
abbrev pub invariant-loop-name : goal.invariant-loop-name
invariant-loop-name l = record {
  judged : Judged (view l.types) l.names;
  front : List (List ℕ);
  is : keys_of_members (table_view l.table) ≡ front ++ map (λ k. string_bytes k) l.name-iterator;
  known : (n : List ℕ) → IsOneOf n front → Knows l.names.shapes n;
}
