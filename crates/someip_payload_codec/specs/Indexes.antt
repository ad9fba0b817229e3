-- Where the members of a tagged structure stand in its shape.
use Rattle.std.specs.Prelude.{◌≡◌, ℕ, ◌+◌, ◌==◌, if◌then◌else◌, List, Option, Some, None, Result, Ok, Err}
use Rattle.std.specs.Option.{option_map}
use Rattle.std.specs.Ordering.{nat_cmp}
use Rattle.std.specs.BTreeMap as tree
use Rattle.std.specs.BTreeMap.{BTreeMap}
use Rattle.someip_payload_values.specs.declared.error.PayloadError.{PayloadError}
use Rattle.someip_payload_values.specs.declared.value.Value.{Value}
use Rattle.someip_payload_codec.specs.declared.window.Window.{Window}
use Rattle.someip_payload_values.specs.Data.{Members, no_members, member_then, Slots}
use Rattle.someip_payload_codec.specs.View.{View, seen}
use Rattle.someip_payload_values.specs.Steps.{Fails}
use Rattle.someip_payload_values.specs.View.{slots_of}

-- the index of the first member with the Data ID, if there is one
abbrev pub index_of : ℕ → Members → Option ℕ
index_of id no_members = None
index_of id (member_then n optional f ms) = if n == id then Some 0 else option_map (λ k. k + 1) (index_of id ms)

-- the map has the index of each Data ID
abbrev pub HasIndexes : Members → BTreeMap ℕ ℕ → Type 0
HasIndexes ms indexes = (id : ℕ) → tree.get nat_cmp indexes id ≡ index_of id ms

-- what was put into the slots, and what is left to read
abbrev pub Fills : List (Option Value) → Result Window PayloadError → Result (Slots × View) PayloadError → Type 0
Fills slots (Ok w) read = read ≡ Ok (slots_of slots, seen w)
Fills slots (Err e) read = Fails e read
