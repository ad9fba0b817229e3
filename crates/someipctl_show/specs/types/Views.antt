-- What the program's tables and keys stand for.
use Rattle.std.specs.Prelude.{ℕ, ◌≡◌, List, map, string_bytes}
use Rattle.std.specs.Option.{option_map}
use Rattle.std.specs.declared.cmp.Ordering.{Ordering}
use Rattle.std.specs.Ordering.{nat_cmp, ordering_then, eq_by_cmp}
use Rattle.std.specs.List.{position_from}
use Rattle.std.specs.BTreeMap as tree
use Rattle.std.specs.BTreeMap.{BTreeMap}
use Rattle.someip_wire.specs.declared.header.MessageType.{MessageType}
use Rattle.someip_wire.specs.declared.header.Header.{Header}
use Rattle.someip_wire.specs.Kinds.{kind_byte}
use Rattle.someip_payload_values.specs.View.{form}
use Rattle.someipctl_show.specs.types.Types.{TypedMessageValue, TypesValue}
use Rattle.someipctl_show.specs.declared.types.message_key.MessageKey.{MessageKey}
use Rattle.someipctl_show.specs.declared.types.typed_message.TypedMessage.{TypedMessage}

abbrev pub typed_view : TypedMessage → TypedMessageValue
typed_view t = record { service = t.service; method = t.method; kind = t.kind; form = form t.shape; name = option_map string_bytes t.name }

abbrev pub types_view : List TypedMessage → TypesValue
types_view ts = map typed_view ts

-- ---- keys

-- the key of a service, a method or event, and a type
abbrev pub key_by : ℕ → ℕ → MessageType → MessageKey
key_by service method kind = record { service = service; method = method; kind = kind_byte kind }

abbrev pub key_of : TypedMessage → MessageKey
key_of t = key_by t.service t.method t.kind

abbrev pub header_key : Header → MessageKey
header_key h = key_by h.service h.method h.kind

-- by service, then by method, and then by type
abbrev pub key_cmp : MessageKey → MessageKey → Ordering
key_cmp a b = ordering_then (nat_cmp a.service b.service) (ordering_then (nat_cmp a.method b.method) (nat_cmp a.kind b.kind))

-- a map has the index of the first table with each key
abbrev pub IsIndex : BTreeMap MessageKey ℕ → List TypedMessage → Type 0
IsIndex places ts = (key : MessageKey) → tree.get key_cmp places key ≡ position_from (λ t. eq_by_cmp key_cmp key (key_of t)) 0 ts
