-- What every types file that was read keeps.
use Rattle.std.specs.Prelude.{ℕ, ◌≡◌, ◌==◌, Bool, true, false, ◌&&◌, ◌||◌, nat_le, List, [], ◌∷◌, length, Option, Some, None, Ok}
use Rattle.std.specs.List.{All, list_any, list_all}
use Rattle.someip_wire.specs.Kinds.{kind_byte, has_tp_flag}
use Rattle.someip_payload_values.specs.Check.{checked}
use Rattle.someipctl_show.specs.types.Types.{TypedMessageValue, TypesValue}

-- ---- clashes

-- two tables name the same messages
abbrev pub same_messages : TypedMessageValue → TypedMessageValue → Bool
same_messages a b = (a.service == b.service) && ((a.method == b.method) && (kind_byte a.kind == kind_byte b.kind))

-- a table names the same messages as a later one
abbrev pub has_clash : TypesValue → Bool
has_clash [] = false
has_clash (t ∷ ts) = list_any (same_messages t) ts || has_clash ts

-- ---- names

-- one of hex 21 to 7e
abbrev pub is_visible : ℕ → Bool
is_visible b = nat_le 0x21 b && nat_le b 0x7e

-- a text is a name: it has 1 to 64 visible bytes
abbrev pub is_label : List ℕ → Bool
is_label text = (nat_le 1 (length text) && nat_le (length text) 64) && list_all is_visible text

abbrev pub has_label : Option (List ℕ) → Bool
has_label None = true
has_label (Some name) = is_label name

-- ---- types

-- a table's type has no TP flag, payloads can have its form, and its name is one
pub record IsGoodTable (t : TypedMessageValue) : Type 0 where
  pub kind : has_tp_flag t.kind ≡ false
  pub form : checked t.form ≡ Ok tt
  pub name : has_label t.name ≡ true

-- each table is good, and no two name the same messages
pub record IsGoodTypes (types : TypesValue) : Type 0 where
  pub tables : All IsGoodTable types
  pub apart : has_clash types ≡ false
