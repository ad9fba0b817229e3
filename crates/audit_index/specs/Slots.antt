-- Keys at their places.
use Rattle.std.specs.Prelude.{Bool, List, [], ◌∷◌, ◌++◌, if◌then◌else◌, Some}
use Rattle.std.specs.List.{list_any}
use Rattle.std.specs.Option.{option_cmp, option_to_list}
use Rattle.std.specs.declared.cmp.Ordering.{Ordering}
use Rattle.std.specs.Ordering.{ordering_then, eq_by_cmp}
use Rattle.audit_index.specs.declared.slot.Slot.{Slot}

-- by place, and then by key, with the beginning of the place before each
abbrev pub slot_cmp : {P K : Type 0} → (P → P → Ordering) → (K → K → Ordering) → Slot P K → Slot P K → Ordering
slot_cmp Q R a b = ordering_then (Q a.place b.place) (option_cmp R a.key b.key)

-- a key at a place is the other at the other
abbrev pub is_same_slot : {P K : Type 0} → (P → P → Ordering) → (K → K → Ordering) → P → K → P → K → Bool
is_same_slot Q R place key other at = eq_by_cmp (slot_cmp Q R) (record { place = place; key = Some key }) (record { place = other; key = Some at })

-- a key is at a place
abbrev pub stands : {P K : Type 0} → (P → P → Ordering) → (K → K → Ordering) → List (Slot P K) → P → K → Bool
stands Q R slots place key = list_any (eq_by_cmp (slot_cmp Q R) (record { place = place; key = Some key })) slots

-- the keys at a place, in order
abbrev pub keys_at : {P K : Type 0} → (P → P → Ordering) → P → List (Slot P K) → List K
keys_at Q place [] = []
keys_at Q place (slot ∷ slots) = (if eq_by_cmp Q slot.place place then option_to_list slot.key else []) ++ keys_at Q place slots
