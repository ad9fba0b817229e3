-- The items of a datagram, and where they lie.
use Rattle.std.proofs.Common.{◌≡◌, ℕ, ◌+◌, ◌≤◌, List, [], ◌∷◌, length, Option, None, Some, refl, ap, sym, ◌∙◌, arith, length-append}
use Rattle.std.specs.Prelude.{Result, Ok, Err}
use Rattle.std.specs.List.{flat_map}
use Rattle.someip_wire.specs.declared.error.WireError.{WireError}
use Rattle.someip_wire.specs.Spelling.{MessageValue, spelling}
use Rattle.someip_wire.specs.Datagram.{Datagram, items}
use Rattle.sd_wire.specs.declared.error.SdError.{SdError}
use Rattle.sd_wire.specs.decoding.Faults.{fault_place}
use Rattle.sd_wire.specs.decoding.Program.{reading}
use Rattle.sd_wire.proofs.decoding.PlaceLemmas.{fault_within}
use Rattle.someip_audit.specs.AnyShown.{item_count, item_len}

-- how many bytes items take
abbrev pub items_len : List (Result MessageValue WireError) → ℕ
items_len [] = 0
items_len (item ∷ given) = item_len item + items_len given

-- the items of a datagram take its bytes up to the rest that ends it
items_len-items : (messages : List MessageValue) (end : Option WireError) → items_len (items messages end) ≡ length (flat_map spelling messages)
items_len-items [] None = refl
items_len-items [] (Some fault) = refl
items_len-items (m ∷ messages) end = ap (λ n. length (spelling m) + n) (items_len-items messages end) ∙ sym (length-append (spelling m) (flat_map spelling messages))

-- so they take no more than it has
pub items_within_datagram : (datagram : List ℕ) (given : List (Result MessageValue WireError))
    → ((messages : List MessageValue) × (end : Option WireError) × Datagram messages end datagram × (given ≡ items messages end))
    → items_len given ≤ length datagram
items_within_datagram datagram given found =
    let d = found.2 in
    let own = ap items_len found.3 ∙ items_len-items found.0 found.1 in
    let whole = ap length d.parts ∙ length-append (flat_map spelling found.0) d.rest in
    omega (arith, own, whole)

-- a message has at least 16 bytes, so one at least
pub count_fits : (item : Result MessageValue WireError) → item_count item ≤ item_len item
count_fits (Ok message) = omega arith
count_fits (Err fault) = omega arith

-- a fault of a payload lies in its datagram
pub fault_fits : (place top : ℕ) (payload : List ℕ) (fault : SdError) → reading payload ≡ Err fault → place + length payload ≤ top → place + fault_place fault ≤ top
fault_fits place top payload fault is room = omega (arith, room, fault_within payload fault is)
