-- The text of a datagram, and whether it ends in a fault.
use Rattle.std.proofs.Common.{◌≡◌, ℕ, zero, suc, ◌+◌, ◌<◌, ◌≤◌, Bool, true, false, ◌||◌, List, [], ◌∷◌, length, get_or, drop, map, Option, Some, None, Vec, Global, Result, Ok, Err, refl, sym, subst, ap, ◌∙◌, length-append, arith}
use Rattle.std.specs.List.{flat_map, list_any}
use Rattle.std.proofs.lemmas.List.{nil_from_length}
use Rattle.someip_wire.specs.declared.WireError.{WireError}
use Rattle.someip_wire.specs.Spelling.{MessageValue, spelling}
use Rattle.someip_wire.specs.Datagram.{Datagram, items}
use Rattle.someip_wire.specs.Reading.{items_of}
use Rattle.someip_wire.proofs.DatagramLemmas.{items_from-nil}
use Rattle.someipctl_io.specs.Lines.{empty_line}
use Rattle.someipctl_io.specs.Items.{item_len}
use Rattle.someipctl_show.specs.types.Types.{TypesValue}
use Rattle.someipctl_show.specs.ShownText.{AreLines, AreTexts, IsDatagramText, IsItemText, IsValueOfItem, has_fault, shows_fault}
use Rattle.someipctl_show.specs.TextKinds.{Joined}
use Rattle.someipctl_show.proofs.KindLemmas.{IsSendingOne}

pub empty_text : (types : TypesValue) (k : ℕ) (datagram : List ℕ) → length datagram ≡ 0 → IsDatagramText types k datagram (empty_line k)
empty_text types k datagram none = subst (λ d. IsDatagramText types k d (empty_line k)) (sym (nil_from_length datagram none)) refl

pub lines_text : (types : TypesValue) (k : ℕ) (datagram : List ℕ) → 0 < length datagram → (text : List ℕ) → AreLines types k 0 (items_of datagram) text → IsDatagramText types k datagram text
lines_text types k [] lt text are = absurd (omega (arith, lt))
lines_text types k (b ∷ bytes) lt text are = are

-- where no types name messages, no item has a value
pub no_value : (types : TypesValue) (k place : ℕ) (item : Result MessageValue WireError) → types ≡ [] → IsValueOfItem types k place item []
no_value types k place item none = subst (λ t. IsValueOfItem t k place item []) (sym none) (of item)
  where
    of : (item : Result MessageValue WireError) → IsValueOfItem [] k place item []
    of (Ok m) = refl
    of (Err fault) = refl

pub has_fault-empty : (types : TypesValue) (datagram : List ℕ) → length datagram ≡ 0 → has_fault types datagram ≡ false
has_fault-empty types datagram none = ap (has_fault types) (nil_from_length datagram none) ∙ ap (list_any (shows_fault types)) (items_from-nil 0)

-- how many bytes items take
abbrev pub items_len : List (Result MessageValue WireError) → ℕ
items_len [] = 0
items_len (item ∷ given) = item_len item + items_len given

-- the items of a datagram take its bytes up to the rest that ends it
items_len-items : (messages : List MessageValue) (end : Option WireError) → items_len (items messages end) ≡ length (flat_map spelling messages)
items_len-items [] None = refl
items_len-items [] (Some fault) = refl
items_len-items (m ∷ messages) end = ap (λ n. length (spelling m) + n) (items_len-items messages end) ∙ sym (length-append (spelling m) (flat_map spelling messages))

-- so they take no more than it has
pub items_within_datagram : (datagram : List ℕ) (given : List (Result MessageValue WireError))
    → ((messages : List MessageValue) × (end : Option WireError) × Datagram messages end datagram × (given ≡ items messages end))
    → items_len given ≤ length datagram
items_within_datagram datagram given found =
    let d = found.2 in
    let own = ap items_len found.3 ∙ items_len-items found.0 found.1 in
    let whole = ap length d.parts ∙ length-append (flat_map spelling found.0) d.rest in
    omega (arith, own, whole)

-- the bytes of datagrams
abbrev pub bytes_of_each : List (Vec ℕ Global) → List (List ℕ)
bytes_of_each datagrams = map (λ d. d.items) datagrams

-- the datagram at a place, which has these bytes, and those after it
pub next_datagram : (datagrams : List (Vec ℕ Global)) (i : ℕ) (d : Vec ℕ Global) (bytes : List ℕ) → i < length datagrams → (get_or datagrams i d).items ≡ bytes
    → drop i (bytes_of_each datagrams) ≡ bytes ∷ drop (i + 1) (bytes_of_each datagrams)
next_datagram [] i d bytes lt is = absurd (omega (arith, lt))
next_datagram (x ∷ xs) zero d bytes lt is = ap (λ (t : List ℕ). t ∷ bytes_of_each xs) is
next_datagram (x ∷ xs) (suc i) d bytes lt is = let k : suc i + 1 ≡ suc (i + 1) = omega arith in rw k (next_datagram xs i d bytes (omega (arith, lt)) is)

-- there is none at a place behind them
pub no_datagram : (datagrams : List (Vec ℕ Global)) (i : ℕ) → length datagrams ≤ i → drop i (bytes_of_each datagrams) ≡ []
no_datagram [] zero le = refl
no_datagram [] (suc i) le = refl
no_datagram (x ∷ xs) zero le = absurd (omega (arith, le))
no_datagram (x ∷ xs) (suc i) le = no_datagram xs i (omega (arith, le))

-- one more, of a list of which one may hold
or_assoc : (a b c : Bool) → ((a || b) || c) ≡ (a || (b || c))
or_assoc true b c = refl
or_assoc false b c = refl

pub any_more : {X : Type 0} (p : X → Bool) (so_far : Bool) (old new : List X) (x : X) (all : Bool) → old ≡ x ∷ new → (so_far || list_any p old) ≡ all → ((so_far || p x) || list_any p new) ≡ all
any_more p so_far old new x all is h = or_assoc so_far (p x) (list_any p new) ∙ ap (λ l. so_far || list_any p l) (sym is) ∙ h

-- the same of all, where none is left
or_false : (b : Bool) → (b || false) ≡ b
or_false true = refl
or_false false = refl

pub any_end : {X : Type 0} (p : X → Bool) (so_far : Bool) (left : List X) (all : Bool) → left ≡ [] → (so_far || list_any p left) ≡ all → so_far ≡ all
any_end p so_far left all none h = sym (or_false so_far) ∙ ap (λ l. so_far || list_any p l) (sym none) ∙ h

-- what is still to send, where the next item is known
pub next_item : (types : TypesValue) (k place : ℕ) (a b : Option (List ℕ)) (held waits : List ℕ) (All : List ℕ → Type 0) (old : List (Result MessageValue WireError)) (item : Result MessageValue WireError) (new : List (Result MessageValue WireError))
    → old ≡ item ∷ new → IsSendingOne a held b waits (AreLines types k place old) All
    → IsSendingOne a held b waits (Joined (IsItemText types k place item) (AreLines types k (place + item_len item) new)) All
next_item types k place a b held waits All old item new is s = subst (λ i. IsSendingOne a held b waits (AreLines types k place i) All) is s

-- the same of datagrams
pub next_shown : (types : TypesValue) (k : ℕ) (a b : Option (List ℕ)) (held waits : List ℕ) (All : List ℕ → Type 0) (old : List (List ℕ)) (datagram : List ℕ) (new : List (List ℕ))
    → old ≡ datagram ∷ new → IsSendingOne a held b waits (AreTexts types k old) All
    → IsSendingOne a held b waits (Joined (IsDatagramText types k datagram) (AreTexts types (k + 1) new)) All
next_shown types k a b held waits All old datagram new is s = subst (λ i. IsSendingOne a held b waits (AreTexts types k i) All) is s
