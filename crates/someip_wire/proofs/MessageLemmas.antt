-- Bytes without a fault are the spelling of the message in them, and a spelling is read again, whatever follows it.
use Rattle.std.proofs.Common.{◌≡◌, ℕ, ◌+◌, ◌-◌, ◌^◌, ◌<◌, ◌≤◌, Bool, true, false, cond, ltb, eqb, List, [], ◌∷◌, ◌++◌, length, get_or, take, drop, Option, Some, None, Result, Ok, Err, refl, sym, ap, subst, ◌∙◌, arith, inl, inr}
use Rattle.std.specs.Prelude.{◌↔◌, slice_range, is_none, find, unwrap_or, OnOk, IfOk, IfErr, IsOkAnd}
use Rattle.std.specs.Int.{w16, w32, to_be_bytes}
use Rattle.std.proofs.lemmas.Bool.{cases_lt, le-ltb, eqb-true}
use Rattle.std.proofs.lemmas.List.{take_at, drop_more, take-append-drop, append-nil, nil_from_length, length-append, length-take, length-drop, get_or-drop, get_or-take, get_or_past}
use Rattle.std.proofs.lemmas.List.Folds.{drop_split}
use Rattle.std.proofs.lemmas.Nat.{be_bytes_2, be_bytes_4, from_be_bytes-to_be_bytes_2, from_be_bytes-to_be_bytes_4}
use Rattle.someip_wire.specs.declared.error.WireError.{WireError}
use Rattle.someip_wire.specs.declared.header.MessageType.{MessageType}
use Rattle.someip_wire.specs.declared.header.MessageType.TheVariants.{Request, RequestNoReturn, Notification, Response, Error, TpRequest, TpRequestNoReturn, TpNotification, TpResponse, TpError}
use Rattle.someip_wire.specs.declared.message.Message.{Message}
use Rattle.someip_wire.specs.View.{view}
use Rattle.someip_wire.specs.Kinds.{kind_byte, kind_of, all_kinds}
use Rattle.someip_wire.specs.Spelling.{MessageValue, Fits, Spells, BeginsWith, IsBytes, spelling}
use Rattle.someip_wire.specs.Faults.{length_field, fault_at}
use Rattle.someip_wire.specs.Reading.{field16, kind_in, message_in}

pub IsBytes-drop : (n : ℕ) (bytes : List ℕ) → IsBytes bytes → IsBytes (drop n bytes)
IsBytes-drop n bytes h i = rw get_or-drop (h (n + i))

IsBytes-take : (n : ℕ) (bytes : List ℕ) → IsBytes bytes → IsBytes (take n bytes)
IsBytes-take n bytes h i =
    elim (cases_lt i n) [
      | inl lt ↦ rw (get_or-take n bytes i 0 lt) (h i)
      | inr le ↦ rw (get_or_past (take n bytes) i 0 (omega (arith, length-take n bytes))) (omega arith)
    ]

-- ---- the types and their numbers

find_passes : {X : Type 0} (p : X → Bool) (xs : List X) (x : X) → find p xs ≡ Some x → p x ≡ true
find_passes p [] x e = absurd cc
find_passes {X} p (y ∷ ys) x e =
    let P : Bool → Type 0 = λ b. p y ≡ b → cond b (Some y) (find p ys) ≡ Some x → p x ≡ true in
    (elim (p y) as P [
      | true ↦ λ t h. let same : y ≡ x = cc in rw (← same) t
      | false ↦ λ t h. find_passes p ys x h
    ]) refl e

pub kind_byte-kind_of : (b : ℕ) (k : MessageType) → kind_of b ≡ Some k → kind_byte k ≡ b
kind_byte-kind_of b k e = eqb-true _ _ (find_passes (λ kind. eqb (kind_byte kind) b) all_kinds k e)

pub kind_byte-kind_in : (bytes : List ℕ) → is_none (kind_of (get_or bytes 14 0)) ≡ false → kind_byte (kind_in bytes) ≡ get_or bytes 14 0
kind_byte-kind_in bytes some =
    let P : Option MessageType → Type 0 = λ o. kind_of (get_or bytes 14 0) ≡ o → is_none o ≡ false → kind_byte (unwrap_or o Request) ≡ get_or bytes 14 0 in
    (elim (kind_of (get_or bytes 14 0)) as P [
      | None ↦ λ e h. absurd cc
      | Some k ↦ λ e h. kind_byte-kind_of (get_or bytes 14 0) k e
    ]) refl some

pub kind_of-kind_byte : (k : MessageType) → kind_of (kind_byte k) ≡ Some k
kind_of-kind_byte Request = refl
kind_of-kind_byte RequestNoReturn = refl
kind_of-kind_byte Notification = refl
kind_of-kind_byte Response = refl
kind_of-kind_byte Error = refl
kind_of-kind_byte TpRequest = refl
kind_of-kind_byte TpRequestNoReturn = refl
kind_of-kind_byte TpNotification = refl
kind_of-kind_byte TpResponse = refl
kind_of-kind_byte TpError = refl

-- ---- what no fault says

pub record IsWhole (bytes : List ℕ) : Type 0 where
  pub header : 16 ≤ length bytes
  pub least : 8 ≤ length_field bytes
  pub version : get_or bytes 12 0 ≡ 1
  pub kind : kind_byte (kind_in bytes) ≡ get_or bytes 14 0
  pub whole : length_field bytes + 8 ≤ length bytes

pub none_is_whole : (p : ℕ) (bytes : List ℕ) → fault_at p bytes ≡ None → IsWhole bytes
none_is_whole p bytes h = record {
  header = grind arith;
  least = grind arith;
  version = grind arith;
  kind = kind_byte-kind_in bytes (grind arith);
  whole = grind arith;
}

-- ---- each field is spelled by its bytes

IsBytes-range : (bytes : List ℕ) (i n : ℕ) → IsBytes bytes → IsBytes (take n (drop i bytes))
IsBytes-range bytes i n fits = IsBytes-take n (drop i bytes) (IsBytes-drop i bytes fits)

length-range : (bytes : List ℕ) (i n : ℕ) → i + n ≤ length bytes → length (take n (drop i bytes)) ≡ n
length-range bytes i n le = omega (arith, length-take n (drop i bytes), length-drop i bytes)

-- a number of two bytes, and what stands after them
spells2 : (bytes xs : List ℕ) (i : ℕ) → IsBytes bytes → i + 2 ≤ length bytes → xs ≡ drop (i + 2) bytes → to_be_bytes w16 (field16 bytes i) ++ xs ≡ drop i bytes
spells2 bytes xs i fits le e =
    let n : (i + 2) - i ≡ 2 = omega arith in
    let same : to_be_bytes w16 (field16 bytes i) ≡ slice_range bytes i (i + 2) = be_bytes_2 (slice_range bytes i (i + 2)) (field16 bytes i) (rw n (length-range bytes i 2 le)) (IsBytes-range bytes i _ fits) refl in
    ap (λ (t : List ℕ). to_be_bytes w16 (field16 bytes i) ++ t) e ∙ ap (λ (t : List ℕ). t ++ drop (i + 2) bytes) same ∙ sym (drop_split bytes i (i + 2) (omega arith))

-- the Length field, and what stands after it
spells4 : (bytes xs : List ℕ) (n : ℕ) → IsBytes bytes → 8 ≤ length bytes → n ≡ length_field bytes → xs ≡ drop 8 bytes → to_be_bytes w32 n ++ xs ≡ drop 4 bytes
spells4 bytes xs n fits le is e =
    let same : to_be_bytes w32 n ≡ slice_range bytes 4 8 = be_bytes_4 (slice_range bytes 4 8) n (length-range bytes 4 4 le) (IsBytes-range bytes 4 4 fits) is in
    ap (λ (t : List ℕ). to_be_bytes w32 n ++ t) e ∙ ap (λ (t : List ℕ). t ++ drop 8 bytes) same ∙ sym (drop_split bytes 4 8 (omega arith))

-- a byte, and what stands after it
spells1 : (bytes xs : List ℕ) (i b : ℕ) → i < length bytes → b ≡ get_or bytes i 0 → xs ≡ drop (i + 1) bytes → b ∷ xs ≡ drop i bytes
spells1 bytes xs i b lt is e = ap (λ t. b ∷ t) e ∙ ap (λ x. x ∷ drop (i + 1) bytes) is ∙ sym (drop_more bytes i 0 lt)

field16_fits : (bytes : List ℕ) (i : ℕ) → IsBytes bytes → field16 bytes i < 2 ^ 16
field16_fits bytes i fits = let r = IsBytes-range bytes i ((i + 2) - i) fits in omega (arith, r 0, r 1)

length_field_fits : (bytes : List ℕ) → IsBytes bytes → length_field bytes < 2 ^ 32
length_field_fits bytes fits = let r = IsBytes-range bytes 4 4 fits in omega (arith, r 0, r 1, r 2, r 3)

pub payload_length : (bytes : List ℕ) → IsWhole bytes → 8 + length (message_in bytes).payload ≡ length_field bytes
payload_length bytes w = omega (arith, length-take (length_field bytes + 8 - 16) (drop 16 bytes), length-drop 16 bytes, w.whole, w.least)

-- what is read is spelled so
pub message_spells : (bytes : List ℕ) → IsBytes bytes → IsWhole bytes
    → spelling (message_in bytes) ++ drop (length_field bytes + 8) bytes ≡ bytes
message_spells bytes fits w =
    let m = message_in bytes in
    let n = length_field bytes in
    let h = m.header in
    let len = w.header in
    let payload : m.payload ++ drop (n + 8) bytes ≡ drop 16 bytes = sym (drop_split bytes 16 (n + 8) (omega (arith, w.least))) in
    let code = spells1 bytes _ 15 h.code.0 (omega (arith, len)) refl payload in
    let kinds = spells1 bytes _ 14 (kind_byte h.kind) (omega (arith, len)) w.kind code in
    let interface = spells1 bytes _ 13 h.interface (omega (arith, len)) refl kinds in
    let version = spells1 bytes _ 12 1 (omega (arith, len)) (sym w.version) interface in
    let session = spells2 bytes _ 10 fits (omega (arith, len)) version in
    let client = spells2 bytes _ 8 fits (omega (arith, len)) session in
    let lengths = spells4 bytes _ (8 + length m.payload) fits (omega (arith, len)) (payload_length bytes w) client in
    let method = spells2 bytes _ 2 fits (omega (arith, len)) lengths in
    spells2 bytes _ 0 fits (omega (arith, len)) method

pub message_fits : (bytes : List ℕ) → IsBytes bytes → IsWhole bytes → Fits (message_in bytes)
message_fits bytes fits w = record {
  service = field16_fits bytes 0 fits;
  method = field16_fits bytes 2 fits;
  length = omega (arith, payload_length bytes w, length_field_fits bytes fits);
  client = field16_fits bytes 8 fits;
  session = field16_fits bytes 10 fits;
  interface = fits 13;
  code = fits 15;
}

-- ---- what is spelled so is read, whatever follows it

pub length_field_spelled : (m : MessageValue) (rest : List ℕ) → Fits m → length_field (spelling m ++ rest) ≡ 8 + length m.payload
length_field_spelled m rest fits = from_be_bytes-to_be_bytes_4 (8 + length m.payload) fits.length

pub length_spelled : (m : MessageValue) (rest : List ℕ) → length (spelling m ++ rest) ≡ 16 + length m.payload + length rest
length_spelled m rest = omega (arith, length-append m.payload rest)

pub fault_at_spelled : (p : ℕ) (m : MessageValue) (rest : List ℕ) → Fits m → fault_at p (spelling m ++ rest) ≡ None
fault_at_spelled p m rest fits =
    let n = length_field_spelled m rest fits in
    let len = length_spelled m rest in
    let a : ltb (length (spelling m ++ rest)) 16 ≡ false = le-ltb _ _ (omega (arith, len)) in
    let b : ltb (length_field (spelling m ++ rest)) 8 ≡ false = le-ltb _ _ (omega (arith, n)) in
    let d : kind_of (kind_byte m.header.kind) ≡ Some m.header.kind = kind_of-kind_byte m.header.kind in
    let e : ltb (length (spelling m ++ rest)) (length_field (spelling m ++ rest) + 8) ≡ false = le-ltb _ _ (omega (arith, n, len)) in
    rw (a, b, d, e) refl

pub message_in_spelled : (m : MessageValue) (rest : List ℕ) → Fits m → message_in (spelling m ++ rest) ≡ m
message_in_spelled m rest fits =
    let n = length_field_spelled m rest fits in
    let payload : take (length_field (spelling m ++ rest) + 8 - 16) (m.payload ++ rest) ≡ m.payload = take_at m.payload rest _ (omega (arith, n)) in
    rw (
      kind_of-kind_byte m.header.kind,
      from_be_bytes-to_be_bytes_2 m.header.service fits.service,
      from_be_bytes-to_be_bytes_2 m.header.method fits.method,
      from_be_bytes-to_be_bytes_2 m.header.client fits.client,
      from_be_bytes-to_be_bytes_2 m.header.session fits.session,
      payload,
    ) refl

-- ---- what bytes begin with

-- a message that the bytes begin with, and what stands after it
pub begins_with : (m : MessageValue) (n : ℕ) (bytes : List ℕ) → BeginsWith m n bytes → (bytes ≡ spelling m ++ drop n bytes) × (length (spelling m) ≡ n)
begins_with m n bytes begins =
    (sym (take-append-drop n bytes) ∙ ap (λ (t : List ℕ). t ++ drop n bytes) begins.1.1, omega (arith, ap length begins.1.1, length-take n bytes, begins.0))

-- bytes without a fault begin with the message in them
pub begins_whole : (bytes : List ℕ) → IsBytes bytes → IsWhole bytes → BeginsWith (message_in bytes) (length_field bytes + 8) bytes
begins_whole bytes fits w =
    let len : length (spelling (message_in bytes)) ≡ length_field bytes + 8 = omega (arith, payload_length bytes w) in
    let whole : take (length_field bytes + 8) bytes ≡ spelling (message_in bytes) =
    ap (take (length_field bytes + 8)) (sym (message_spells bytes fits w)) ∙ take_at (spelling (message_in bytes)) _ _ len in
    (w.whole, (message_fits bytes fits w, whole))

-- bytes that begin with a message have no fault
pub begins_none : (p : ℕ) (m : MessageValue) (n : ℕ) (bytes : List ℕ) → BeginsWith m n bytes → fault_at p bytes ≡ None
begins_none p m n bytes begins = ap (fault_at p) (begins_with m n bytes begins).0 ∙ fault_at_spelled p m (drop n bytes) begins.1.0

-- bytes after a spelling begin with it
pub begins_spelled : (m : MessageValue) (rest : List ℕ) → Fits m → BeginsWith m (length (spelling m)) (spelling m ++ rest)
begins_spelled m rest fits = (omega (arith, length-append (spelling m) rest), (fits, take_at (spelling m) rest _ refl))

-- a spelling is no proper beginning of another
pub prefix_same : (m other : MessageValue) (bytes rest : List ℕ) → Spells m bytes → Spells other (bytes ++ rest) → (rest ≡ []) × (m ≡ other)
prefix_same m other bytes rest one longer =
    let as_m : message_in (bytes ++ rest) ≡ m = ap (λ (t : List ℕ). message_in (t ++ rest)) one.1 ∙ message_in_spelled m rest one.0 in
    let as_other : message_in (bytes ++ rest) ≡ other = ap message_in (longer.1 ∙ sym (append-nil (spelling other))) ∙ message_in_spelled other [] longer.0 in
    let same : m ≡ other = sym as_m ∙ as_other in
    let lengths : length (bytes ++ rest) ≡ length bytes = ap length longer.1 ∙ ap (λ (x : MessageValue). length (spelling x)) (sym same) ∙ sym (ap length one.1) in
    (nil_from_length rest (omega (arith, lengths, length-append bytes rest)), same)

-- ---- one message

-- what reading at place 0 ensures of the end
abbrev pub EndsAfter : List ℕ → Result (Message × ℕ) WireError → Type 0
EndsAfter bytes r = IfOk r (λ x. (x.1 ≡ 0 + (length_field bytes + 8)) × (x.1 ≤ length bytes))

pub is_found : (bytes : List ℕ) (r : Result (Message × ℕ) WireError) → IsBytes bytes → OnOk r (fault_at 0 bytes ≡ None) → IfOk r (λ x. view x.0 ≡ message_in bytes) → EndsAfter bytes r
    → IfOk r (λ x. BeginsWith (view x.0) x.1 bytes)
is_found bytes (Err e) fits none message end = tt
is_found bytes (Ok x) fits none message end =
    let size : x.1 ≡ length_field bytes + 8 = omega (arith, end.0) in
    subst (λ m. BeginsWith m x.1 bytes) (sym message) (subst (λ n. BeginsWith (message_in bytes) n bytes) (sym size) (begins_whole bytes fits (none_is_whole 0 bytes none)))

pub is_only : (bytes : List ℕ) (r : Result (Message × ℕ) WireError) → IfErr r (λ e. fault_at 0 bytes ≡ Some e) → IfOk r (λ x. view x.0 ≡ message_in bytes) → EndsAfter bytes r
    → (m : MessageValue) (n : ℕ) → BeginsWith m n bytes → IsOkAnd r (λ x. (view x.0 ≡ m) × (x.1 ≡ n))
is_only bytes (Ok x) fault message end m n begins =
    let b = begins_with m n bytes begins in (
      message ∙ ap message_in b.0 ∙ message_in_spelled m (drop n bytes) begins.1.0,
      omega (arith, end.0, ap length_field b.0, length_field_spelled m (drop n bytes) begins.1.0, b.1),
    )
is_only bytes (Err e) fault message end m n begins = let none = sym fault ∙ begins_none 0 m n bytes begins in absurd cc

pub is_fault : (bytes : List ℕ) (r : Result (Message × ℕ) WireError) → IfErr r (λ e. fault_at 0 bytes ≡ Some e) → OnOk r (fault_at 0 bytes ≡ None)
    → (e : WireError) → (r ≡ Err e) ↔ (fault_at 0 bytes ≡ Some e)
is_fault bytes (Ok x) fault none e = (λ is. absurd cc, λ is. let bad = sym none ∙ is in absurd cc)
is_fault bytes (Err f) fault none e = (λ is. let same : f ≡ e = cc in fault ∙ ap (λ (x : WireError). Some x) same, λ is. let same : f ≡ e = let both = sym fault ∙ is in cc in ap (λ (x : WireError). Err x) same)
