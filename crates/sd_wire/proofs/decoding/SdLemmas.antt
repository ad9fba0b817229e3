-- What the plain program reads of bytes is what they hold, and no bytes hold anything else.
use Rattle.std.proofs.Common.{◌≡◌, ℕ, zero, suc, ◌+◌, ◌-◌, ◌*◌, ◌/◌, ◌%◌, ◌^◌, ◌<◌, ◌≤◌, Bool, true, false, cond, ltb, List, [], ◌∷◌, ◌++◌, length, get_or, drop, Option, Some, None, Result, Ok, Err, refl, sym, ap, subst, ◌∙◌, arith}
use Rattle.std.proofs.lemmas.Bool.{le-ltb}
use Rattle.std.proofs.lemmas.List.{take_at, drop_at, drop-drop, length-append, length-drop, nil_from_length}
use Rattle.std.proofs.lemmas.List.Folds.{drop_split}
use Rattle.std.proofs.lemmas.Nat.{from_be_bytes-to_be_bytes_4}
use Rattle.sd_wire.specs.declared.error.SdError.{SdError}
use Rattle.sd_wire.specs.declared.option.SdOption.{SdOption}
use Rattle.sd_wire.specs.declared.entry.EntryHead.{EntryHead}
use Rattle.sd_wire.specs.layout.Fields.{IsBytes, number32}
use Rattle.sd_wire.specs.contents.Values.{EntryValue, ReadValue, good, bad_run, SdValue}
use Rattle.sd_wire.specs.layout.Spelling.{Runs, entry_bytes, option_bytes, sd_bytes}
use Rattle.sd_wire.specs.decoding.Reading.{Spelled, SpellsOption, SpellsHead, has_bad_run, selected, SpellsEntry, Sd}
use Rattle.sd_wire.specs.layout.Layout.{entries_len, options_place, options_len, options_end, entries_in, options_in}
use Rattle.sd_wire.specs.decoding.Faults.{header_fault, is_entry_type, option_size}
use Rattle.sd_wire.specs.decoding.Program.{type_fault, runs_in, head_in, entry_of, entry_in, entry_list, option_in, and_then, options_from, value_in, value_by, unless, reading}
use Rattle.sd_wire.proofs.spelled.FieldLemmas.{IsBytes-drop, IsBytes-range, length-slice, spells1, spells4, field32_fits}
use Rattle.sd_wire.proofs.decoding.OptionLemmas.{has_option, options_from-nil, options_from-none, options_from-some}
use Rattle.sd_wire.proofs.spelled.OptionSpelling.{is_front}
use Rattle.sd_wire.proofs.spelled.OptionRead.{option_read}
use Rattle.sd_wire.proofs.spelled.EntrySpelling.{is_entry, runs_in-fit, entry_read}

abbrev Pool : Type 0
Pool = List SdOption

-- ---- the options

-- what is read of a first option and the others
options_parts : (o : SdOption) (read : Result Pool SdError) (pool : Pool) → and_then (o ∷ []) read ≡ Ok pool → (others : Pool) × (read ≡ Ok others) × (pool ≡ o ∷ others)
options_parts o (Ok others) pool is = let same : pool ≡ o ∷ others = cc in (others, refl, same)
options_parts o (Err e) pool is = absurd cc

spelled_within : (k p : ℕ) (bytes : List ℕ) (pool : Pool) → length bytes ≤ k → IsBytes bytes → options_from p bytes ≡ Ok pool → Spelled SpellsOption pool bytes
spelled_within k p [] pool le fits is =
    let nothing : Result Pool SdError = Ok [] in
    let none : nothing ≡ Ok pool = sym (options_from-nil p [] refl) ∙ is in
    let empty : [] ≡ pool = cc in
    subst (λ (t : Pool). Spelled SpellsOption t []) empty refl
spelled_within zero p (b ∷ bytes) pool le fits is = absurd (omega (arith, le))
spelled_within (suc k) p (b ∷ bytes) pool le fits is =
    let P : Option ℕ → Type 0 = λ o. option_size (b ∷ bytes) ≡ o → Spelled SpellsOption pool (b ∷ bytes) in
    (elim (option_size (b ∷ bytes)) as P [
      | None ↦ λ e. let bad = sym (options_from-none p (b ∷ bytes) (omega arith) e) ∙ is in absurd cc
      | Some n ↦ λ e.
          let has = has_option (b ∷ bytes) n e in
          let front = is_front n (b ∷ bytes) fits has in
          let parts = options_parts _ (options_from (p + n) (drop n (b ∷ bytes))) pool (sym (options_from-some p n (b ∷ bytes) e) ∙ is) in
          let shorter : length (drop n (b ∷ bytes)) ≤ k = omega (arith, length-drop n (b ∷ bytes), has.size, le) in
          let others = spelled_within k (p + n) (drop n (b ∷ bytes)) parts.0 shorter (IsBytes-drop n (b ∷ bytes) fits) parts.1 in
          let first = option_bytes front.reserved1 front.reserved2 (option_in (b ∷ bytes)) in
          let spells : SpellsOption (option_in (b ∷ bytes)) first = record { reserved1 = front.reserved1; reserved2 = front.reserved2; is = refl; fits = front.fits } in
          subst (λ (t : Pool). Spelled SpellsOption t (b ∷ bytes)) (sym parts.2) (first, drop n (b ∷ bytes), sym front.is, spells, others)
    ]) refl

-- the options that are read are spelled by the bytes
pub options_spelled : (p : ℕ) (bytes : List ℕ) (pool : Pool) → IsBytes bytes → options_from p bytes ≡ Ok pool → Spelled SpellsOption pool bytes
options_spelled p bytes pool fits is = spelled_within (length bytes) p bytes pool (omega arith) fits is

-- options that are spelled are read
pub options_read : (p : ℕ) (pool : Pool) (bytes : List ℕ) → Spelled SpellsOption pool bytes → options_from p bytes ≡ Ok pool
options_read p [] bytes h = options_from-nil p bytes (ap length h)
options_read p (o ∷ pool) bytes h =
    let n = length h.0 in
    let one = option_read o h.0 h.1 h.3 in
    let behind : drop n (h.0 ++ h.1) ≡ h.1 = drop_at h.0 h.1 n refl in
    ap (options_from p) h.2
    ∙ options_from-some p n (h.0 ++ h.1) one.size
    ∙ ap (λ (x : SdOption). and_then (x ∷ []) (options_from (p + n) (drop n (h.0 ++ h.1)))) one.is
    ∙ ap (λ (t : List ℕ). and_then (o ∷ []) (options_from (p + n) t)) behind
    ∙ ap (and_then (o ∷ [])) (options_read (p + n) pool h.1 h.4)

-- ---- the entries

entry_spells : (pool : Pool) (runs : Runs) (head : EntryHead) (first : List ℕ) → SpellsHead head runs first → SpellsEntry pool (entry_of pool runs head) first
entry_spells pool runs head first s =
    let good_entry : EntryValue = record { head = head; first = selected pool runs.index1 runs.count1; second = selected pool runs.index2 runs.count2 } in
    let P : Bool → Type 0 = λ b. has_bad_run pool runs ≡ b → SpellsEntry pool (cond b (bad_run head) (good good_entry)) first in
    (elim (has_bad_run pool runs) as P [
      | true ↦ λ e. (runs, s, e)
      | false ↦ λ e. (runs, s, e, refl, refl)
    ]) refl

-- the entries that are read are spelled by the bytes
pub entries_spelled : (n p : ℕ) (pool : Pool) (bytes : List ℕ) → IsBytes bytes → length bytes ≡ 16 * n → type_fault n p bytes ≡ None → Spelled (SpellsEntry pool) (entry_list n pool bytes) bytes
entries_spelled zero p pool bytes fits len none = nil_from_length bytes len
entries_spelled (suc n) p pool bytes fits len none =
    let le : 16 ≤ length bytes = omega (arith, len) in
    let others : List ℕ = drop 16 bytes in
    let shorter : length others ≡ 16 * n = omega (arith, length-drop 16 bytes, len) in
    let P : Bool → Type 0 = λ b. is_entry_type (get_or bytes 0 0) ≡ b → Spelled (SpellsEntry pool) (entry_list (suc n) pool bytes) bytes in
    (elim (is_entry_type (get_or bytes 0 0)) as P [
      | false ↦ λ e. let bad = rw e at none in absurd cc
      | true ↦ λ e.
          let it = is_entry bytes fits le e in
          let first = entry_bytes it.reserved (runs_in bytes) (head_in bytes) in
          let spells : SpellsHead (head_in bytes) (runs_in bytes) first = record { reserved = it.reserved; is = refl; fits = it.fits; runs_fit = runs_in-fit bytes fits le; reserved_fits = it.reserved_fits } in
          (first, others, sym it.is, entry_spells pool (runs_in bytes) (head_in bytes) first spells, entries_spelled n (p + 16) pool others (IsBytes-drop 16 bytes fits) shorter (rw e at none))
    ]) refl

-- the runs and the head that an entry is spelled with
entry_back : (pool : Pool) (e : ReadValue) (first : List ℕ) → SpellsEntry pool e first → (head : EntryHead) × (runs : Runs) × SpellsHead head runs first × (entry_of pool runs head ≡ e)
entry_back pool (good e) first s = (e.head, s.0, s.1, rw s.2 (ap good (λ i. record { head = e.head; first = sym s.3 i; second = sym s.4 i })))
entry_back pool (bad_run head) first s = (head, s.0, s.1, rw s.2 refl)

-- entries that are spelled are read
pub record AreRead (p : ℕ) (pool : Pool) (entries : List ReadValue) (bytes : List ℕ) : Type 0 where
  pub len : length bytes ≡ 16 * length entries
  pub types : type_fault (length entries) p bytes ≡ None
  pub list : entry_list (length entries) pool bytes ≡ entries

pub entries_read : (p : ℕ) (pool : Pool) (entries : List ReadValue) (bytes : List ℕ) → Spelled (SpellsEntry pool) entries bytes → AreRead p pool entries bytes
entries_read p pool [] bytes h = record { len = ap length h; types = refl; list = refl }
entries_read p pool (e ∷ entries) bytes h =
    let back = entry_back pool e h.0 h.3 in
    let one = entry_read back.0 back.1 h.0 h.1 back.2 in
    let others = entries_read (p + 16) pool entries h.1 h.4 in
    let behind : drop 16 bytes ≡ h.1 = ap (drop 16) h.2 ∙ drop_at h.0 h.1 16 one.length in
    let known : is_entry_type (get_or bytes 0 0) ≡ true = ap (λ (t : List ℕ). is_entry_type (get_or t 0 0)) h.2 ∙ one.known in
    let this : entry_in pool bytes ≡ e =
    ap (entry_in pool) h.2 ∙ ap (λ (r : Runs). entry_of pool r (head_in (h.0 ++ h.1))) one.are_runs ∙ ap (entry_of pool back.1) one.is_head ∙ back.3 in
    record {
      len = omega (arith, ap length h.2, length-append h.0 h.1, one.length, others.len);
      types = rw (known, behind) others.types;
      list = rw (behind, others.list) (ap (λ (x : ReadValue). x ∷ entries) this);
    }

-- ---- the header

pub record IsWhole (bytes : List ℕ) : Type 0 where
  pub header : 8 ≤ length bytes
  pub aligned : entries_len bytes % 16 ≡ 0
  pub end : options_end bytes ≡ length bytes

pub whole_header : (bytes : List ℕ) → header_fault bytes ≡ None → IsWhole bytes
whole_header bytes none = record {
  header = grind arith;
  aligned = grind arith;
  end = grind arith;
}

-- the parts that the plain program takes are those of the bytes
sd_is : (bytes : List ℕ) → IsBytes bytes → IsWhole bytes → bytes ≡ sd_bytes (get_or bytes 0 0) (get_or bytes 1 0) (get_or bytes 2 0) (get_or bytes 3 0) (entries_in bytes) (options_in bytes)
sd_is bytes fits w =
    let n = entries_len bytes in
    let le : n + 12 ≤ length bytes = omega (arith, w.end) in
    let options : length (options_in bytes) ≡ options_len bytes = omega (arith, length-drop (n + 12) bytes, w.end) in
    let entries : length (entries_in bytes) ≡ n = omega (arith, length-slice bytes 8 (n + 8) (omega arith) (omega (arith, le))) in
    let twelve : n + 8 + 4 ≡ n + 12 = omega arith in
    let behind = spells4 bytes (options_in bytes) (n + 8) (length (options_in bytes)) fits (omega (arith, le)) options (ap (λ k. drop k bytes) (sym twelve)) in
    let middle = ap (λ (t : List ℕ). entries_in bytes ++ t) behind ∙ sym (drop_split bytes 8 (n + 8) (omega arith)) in
    let lengths = spells4 bytes _ 4 (length (entries_in bytes)) fits (omega (arith, le)) entries middle in
    let third = spells1 bytes _ 3 (get_or bytes 3 0) (omega (arith, le)) refl lengths in
    let second = spells1 bytes _ 2 (get_or bytes 2 0) (omega (arith, le)) refl third in
    let first = spells1 bytes _ 1 (get_or bytes 1 0) (omega (arith, le)) refl second in
    sym (spells1 bytes _ 0 (get_or bytes 0 0) (omega (arith, le)) refl first)

-- ---- the message

-- what an answer without a fault says
record IsReading (bytes : List ℕ) (v : SdValue) : Type 0 where
  pub header : header_fault bytes ≡ None
  pub types : type_fault (entries_len bytes / 16) 8 (entries_in bytes) ≡ None
  pub pool : Pool
  pub options : options_from (options_place bytes) (options_in bytes) ≡ Ok pool
  pub value : value_in bytes pool ≡ v

no_fault : (fault : Option SdError) (read : Result SdValue SdError) (v : SdValue) → unless fault read ≡ Ok v → (fault ≡ None) × (read ≡ Ok v)
no_fault (Some e) read v is = absurd cc
no_fault None read v is = (refl, is)

is_pool : (bytes : List ℕ) (read : Result Pool SdError) (v : SdValue) → value_by bytes read ≡ Ok v → (pool : Pool) × (read ≡ Ok pool) × (value_in bytes pool ≡ v)
is_pool bytes (Ok pool) v is = let same : value_in bytes pool ≡ v = cc in (pool, refl, same)
is_pool bytes (Err e) v is = absurd cc

is_reading : (bytes : List ℕ) (v : SdValue) → reading bytes ≡ Ok v → IsReading bytes v
is_reading bytes v is =
    let one = no_fault _ _ v is in
    let two = no_fault _ _ v one.1 in
    let three = is_pool bytes _ v two.1 in
    record { header = one.0; types = two.0; pool = three.0; options = three.1; value = three.2 }

-- what is read is what the bytes hold
pub reading_holds : (bytes : List ℕ) (v : SdValue) → IsBytes bytes → reading bytes ≡ Ok v → Sd v bytes
reading_holds bytes v fits is =
    let r = is_reading bytes v is in
    let w = whole_header bytes r.header in
    let n = entries_len bytes in
    let len : length (entries_in bytes) ≡ n = omega (arith, length-slice bytes 8 (n + 8) (omega arith) (omega (arith, w.end))) in
    let chunks : length (entries_in bytes) ≡ 16 * (n / 16) = omega (arith, len, w.aligned) in
    let rest : length (options_in bytes) ≡ options_len bytes = omega (arith, length-drop (n + 12) bytes, w.end) in
    let held : Sd (value_in bytes r.pool) bytes = record {
      flags = get_or bytes 0 0;
      reserved1 = get_or bytes 1 0;
      reserved2 = get_or bytes 2 0;
      reserved3 = get_or bytes 3 0;
      entries = entries_in bytes;
      options = options_in bytes;
      pool = r.pool;
      is = sd_is bytes fits w;
      are_flags = refl;
      entries_fit = omega (arith, len, field32_fits bytes 4 fits);
      options_fit = omega (arith, rest, field32_fits bytes (n + 8) fits);
      are_options = options_spelled (options_place bytes) (options_in bytes) r.pool (IsBytes-drop (options_place bytes) bytes fits) r.options;
      are_entries = entries_spelled (n / 16) 8 r.pool (entries_in bytes) (IsBytes-range bytes 8 _ fits) chunks r.types;
    } in
    subst (λ (x : SdValue). Sd x bytes) r.value held

-- the parts of a spelled message are found in it
record AreParts (bytes entries options : List ℕ) : Type 0 where
  pub len : entries_len bytes ≡ length entries
  pub are_entries : entries_in bytes ≡ entries
  pub are_options : options_in bytes ≡ options
  pub end : options_end bytes ≡ length bytes

are_parts : (f a b c : ℕ) (entries options : List ℕ) → length entries < 2 ^ 32 → length options < 2 ^ 32 → AreParts (sd_bytes f a b c entries options) entries options
are_parts f a b c entries options fits1 fits2 =
    let bytes : List ℕ = sd_bytes f a b c entries options in
    let n = length entries in
    let tail : List ℕ = number32 (length options) ++ options in
    let len : entries_len bytes ≡ n = from_be_bytes-to_be_bytes_4 n fits1 in
    let back : n + 8 - 8 ≡ n = omega arith in
    let part : entries_in bytes ≡ entries = rw (len, back) (take_at entries tail n refl) in
    let behind : drop (n + 8) bytes ≡ tail = let at : n + 8 ≡ 8 + n = omega arith in rw (at, ← drop-drop n 8 bytes) (drop_at entries tail n refl) in
    let four : n + 8 + 4 - (n + 8) ≡ 4 = omega arith in
    let last : options_len bytes ≡ length options = rw (len, four, behind) (from_be_bytes-to_be_bytes_4 (length options) fits2) in
    let rest : options_in bytes ≡ options = let at : n + 12 ≡ n + 8 + 4 = omega arith in rw (len, at, ← drop-drop 4 (n + 8) bytes, behind) refl in
    record {
      len = len;
      are_entries = part;
      are_options = rest;
      end = omega (arith, len, last, length-append entries tail);
    }

no_header_fault : (bytes entries options : List ℕ) (k : ℕ) → AreParts bytes entries options → length entries ≡ 16 * k → header_fault bytes ≡ None
no_header_fault bytes entries options k parts len =
    let n = entries_len bytes in
    let a : ltb (length bytes) 8 ≡ false = le-ltb _ _ (omega (arith, parts.end)) in
    let b : n % 16 ≡ 0 = omega (arith, parts.len, len) in
    let c : ltb (length bytes) (options_place bytes) ≡ false = le-ltb _ _ (omega (arith, parts.end)) in
    let d : ltb (length bytes) (options_end bytes) ≡ false = le-ltb _ _ (omega (arith, parts.end)) in
    let e : ltb (options_end bytes) (length bytes) ≡ false = le-ltb _ _ (omega (arith, parts.end)) in
    rw (a, b, c, d, e) refl

-- what the bytes hold is read
pub holds_read : (v : SdValue) (bytes : List ℕ) → Sd v bytes → reading bytes ≡ Ok v
holds_read v bytes h =
    let spelled = sd_bytes h.flags h.reserved1 h.reserved2 h.reserved3 h.entries h.options in
    let parts = are_parts h.flags h.reserved1 h.reserved2 h.reserved3 h.entries h.options h.entries_fit h.options_fit in
    let k = length v.entries in
    let read = entries_read 8 h.pool v.entries h.entries h.are_entries in
    let count : entries_len spelled / 16 ≡ k = omega (arith, parts.len, read.len) in
    let header = no_header_fault spelled h.entries h.options k parts read.len in
    let types : type_fault (entries_len spelled / 16) 8 (entries_in spelled) ≡ None = rw (count, parts.are_entries) read.types in
    let options : options_from (options_place spelled) (options_in spelled) ≡ Ok h.pool = ap (options_from (options_place spelled)) parts.are_options ∙ options_read (options_place spelled) h.pool h.options h.are_options in
    let entries : entry_list (entries_len spelled / 16) h.pool (entries_in spelled) ≡ v.entries = rw (count, parts.are_entries) read.list in
    let value : value_in spelled h.pool ≡ v = λ i. record { flags = sym h.are_flags i; entries = entries i } in
    ap reading h.is ∙ rw (header, types, options) (ap (λ (x : SdValue). Ok x) value)
