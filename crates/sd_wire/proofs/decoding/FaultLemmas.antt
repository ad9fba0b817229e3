-- The plain program refuses bytes at their first fault.
use Rattle.std.proofs.Common.{◌≡◌, ℕ, zero, suc, ◌+◌, ◌*◌, ◌/◌, ◌<◌, ◌≤◌, Bool, true, false, List, [], ◌∷◌, ◌++◌, length, get_or, drop, Option, Some, None, Result, Ok, Err, refl, sym, ap, ◌∙◌, append_assoc, arith, inl, inr}
use Rattle.std.proofs.lemmas.List.{drop_at, length-append, length-drop, get_or-drop}
use Rattle.sd_wire.specs.declared.error.SdError.{SdError}
use Rattle.sd_wire.specs.declared.error.SdError.TheVariants as errors
use Rattle.sd_wire.specs.declared.error.SdError.TheVariants.{UnknownEntryType, OptionLength}
use Rattle.sd_wire.specs.declared.option.SdOption.{SdOption}
use Rattle.sd_wire.specs.layout.Fields.{IsBytes}
use Rattle.sd_wire.specs.layout.Spelling.{option_bytes}
use Rattle.sd_wire.specs.decoding.Reading.{Spelled, SpellsOption}
use Rattle.sd_wire.specs.layout.Layout.{entries_len, options_place, entries_in, options_in}
use Rattle.sd_wire.specs.decoding.Faults.{header_fault, is_entry_type, option_size}
use Rattle.sd_wire.specs.decoding.Program.{type_fault, option_in, and_then, options_from, value_by, reading}
use Rattle.sd_wire.specs.decoding.Faults.{AreTypes, FaultInTypes, FaultInOptions, SdFault, IsFirstFault}
use Rattle.sd_wire.specs.decoding.Steps.{Fails}
use Rattle.sd_wire.proofs.spelled.FieldLemmas.{IsBytes-drop}
use Rattle.sd_wire.proofs.decoding.EntryLemmas.{type_fault-more, type_fault-found}
use Rattle.sd_wire.proofs.decoding.OptionLemmas.{has_option, options_from-nil, options_from-none, options_from-some}
use Rattle.sd_wire.proofs.spelled.OptionSpelling.{is_front}
use Rattle.sd_wire.proofs.spelled.OptionRead.{option_read}

abbrev Pool : Type 0
Pool = List SdOption

-- ---- types

pub types_none : (k p : ℕ) (entries : List ℕ) → AreTypes k entries → type_fault k p entries ≡ None
types_none zero p entries are = refl
types_none (suc k) p entries are = type_fault-more k p entries (types_none k p entries (λ j lt. are j (omega arith))) (are k (omega arith))

pub types_fault : (n p : ℕ) (entries : List ℕ) (e : SdError) → FaultInTypes n p entries e → type_fault n p entries ≡ Some e
types_fault n p entries e h = type_fault-found h.0 n p entries h.1 (types_none h.0 p entries h.2) h.3 ∙ ap (λ (x : SdError). Some x) (sym h.4)

-- the first types, after a known one
more_types : (k : ℕ) (entries : List ℕ) → is_entry_type (get_or entries 0 0) ≡ true → AreTypes k (drop 16 entries) → AreTypes (suc k) entries
more_types k entries first rest zero lt = first
more_types k entries first rest (suc j) lt =
    let at : 16 + j * 16 ≡ suc j * 16 = omega arith in
    let same : get_or (drop 16 entries) (j * 16) 0 ≡ get_or entries (suc j * 16) 0 = rw (get_or-drop, at) refl in
    rw (← same) (rest j (omega arith))

pub none_types : (n p : ℕ) (entries : List ℕ) → type_fault n p entries ≡ None → AreTypes n entries
none_types zero p entries none = λ j lt. absurd (omega (arith, lt))
none_types (suc n) p entries none =
    let P : Bool → Type 0 = λ b. is_entry_type (get_or entries 0 0) ≡ b → AreTypes (suc n) entries in
    (elim (is_entry_type (get_or entries 0 0)) as P [
      | true ↦ λ e. more_types n entries e (none_types n (p + 16) (drop 16 entries) (rw e at none))
      | false ↦ λ e. let bad = rw e at none in absurd cc
    ]) refl

pub fault_types : (n p : ℕ) (entries : List ℕ) (f : SdError) → type_fault n p entries ≡ Some f → FaultInTypes n p entries f
fault_types zero p entries f is = absurd cc
fault_types (suc n) p entries f is =
    let P : Bool → Type 0 = λ b. is_entry_type (get_or entries 0 0) ≡ b → FaultInTypes (suc n) p entries f in
    (elim (is_entry_type (get_or entries 0 0)) as P [
      | true ↦ λ e.
          let h = fault_types n (p + 16) (drop 16 entries) f (rw e at is) in
          let at : 16 + h.0 * 16 ≡ suc h.0 * 16 = omega arith in
          let place : p + 16 + h.0 * 16 ≡ p + suc h.0 * 16 = omega arith in
          let same : get_or (drop 16 entries) (h.0 * 16) 0 ≡ get_or entries (suc h.0 * 16) 0 = rw (get_or-drop, at) refl in
          let lt : suc h.0 < suc n = omega (arith, h.1) in
          (suc h.0, lt, more_types h.0 entries e h.2, ap is_entry_type (sym same) ∙ h.3, h.4 ∙ ap UnknownEntryType place)
      | false ↦ λ e.
          let found : Some (UnknownEntryType p) ≡ Some f = rw e at is in
          let same : f ≡ UnknownEntryType p = cc in
          let place : p ≡ p + 0 * 16 = omega arith in
          (0, omega arith, (λ j lt. absurd (omega (arith, lt))), e, same ∙ ap UnknownEntryType place)
    ]) refl

-- ---- options

pub options_fault : (p : ℕ) (pool : Pool) (options front rest : List ℕ) → options ≡ front ++ rest → Spelled SpellsOption pool front → 0 < length rest → option_size rest ≡ None
    → options_from p options ≡ Err (OptionLength (p + length front))
options_fault p [] options front rest is spelled some none =
    let same : options ≡ rest = is ∙ ap (λ (t : List ℕ). t ++ rest) spelled in
    let place : p ≡ p + length front = omega (arith, ap length spelled) in
    ap (options_from p) same ∙ options_from-none p rest some none ∙ ap (λ k. Err (OptionLength k)) place
options_fault p (o ∷ pool) options front rest is h some none =
    let n = length h.0 in
    let tail : List ℕ = h.1 ++ rest in
    let one = option_read o h.0 tail h.3 in
    let whole : options ≡ h.0 ++ tail = is ∙ ap (λ (t : List ℕ). t ++ rest) h.2 ∙ append_assoc h.0 h.1 rest in
    let behind : drop n (h.0 ++ tail) ≡ tail = drop_at h.0 tail n refl in
    let place : p + n + length h.1 ≡ p + length front = omega (arith, ap length h.2, length-append h.0 h.1) in
    ap (options_from p) whole
    ∙ options_from-some p n (h.0 ++ tail) one.size
    ∙ ap (λ (t : List ℕ). and_then (option_in (h.0 ++ tail) ∷ []) (options_from (p + n) t)) behind
    ∙ ap (and_then (option_in (h.0 ++ tail) ∷ [])) (options_fault (p + n) pool tail h.1 rest refl h.4 some none)
    ∙ ap (λ k. Err (OptionLength k)) place

err_behind : (o : SdOption) (read : Result Pool SdError) (e : SdError) → and_then (o ∷ []) read ≡ Err e → read ≡ Err e
err_behind o (Ok others) e is = absurd cc
err_behind o (Err f) e is = is

regroup : (bytes first others front rest : List ℕ) → first ++ others ≡ bytes → others ≡ front ++ rest → bytes ≡ (first ++ front) ++ rest
regroup bytes first others front rest is parts = sym is ∙ ap (λ (t : List ℕ). first ++ t) parts ∙ sym (append_assoc first front rest)

fault_within : (k p : ℕ) (bytes : List ℕ) (e : SdError) → length bytes ≤ k → IsBytes bytes → options_from p bytes ≡ Err e → FaultInOptions p bytes e
fault_within k p [] e le fits is = let bad = sym (options_from-nil p [] refl) ∙ is in absurd cc
fault_within zero p (b ∷ bytes) e le fits is = absurd (omega (arith, le))
fault_within (suc k) p (b ∷ bytes) e le fits is =
    let P : Option ℕ → Type 0 = λ o. option_size (b ∷ bytes) ≡ o → FaultInOptions p (b ∷ bytes) e in
    (elim (option_size (b ∷ bytes)) as P [
      | None ↦ λ none.
          let nothing : Result Pool SdError = Err (OptionLength p) in
          let found : nothing ≡ Err e = sym (options_from-none p (b ∷ bytes) (omega arith) none) ∙ is in
          let same : e ≡ OptionLength p = cc in
          let place : p ≡ p + 0 = omega arith in
          ([], [], b ∷ bytes, refl, refl, omega arith, none, same ∙ ap OptionLength place)
      | Some n ↦ λ some.
          let has = has_option (b ∷ bytes) n some in
          let front = is_front n (b ∷ bytes) fits has in
          let o = option_in (b ∷ bytes) in
          let first = option_bytes front.reserved1 front.reserved2 o in
          let others : List ℕ = drop n (b ∷ bytes) in
          let shorter : length others ≤ k = omega (arith, length-drop n (b ∷ bytes), has.size, le) in
          let bad = err_behind o (options_from (p + n) others) e (sym (options_from-some p n (b ∷ bytes) some) ∙ is) in
          let h = fault_within k (p + n) others e shorter (IsBytes-drop n (b ∷ bytes) fits) bad in
          let spells : SpellsOption o first = record { reserved1 = front.reserved1; reserved2 = front.reserved2; is = refl; fits = front.fits } in
          let len : length first ≡ n = omega (arith, ap length front.is, length-append first others, length-drop n (b ∷ bytes), has.within) in
          let whole = regroup (b ∷ bytes) first others h.1 h.2 front.is h.3 in
          let place : p + n + length h.1 ≡ p + length (first ++ h.1) = omega (arith, len, length-append first h.1) in
          (o ∷ h.0, first ++ h.1, h.2, whole, (first, h.1, refl, spells, h.4), h.5, h.6, h.7 ∙ ap OptionLength place)
    ]) refl

-- ---- the message

faulty_value : (bytes : List ℕ) (read : Result Pool SdError) (e : SdError) → value_by bytes read ≡ Err e → read ≡ Err e
faulty_value bytes (Ok pool) e is = absurd cc
faulty_value bytes (Err f) e is = let same : f ≡ e = cc in ap (λ (x : SdError). Err x) same

pub fault_read : (bytes : List ℕ) (e : SdError) → SdFault e bytes → reading bytes ≡ Err e
fault_read bytes e h =
    let n = entries_len bytes / 16 in
    elim h [
      | inl header ↦ rw header refl
      | inr other ↦ elim other [
        | inl types ↦ rw (types.0, types_fault n 8 (entries_in bytes) e types.1) refl
        | inr options ↦
            let o = options.2 in
            let bad = options_fault (options_place bytes) o.0 (options_in bytes) o.1 o.2 o.3 o.4 o.5 o.6 in
            rw (options.0, types_none n 8 (entries_in bytes) options.1, bad) (ap (λ (x : SdError). Err x) (sym o.7))
      ]
    ]

pub read_fault : (bytes : List ℕ) (e : SdError) → IsBytes bytes → reading bytes ≡ Err e → SdFault e bytes
read_fault bytes e fits is =
    let n = entries_len bytes / 16 in
    let P : Option SdError → Type 0 = λ o. header_fault bytes ≡ o → SdFault e bytes in
    let Q : Option SdError → Type 0 = λ o. header_fault bytes ≡ None → type_fault n 8 (entries_in bytes) ≡ o → SdFault e bytes in
    (elim (header_fault bytes) as P [
      | Some f ↦ λ header. let found : Err f ≡ reading bytes = rw header refl in let same : f ≡ e = let both = found ∙ is in cc in inl (header ∙ ap (λ (x : SdError). Some x) same)
      | None ↦ λ header. (elim (type_fault n 8 (entries_in bytes)) as Q [
        | Some f ↦ λ none types.
            let found : Err f ≡ reading bytes = rw (none, types) refl in
            let same : f ≡ e = let both = found ∙ is in cc in
            inr (inl (none, fault_types n 8 (entries_in bytes) e (types ∙ ap (λ (x : SdError). Some x) same)))
        | None ↦ λ none types.
            let bad = faulty_value bytes (options_from (options_place bytes) (options_in bytes)) e (rw (none, types) at is) in
            inr (inr (none, none_types n 8 (entries_in bytes) types, fault_within (length (options_in bytes)) (options_place bytes) (options_in bytes) e (omega arith) (IsBytes-drop (options_place bytes) bytes fits) bad))
      ]) header refl
    ]) refl

-- the error of the plain program is the first fault
pub first_fault : (bytes : List ℕ) (e : SdError) → IsBytes bytes → Fails e (reading bytes) → IsFirstFault e bytes
first_fault bytes errors.OutOfMemory fits h = tt
first_fault bytes (errors.Truncated p) fits h = read_fault bytes (errors.Truncated p) fits h
first_fault bytes (errors.EntriesLength p) fits h = read_fault bytes (errors.EntriesLength p) fits h
first_fault bytes (errors.UnknownEntryType p) fits h = read_fault bytes (errors.UnknownEntryType p) fits h
first_fault bytes (errors.OptionLength p) fits h = read_fault bytes (errors.OptionLength p) fits h
first_fault bytes (errors.TooManyOptions p) fits h = read_fault bytes (errors.TooManyOptions p) fits h
first_fault bytes (errors.TrailingBytes p) fits h = read_fault bytes (errors.TrailingBytes p) fits h
