-- Each item of a datagram lies within it.
use Rattle.std.proofs.Common.{◌≡◌, ℕ, zero, suc, ◌+◌, ◌≤◌, Bool, true, false, cond, ltb, not, eqb, List, [], ◌∷◌, length, get_or, drop, Option, Some, None, refl, ap, arith}
use Rattle.std.specs.Option.{is_none}
use Rattle.std.specs.List.{AllByRecursion}
use Rattle.std.proofs.lemmas.Bool.{ltb-false}
use Rattle.std.proofs.lemmas.List.{length-drop}
use Rattle.someip_wire.specs.declared.error.WireError.{WireError}
use Rattle.someip_wire.specs.declared.error.WireError.TheVariants.{Truncated, LengthTooSmall, WrongProtocolVersion, UnknownMessageType}
use Rattle.someip_wire.specs.Kinds.{kind_of}
use Rattle.someip_wire.specs.Faults.{length_field, fault_at, fault_place}
use Rattle.someip_wire.specs.Datagram.{LiesWithin}
use Rattle.someip_wire.specs.Reading.{message_in, or_fault, items_after, items_within, items_from}
use Rattle.someip_wire.proofs.MessageLemmas.{none_is_whole, payload_length}

-- a fault of a rest of n bytes or more is at its end at most
fault_within : (n p : ℕ) (bytes : List ℕ) (e : WireError) → p + length bytes ≤ n → fault_at p bytes ≡ Some e → fault_place e ≤ n
fault_within n p bytes e le is =
    cases (ltb (length bytes) 16) (ltb (length_field bytes) 8) (not (eqb (get_or bytes 12 0) 1)) (is_none (kind_of (get_or bytes 14 0))) (ltb (length bytes) (length_field bytes + 8)) refl is
  where
    cases : (short small version kind cut : Bool) → ltb (length bytes) 16 ≡ short
        → cond short (Some (Truncated (p + length bytes))) (cond small (Some (LengthTooSmall (p + 4)))
        (cond version (Some (WrongProtocolVersion (p + 12))) (cond kind (Some (UnknownMessageType (p + 14)))
        (cond cut (Some (Truncated (p + length bytes))) None))))
        ≡ Some e → fault_place e ≤ n
    cases true small version kind cut long is =
        let same : Truncated (p + length bytes) ≡ e = cc in omega (arith, le, ap fault_place same)
    cases false true version kind cut long is =
        let same : LengthTooSmall (p + 4) ≡ e = cc in omega (arith, le, ap fault_place same, ltb-false (length bytes) 16 long)
    cases false false true kind cut long is =
        let same : WrongProtocolVersion (p + 12) ≡ e = cc in omega (arith, le, ap fault_place same, ltb-false (length bytes) 16 long)
    cases false false false true cut long is =
        let same : UnknownMessageType (p + 14) ≡ e = cc in omega (arith, le, ap fault_place same, ltb-false (length bytes) 16 long)
    cases false false false false true long is =
        let same : Truncated (p + length bytes) ≡ e = cc in omega (arith, le, ap fault_place same)
    cases false false false false false long is = absurd cc

items_within-lie : (k n p : ℕ) (bytes : List ℕ) → p + length bytes ≤ n → AllByRecursion (LiesWithin n) (items_within k p bytes)
unfolding items_within
items_within-lie zero n p bytes le = tt
items_within-lie (suc k) n p [] le = tt
items_within-lie (suc k) n p (b ∷ bytes) le =
    let P : Option WireError → Type 0 = λ o. fault_at p (b ∷ bytes) ≡ o → AllByRecursion (LiesWithin n) (items_after (items_within k) p (b ∷ bytes) (or_fault o (message_in (b ∷ bytes)))) in
    (elim (fault_at p (b ∷ bytes)) as P [
      | Some e ↦ λ is. (fault_within n p (b ∷ bytes) e le is, tt)
      | None ↦ λ is.
          let w = none_is_whole p (b ∷ bytes) is in (
            omega (arith, le, w.whole, payload_length (b ∷ bytes) w),
            items_within-lie k n (p + (length_field (b ∷ bytes) + 8)) (drop (length_field (b ∷ bytes) + 8) (b ∷ bytes))
                (omega (arith, le, w.whole, length-drop (length_field (b ∷ bytes) + 8) (b ∷ bytes))),
          )
    ]) refl

pub items_lie : (bytes : List ℕ) → AllByRecursion (LiesWithin (length bytes)) (items_from 0 bytes)
items_lie bytes = items_within-lie (length bytes) (length bytes) 0 bytes (omega arith)
