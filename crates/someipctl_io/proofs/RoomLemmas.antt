-- The place of a fault of Service Discovery lies in its datagram.
use Rattle.std.proofs.Common.{◌≡◌, ℕ, ◌+◌, ◌≤◌, Bool, true, false, [], length, if◌then◌else◌, Option, None, Some, Result, Ok, Err, IfErr, refl, sym, ap, ◌∙◌, arith}
use Rattle.std.specs.Option.{IfSome}
use Rattle.std.proofs.lemmas.List.{append-nil}
use Rattle.someip_wire.specs.Spelling.{MessageValue, spelling}
use Rattle.someip_wire.proofs.MessageLemmas.{length_spelled}
use Rattle.sd_wire.specs.declared.SdError.{SdError}
use Rattle.sd_wire.specs.contents.Values.{SdValue}
use Rattle.sd_wire.specs.decoding.Faults.{fault_place}
use Rattle.sd_wire.specs.decoding.Program.{reading}
use Rattle.sd_wire.proofs.decoding.PlaceLemmas.{fault_within}
use Rattle.someipctl_io.specs.Items.{item_len}
use Rattle.someip_wire.specs.Discovery.{is_discovery}
use Rattle.someipctl_io.specs.Discovery.{discovery_in}

pub room_for : (m : MessageValue) (place top : ℕ) (front : Option (Result SdValue SdError)) → front ≡ discovery_in (Ok m) → place + item_len (Ok m) ≤ top
    → IfSome front (λ r. IfErr r (λ e. (place + 16) + fault_place e ≤ top))
room_for m place top front is room = cases (is_discovery m.header) front (is ∙ refl)
  where
    long : length (spelling m) ≡ 16 + length m.payload
    long = ap length (sym (append-nil (spelling m))) ∙ (length_spelled m [] ∙ (let z : 16 + length m.payload + 0 ≡ 16 + length m.payload = omega arith in z))

    at : (r : Result SdValue SdError) → r ≡ reading m.payload → IfErr r (λ e. (place + 16) + fault_place e ≤ top)
    at (Ok v) h = tt
    at (Err e) h = omega (arith, room, long, fault_within m.payload e (sym h))

    cases : (b : Bool) (o : Option (Result SdValue SdError)) → o ≡ (if b then Some (reading m.payload) else None) → IfSome o (λ r. IfErr r (λ e. (place + 16) + fault_place e ≤ top))
    cases b None h = tt
    cases true (Some r) h = at r (let same : Some r ≡ Some (reading m.payload) = h in cc)
    cases false (Some r) h = absurd (cc)
