-- What the packets of recordings give that carry no fragments, where copies are left in.
use Rattle.std.proofs.Common.{◌≡◌, ◌≢◌, ℕ, ◌+◌, Option, None, List, [], ◌∷◌, ◌++◌, Result, Ok, Err, refl, ap, ◌∙◌}
use Rattle.std.specs.List.{All}
use Rattle.std.proofs.lemmas.List.Elements.{All-head, All-tail}
use Rattle.std.specs.Option.{option_to_list}
use Rattle.recording.specs.declared.Skipped.{Skipped}
use Rattle.recording.specs.declared.Time.{Time}
use Rattle.recording.specs.Packets.{CarriedValue, Ipv4Value, carried_by, carried_from, carried_in, datagram, fragment, ipv4_in, nothing}
use Rattle.recording.specs.Records.{Item}
use Rattle.recording_packets.specs.declared.left_out.LeftOut.{LeftOut}
use Rattle.recording_packets.specs.Carried.{HasNoFragment, carried_datagrams}
use Rattle.recording_packets.specs.Chosen.{all_packets}
use Rattle.recording_packets.specs.Intake.{ArrivalValue, IntakeValue, TakenValue, arrivals, clock_after, given, left_out_with, taken_as, taken_carrying, taken_from}
use Rattle.recording_packets.specs.fragments.Stores.{Store}

-- a state in which copies are left in
abbrev plain : ℕ → ℕ → Store → Option ArrivalValue → LeftOut → IntakeValue
plain frames clock store whole skipped = record { frames = frames; clock = clock; copies = None; fragments = store; whole = whole; skipped = skipped }

plain-carrying : (time : Option Time) (p : Ipv4Value) (carried : CarriedValue) (s : IntakeValue) → carried ≢ fragment → taken_carrying time p carried s ≡ taken_as carried s
plain-carrying time p (datagram d) s unlike = refl
plain-carrying time p fragment s unlike = absurd (unlike refl)
plain-carrying time p (nothing skipped) s unlike = refl

plain-from : (time : Option Time) (found : Result Ipv4Value Skipped) (frames clock : ℕ) (store : Store) (whole : Option ArrivalValue) (skipped : LeftOut) → carried_from time found ≢ fragment
    → taken_from time found (plain frames clock store whole skipped) ≡ taken_as (carried_from time found) (plain frames clock store whole skipped)
plain-from time (Err fault) frames clock store whole skipped unlike = refl
plain-from time (Ok p) frames clock store whole skipped unlike = plain-carrying time p (carried_by time p) (plain frames clock store whole skipped) unlike

pub arrivals-plain : (frames clock : ℕ) (store : Store) (whole : Option ArrivalValue) (skipped : LeftOut) (items : List Item) → All HasNoFragment items
    → arrivals all_packets (plain frames clock store whole skipped) items ≡ carried_datagrams (frames + 1) items
arrivals-plain frames clock store whole skipped [] all = refl
arrivals-plain frames clock store whole skipped (Ok r ∷ items) all =
    ap (λ (t : TakenValue). option_to_list t.arrival ++ arrivals all_packets t.after items) (plain-from r.time (ipv4_in r.link r.bytes) (frames + 1) (clock_after clock r.time) store whole skipped (All-head HasNoFragment (Ok r) items all))
    ∙ ap (λ (l : List ArrivalValue). option_to_list (given (frames + 1) (carried_in r.time r.link r.bytes)) ++ l)
    (arrivals-plain (frames + 1) (clock_after clock r.time) store whole (left_out_with (carried_in r.time r.link r.bytes) skipped) items (All-tail HasNoFragment (Ok r) items all))
arrivals-plain frames clock store whole skipped (Err fault ∷ items) all = arrivals-plain frames clock store whole skipped items (All-tail HasNoFragment (Err fault) items all)
