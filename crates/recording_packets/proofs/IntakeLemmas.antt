-- What the packets of two recordings give, one after the other.
use Rattle.std.proofs.Common.{◌≡◌, ◌+◌, Bool, true, false, List, [], ◌∷◌, ◌++◌, Option, Result, Ok, Err, refl, sym, ap, ◌∙◌, append_assoc}
use Rattle.std.specs.Option.{option_to_list}
use Rattle.recording.specs.declared.Skipped.{Skipped}
use Rattle.recording.specs.declared.Time.{Time}
use Rattle.recording.specs.Captured.{RecordValue}
use Rattle.recording.specs.Packets.{CarriedValue, Ipv4Value, carried_by, datagram, fragment, ipv4_in, nothing}
use Rattle.recording.specs.Records.{Item}
use Rattle.recording_packets.specs.Chosen.{ChosenValue, is_chosen}
use Rattle.recording_packets.specs.Intake.{ArrivalValue, IntakeValue, after_packet, after_packets, arrivals, arrived, clock_after, is_known, remembering, taken_carrying, taken_from, taken_if, taken_unless}

pub arrivals-append : (c : ChosenValue) (s : IntakeValue) (items others : List Item) → arrivals c s (items ++ others) ≡ arrivals c s items ++ arrivals c (after_packets c s items) others
arrivals-append c s [] others = refl
arrivals-append c s (Ok r ∷ items) others =
    let own = option_to_list (arrived c s r) in
    ap (λ (l : List ArrivalValue). own ++ l) (arrivals-append c (after_packet c s r) items others)
    ∙ sym (append_assoc own (arrivals c (after_packet c s r) items) (arrivals c (after_packets c (after_packet c s r) items) others))
arrivals-append c s (Err fault ∷ items) others = arrivals-append c s items others

pub after_packets-append : (c : ChosenValue) (s : IntakeValue) (items others : List Item) → after_packets c s (items ++ others) ≡ after_packets c (after_packets c s items) others
after_packets-append c s [] others = refl
after_packets-append c s (Ok r ∷ items) others = after_packets-append c (after_packet c s r) items others
after_packets-append c s (Err fault ∷ items) others = after_packets-append c s items others

-- ---- each packet counts

frames-carrying : (time : Option Time) (p : Ipv4Value) (carried : CarriedValue) (s : IntakeValue) → (taken_carrying time p carried s).after.frames ≡ s.frames
frames-carrying time p fragment s = refl
frames-carrying time p (datagram d) s = refl
frames-carrying time p (nothing skipped) s = refl

frames-unless : (known : Bool) (time : Option Time) (p : Ipv4Value) (s : IntakeValue) → (taken_unless known time p s).after.frames ≡ s.frames
frames-unless true time p s = refl
frames-unless false time p s = frames-carrying time p (carried_by time p) s

frames-from : (time : Option Time) (found : Result Ipv4Value Skipped) (s : IntakeValue) → (taken_from time found s).after.frames ≡ s.frames
frames-from time (Err skipped) s = refl
frames-from time (Ok p) s = frames-unless (is_known s.clock p s.copies) time p (record s { copies = remembering s.clock p s.copies })

frames-if : (chosen : Bool) (r : RecordValue) (s : IntakeValue) → (taken_if chosen r s).after.frames ≡ s.frames
frames-if false r s = refl
frames-if true r s = frames-from r.time (ipv4_in r.link r.bytes) (record s { clock = clock_after s.clock r.time })

pub frames-more : (c : ChosenValue) (s : IntakeValue) (r : RecordValue) → (after_packet c s r).frames ≡ s.frames + 1
frames-more c s r = frames-if (is_chosen c r) r (record s { frames = s.frames + 1 })
