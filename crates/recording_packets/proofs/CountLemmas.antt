-- How many packets give no datagram, and how many give one.
use Rattle.std.proofs.Common.{arith, ◌≡◌, ◌≢◌, ℕ, ◌+◌, Bool, true, false, Option, List, [], ◌∷◌, Result, Ok, Err, length, refl}
use Rattle.std.specs.List.{All}
use Rattle.std.specs.Option.{option_to_list}
use Rattle.std.proofs.lemmas.List.{length-append}
use Rattle.std.proofs.lemmas.List.Elements.{All-head, All-tail}
use Rattle.recording.specs.declared.Skipped.{Skipped}
use Rattle.recording.specs.declared.Skipped.TheVariants.{LinkType, NotIpv4, NotUdp, Cut, BadUdpLength}
use Rattle.recording.specs.declared.Time.{Time}
use Rattle.recording.specs.Captured.{RecordValue}
use Rattle.recording.specs.Packets.{CarriedValue, Ipv4Value, carried_by, carried_from, carried_in, datagram, fragment, ipv4_in, nothing}
use Rattle.recording.specs.Records.{Item}
use Rattle.recording_packets.specs.Carried.{HasNoFragment, looked_at, one_if}
use Rattle.recording_packets.specs.Chosen.{ChosenValue, is_chosen}
use Rattle.recording_packets.specs.Intake.{IntakeValue, TakenValue, after_packet, after_packets, arrivals, arrived, clock_after, is_known, left_out_at, remembering, taken_as, taken_carrying, taken_from, taken_if, taken_unless}
use Rattle.recording_packets.specs.LeftOut.{total}

-- what is left out after a packet, and its datagram
abbrev seen : TakenValue → ℕ
seen t = total (left_out_at t.after) + length (option_to_list t.arrival)

-- what is left out before
abbrev before : IntakeValue → ℕ
before s = total (left_out_at s)

skipped-counts : (k : Skipped) (s : IntakeValue) → seen (taken_as (nothing k) s) ≡ before s + 1
skipped-counts LinkType s = omega arith
skipped-counts NotIpv4 s = omega arith
skipped-counts NotUdp s = omega arith
skipped-counts Cut s = omega arith
skipped-counts BadUdpLength s = omega arith

carrying-counts : (time : Option Time) (p : Ipv4Value) (carried : CarriedValue) (s : IntakeValue) → carried ≢ fragment → seen (taken_carrying time p carried s) ≡ before s + 1
carrying-counts time p (datagram d) s unlike = omega arith
carrying-counts time p fragment s unlike = absurd (unlike refl)
carrying-counts time p (nothing k) s unlike = skipped-counts k s

unless-counts : (copy : Bool) (time : Option Time) (p : Ipv4Value) (s : IntakeValue) → carried_by time p ≢ fragment → seen (taken_unless copy time p s) ≡ before s + 1
unless-counts true time p s unlike = omega arith
unless-counts false time p s unlike = carrying-counts time p (carried_by time p) s unlike

from-counts : (time : Option Time) (found : Result Ipv4Value Skipped) (s : IntakeValue) → carried_from time found ≢ fragment → seen (taken_from time found s) ≡ before s + 1
from-counts time (Err k) s unlike = skipped-counts k s
from-counts time (Ok p) s unlike = unless-counts (is_known s.clock p s.copies) time p (record s { copies = remembering s.clock p s.copies }) unlike

if-counts : (chosen : Bool) (r : RecordValue) (s : IntakeValue) → carried_in r.time r.link r.bytes ≢ fragment → seen (taken_if chosen r s) ≡ before s + one_if chosen
if-counts false r s unlike = refl
if-counts true r s unlike = from-counts r.time (ipv4_in r.link r.bytes) (record s { clock = clock_after s.clock r.time }) unlike

pub all-count : (c : ChosenValue) (s : IntakeValue) (items : List Item) → All HasNoFragment items
    → total (left_out_at (after_packets c s items)) + length (arrivals c s items) ≡ total (left_out_at s) + looked_at c items
all-count c s [] all = refl
all-count c s (Ok r ∷ items) all =
    let one : seen (taken_if (is_chosen c r) r (record s { frames = s.frames + 1 })) ≡ before s + one_if (is_chosen c r) = if-counts (is_chosen c r) r (record s { frames = s.frames + 1 }) (All-head HasNoFragment (Ok r) items all) in
    let others = all-count c (after_packet c s r) items (All-tail HasNoFragment (Ok r) items all) in
    let both = length-append (option_to_list (arrived c s r)) (arrivals c (after_packet c s r) items) in
    sums (total (left_out_at (after_packets c (after_packet c s r) items))) _ _ _ _ _ _ _ both others one
  where
    sums : (left len own rest after before chosen looked : ℕ) → len ≡ own + rest → left + rest ≡ after + looked → after + own ≡ before + chosen → left + len ≡ before + (chosen + looked)
    sums left len own rest after before chosen looked both others one = omega (arith, both, others, one)
all-count c s (Err fault ∷ items) all = all-count c s items (All-tail HasNoFragment (Err fault) items all)
