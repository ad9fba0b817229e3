-- What a recording gives by itself, and what each of its packets carries.
use Rattle.std.specs.Prelude.{◌≢◌, ℕ, ◌+◌, Bool, true, false, List, [], ◌∷◌, ◌++◌, Ok, Err, IfOk}
use Rattle.std.specs.Option.{option_to_list}
use Rattle.recording.specs.Packets.{carried_in, fragment}
use Rattle.recording.specs.Records.{Item}
use Rattle.recording_packets.specs.declared.left_out.LeftOut.{LeftOut}
use Rattle.recording_packets.specs.Chosen.{ChosenValue, is_chosen}
use Rattle.recording_packets.specs.Intake.{ArrivalValue, after_packets, arrivals, given, left_out_at, nothing_taken}

-- what a recording gives
abbrev pub given_by : ChosenValue → List Item → List ArrivalValue
given_by c items = arrivals c (nothing_taken c) items

-- and what is left out of it
abbrev pub left_out_by : ChosenValue → List Item → LeftOut
left_out_by c items = left_out_at (after_packets c (nothing_taken c) items)

-- the datagrams of packets, where the first has this number
abbrev pub carried_datagrams : ℕ → List Item → List ArrivalValue
carried_datagrams frame [] = []
carried_datagrams frame (Ok r ∷ items) =
    option_to_list (given frame (carried_in r.time r.link r.bytes)) ++ carried_datagrams (frame + 1) items
carried_datagrams frame (Err fault ∷ items) = carried_datagrams frame items

-- it is no packet with a fragment
abbrev pub HasNoFragment : Item → Type 0
HasNoFragment item = IfOk item (λ r. carried_in r.time r.link r.bytes ≢ fragment)

-- one packet, if it is chosen
abbrev pub one_if : Bool → ℕ
one_if true = 1
one_if false = 0

-- how many packets are looked at
abbrev pub looked_at : ChosenValue → List Item → ℕ
looked_at c [] = 0
looked_at c (Ok r ∷ items) = one_if (is_chosen c r) + looked_at c items
looked_at c (Err fault ∷ items) = looked_at c items
