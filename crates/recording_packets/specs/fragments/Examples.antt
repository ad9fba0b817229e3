-- Fragments that the laws speak of as examples.
use Rattle.std.specs.Prelude.{ℕ, List, [], ◌∷◌, length, map, Option}
use Rattle.recording.specs.Packets.{Ipv4Value}
use Rattle.recording_packets.specs.fragments.Stores.{nothing_held}
use Rattle.recording_packets.specs.fragments.Wholes.{Offer, store_after}

-- a fragment from 10.0.0.1 to 10.0.0.2 with these two bytes of flags and offset
abbrev pub fragment_with : ℕ → List ℕ → Ipv4Value
fragment_with fragment payload =
    record {
      source = 10 ∷ 0 ∷ 0 ∷ 1 ∷ [];
      destination = 10 ∷ 0 ∷ 0 ∷ 2 ∷ [];
      identification = 7;
      fragment = fragment;
      protocol = 17;
      payload = payload;
    }

-- of a payload of eighteen bytes: the first eight, with More Fragments; the next eight, and the last two; the last ten
-- in one; and the last two with another byte
abbrev pub front : Ipv4Value
front = fragment_with 0x2000 (0 ∷ 1 ∷ 2 ∷ 3 ∷ 4 ∷ 5 ∷ 6 ∷ 7 ∷ [])

abbrev pub middle : Ipv4Value
middle = fragment_with 0x2001 (8 ∷ 9 ∷ 10 ∷ 11 ∷ 12 ∷ 13 ∷ 14 ∷ 15 ∷ [])

abbrev pub tail : Ipv4Value
tail = fragment_with 0x0002 (16 ∷ 17 ∷ [])

abbrev pub long_tail : Ipv4Value
long_tail = fragment_with 0x0001 (8 ∷ 9 ∷ 10 ∷ 11 ∷ 12 ∷ 13 ∷ 14 ∷ 15 ∷ 16 ∷ 17 ∷ [])

abbrev pub other_tail : Ipv4Value
other_tail = fragment_with 0x0002 (16 ∷ 18 ∷ [])

-- one of another packet
abbrev pub other_front : Ipv4Value
other_front = record front { identification = 8 }

-- one whose last byte would be the 65,536th
abbrev pub past_the_most : Ipv4Value
past_the_most = fragment_with 0x1fff (1 ∷ 2 ∷ 3 ∷ 4 ∷ 5 ∷ 6 ∷ 7 ∷ 8 ∷ [])

-- a fragment at a moment, and several at one
abbrev pub at : ℕ → Ipv4Value → Offer
at now v = record { now = now; packet = v }

abbrev pub at_once : List Ipv4Value → List Offer
at_once fragments = map (at 5) fragments

-- what a store has after these offers, the newest first: the payload that is whole, how many packets are held in part,
-- how many fragments were given up without the rest, and how many since they differ
abbrev pub given : List Offer → Option (List ℕ) × ℕ × ℕ × ℕ
given offers =
    let s = store_after nothing_held offers in (s.whole, length s.parts, s.without_rest, s.that_differ)

-- the payload of these
abbrev pub sent : List ℕ
sent = 0 ∷ 1 ∷ 2 ∷ 3 ∷ 4 ∷ 5 ∷ 6 ∷ 7 ∷ 8 ∷ 9 ∷ 10 ∷ 11 ∷ 12 ∷ 13 ∷ 14 ∷ 15 ∷ 16 ∷ 17 ∷ []
