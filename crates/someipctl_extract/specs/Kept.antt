-- The packets with the fragments that are held of IPv4 packets.
use Rattle.std.specs.Prelude.{ℕ, ◌+◌, nat_lt, ◌==◌, ◌&&◌, Bool, false, suc, if◌then◌else◌, List, [], ◌∷◌, ◌++◌, length, filter, Option, Some, None, is_some, option_and_then, Result, Ok, Err}
use Rattle.std.specs.List.{sum_by}
use Rattle.recording.specs.declared.Skipped.{Skipped}
use Rattle.recording.specs.Captured.{RecordValue}
use Rattle.recording.specs.Packets.{Ipv4Value, ipv4_in, is_fragment}
use Rattle.recording_packets.specs.declared.fragments.HeldFragments.{HeldFragments}
use Rattle.recording_packets.specs.declared.fragments.PacketKey.{PacketKey}
use Rattle.recording_packets.specs.fragments.Parts.{Part, held_under}
use Rattle.recording_packets.specs.fragments.Pieces.{key_of, same_key}

-- ---- fragments

-- of which packet an IPv4 packet is a fragment, if it is one of UDP
abbrev pub key_by : Result Ipv4Value Skipped → Option PacketKey
key_by (Err skipped) = None
key_by (Ok p) = if p.protocol == 17 && is_fragment p then Some (key_of p) else None

-- the same of a packet as it was captured
abbrev pub fragment_key : RecordValue → Option PacketKey
fragment_key r = key_by (ipv4_in r.link r.bytes)

-- ---- what is kept

-- of an IPv4 packet the packets with the fragments that are held of it, unless they are too many
pub record PartValue : Type 0 where
  pub key : PacketKey
  pub packets : Option (List RecordValue)

-- what a packet counts: its bytes, and 128
abbrev pub cost_of : RecordValue → ℕ
cost_of r = length r.bytes + 128

-- of one IPv4 packet no more than 524,288 are kept
abbrev pub unless_too_many : List RecordValue → Option (List RecordValue)
unless_too_many ks = if nat_lt 524288 (sum_by cost_of ks) then None else Some ks

-- none are kept yet
abbrev pub begun : PacketKey → PartValue
begun key = record { key = key; packets = Some [] }

-- a packet more, behind those that are kept
abbrev pub joined : PartValue → RecordValue → PartValue
joined part r = record part { packets = option_and_then (λ ks. unless_too_many (ks ++ r ∷ [])) part.packets }

-- those of the IPv4 packet with this key; where none are kept, none
abbrev pub packets_under : PacketKey → List PartValue → Option (List RecordValue)
packets_under key [] = Some []
packets_under key (part ∷ kept) = if same_key key part.key then part.packets else packets_under key kept

-- all but those of that one
abbrev pub without : PacketKey → List PartValue → List PartValue
without key [] = []
without key (part ∷ kept) = if same_key key part.key then kept else part ∷ without key kept

-- with one more of that one: alone, where it is the first, and else behind those before it
abbrev pub put : PacketKey → Bool → RecordValue → List PartValue → List PartValue
put key is_first r [] = joined (begun key) r ∷ []
put key is_first r (part ∷ kept) =
    if same_key key part.key then joined (if is_first then begun key else part) r ∷ kept
    else part ∷ put key is_first r kept

-- where that one stands, or how many there are where it does not
abbrev pub place_of : PacketKey → List PartValue → ℕ
place_of key [] = 0
place_of key (part ∷ kept) = if same_key key part.key then 0 else suc (place_of key kept)

-- ---- what is kept after a packet

-- as many fragments are held as before, since the same moment
abbrev pub is_same : Option HeldFragments → HeldFragments → Bool
is_same None held = false
is_same (Some before) held = before.first == held.first && before.count == held.count

-- after a packet with a fragment of this IPv4 packet, by what is held of that before and after it: the packet is kept
-- where its fragment is held, and none is where nothing is held any longer
abbrev pub kept_by : PacketKey → (before after : Option HeldFragments) → RecordValue → List PartValue → List PartValue
kept_by key before None r kept = without key kept
kept_by key before (Some held) r kept = if is_same before held then kept else put key (held.count == 1) r kept

-- something is held of the IPv4 packet
abbrev pub is_held : List Part → PartValue → Bool
is_held parts part = is_some (held_under part.key parts)

-- of more than 128 IPv4 packets those stay that are held
abbrev pub cleaned : List Part → List PartValue → List PartValue
cleaned parts kept = if nat_lt 128 (length kept) then filter (is_held parts) kept else kept

-- after a packet, by the IPv4 packets that are held in part before and after it
abbrev pub kept_after : (before after : List Part) → Option PacketKey → RecordValue → List PartValue → List PartValue
kept_after before after None r kept = kept
kept_after before after (Some key) r kept =
    cleaned after (kept_by key (held_under key before) (held_under key after) r kept)
