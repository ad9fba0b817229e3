-- What is remembered of a recording, to tell a copy when it comes.
use Rattle.std.specs.Prelude.{ℕ, ◌+◌, ◌-◌, Bool, false, not, ◌&&◌, ◌||◌, ◌==◌, nat_lt, nat_le, if◌then◌else◌}
use Rattle.std.specs.Prelude.{List, [], ◌∷◌, ◌++◌, length, filter, sum_by}
use Rattle.std.specs.List.{list_any}
use Rattle.std.specs.Str.{bytes_eq}
use Rattle.recording.specs.Packets.{Ipv4Value}
use Rattle.recording_packets.specs.declared.copies.TheConstants.{BUDGET, PACKET_COST}

-- a packet, and the moment at which it was last seen
pub record SightingValue : Type 0 where
  pub moment : ℕ
  pub packet : Ipv4Value

-- two packets are the same: nothing tells them apart
abbrev pub is_same : Ipv4Value → Ipv4Value → Bool
is_same a b =
    a.identification == b.identification && a.fragment == b.fragment && a.protocol == b.protocol
    && bytes_eq a.payload b.payload && bytes_eq a.source b.source && bytes_eq a.destination b.destination

-- a moment lies at most the window before now
abbrev pub is_within : ℕ → ℕ → ℕ → Bool
is_within window now moment = nat_le (now - moment) window

-- a packet is a copy: the same was seen at most the window before
abbrev pub is_copy : ℕ → ℕ → Ipv4Value → List SightingValue → Bool
is_copy window now packet remembered =
    list_any (λ seen. is_same seen.packet packet && is_within window now seen.moment) remembered

-- all but this packet
abbrev pub others : Ipv4Value → List SightingValue → List SightingValue
others packet remembered = filter (λ seen. not (is_same seen.packet packet)) remembered

-- what a packet counts, in bytes: its payload, and what the tables take for it
abbrev pub packet_cost : Ipv4Value → ℕ
packet_cost packet = length packet.payload + PACKET_COST

-- what these count together
abbrev pub cost_of_all : List SightingValue → ℕ
cost_of_all remembered = sum_by (λ seen. packet_cost seen.packet) remembered

-- the oldest has to go: it can't matter any more, or all count more than the budget
abbrev pub has_to_go : ℕ → ℕ → List SightingValue → Bool
has_to_go window now [] = false
has_to_go window now (oldest ∷ later) =
    not (is_within window now oldest.moment) || nat_lt BUDGET (cost_of_all (oldest ∷ later))

-- the oldest go, as many as have to
abbrev pub kept : ℕ → ℕ → List SightingValue → List SightingValue
kept window now [] = []
kept window now (oldest ∷ later) =
    if has_to_go window now (oldest ∷ later) then kept window now later else oldest ∷ later

-- what is remembered after a packet: it is the youngest now
abbrev pub after : ℕ → ℕ → Ipv4Value → List SightingValue → List SightingValue
after window now packet remembered =
    kept window now (others packet remembered ++ record { moment = now; packet = packet } ∷ [])

-- the window, and what is remembered, the oldest first
pub record Memory : Type 0 where
  pub window : ℕ
  pub remembered : List SightingValue
