-- Which packets of recordings are looked at.
use Rattle.std.specs.Prelude.{ℕ, ◌==◌, ◌&&◌, ◌||◌, Bool, true, false, List, Option, Some, None}
use Rattle.std.specs.List.{list_any}
use Rattle.recording.specs.Captured.{RecordValue}
use Rattle.recording.specs.Packets.{inner_vlan, outer_vlan}

-- the numbers of interfaces and the VLAN IDs, if they are named, and the nanoseconds after a packet within which an
-- equal one is a copy, if copies are left out
pub record ChosenValue : Type 0 where
  pub interfaces : Option (List ℕ)
  pub vlans : Option (List ℕ)
  pub window : Option ℕ

-- none are named, and copies are left in
abbrev pub all_packets : ChosenValue
all_packets = record { interfaces = None; vlans = None; window = None }

-- the packet is of one of the interfaces; where none are named each is
abbrev pub is_of_interface : Option (List ℕ) → RecordValue → Bool
is_of_interface None r = true
is_of_interface (Some interfaces) r = list_any (λ n. n == r.interface) interfaces

-- there is a VLAN ID, and it is one of these
abbrev pub is_among : List ℕ → Option ℕ → Bool
is_among vlans None = false
is_among vlans (Some vlan) = list_any (λ v. v == vlan) vlans

-- one of the packet's two VLAN IDs is named; where none are each packet is chosen
abbrev pub has_vlan : Option (List ℕ) → RecordValue → Bool
has_vlan None r = true
has_vlan (Some vlans) r = is_among vlans (outer_vlan r.link r.bytes) || is_among vlans (inner_vlan r.link r.bytes)

abbrev pub is_chosen : ChosenValue → RecordValue → Bool
is_chosen c r = is_of_interface c.interfaces r && has_vlan c.vlans r
