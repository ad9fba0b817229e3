-- How entries are split into messages of at most 1400 bytes (our own choice).
use Rattle.std.specs.Prelude.{◌≡◌, ◌⊎◌, ℕ, ◌<◌, ◌≤◌, List, [], ◌∷◌, length, take, drop, false}
use Rattle.sd_wire.specs.contents.Values.{EntryValue, SdMessageValue}
use Rattle.sd_wire.specs.encoding.Writing.{WritesSd}

-- the entries as a message; its flags do not change its length
abbrev pub message_of_entries : List EntryValue → SdMessageValue
message_of_entries entries = record { flags = record { reboot = false; unicast = false }; entries = entries }

-- a message with these entries can be written, and has at most 1400 bytes
abbrev pub FitsDatagram : List EntryValue → Type 0
FitsDatagram entries = (text : List ℕ) × WritesSd (message_of_entries entries) text × (length text ≤ 1400)

-- the longest front that fits; where not even the first entry does, it is alone
pub record IsLongestFront (entries : List EntryValue) (n : ℕ) : Type 0 where
  pub some : 1 ≤ n
  pub within : n ≤ length entries
  pub fits : FitsDatagram (take n entries) ⊎ (n ≡ 1)
  pub longest : (m : ℕ) → n < m → m ≤ length entries → FitsDatagram (take m entries) → ⊥

-- the lengths of the longest fronts, one after the other
abbrev pub AreFronts : List EntryValue → List ℕ → Type 0
AreFronts entries [] = entries ≡ []
AreFronts entries (n ∷ lengths) = IsLongestFront entries n × AreFronts (drop n entries) lengths
