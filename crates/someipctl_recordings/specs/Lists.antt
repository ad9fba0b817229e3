-- The addresses that a text names.
use Rattle.std.specs.Prelude.{◌≡◌, ⊤, ℕ, List, [], ◌∷◌, ◌++◌}
use Rattle.std.specs.Int.{w32, from_be_bytes}
use Rattle.std.specs.Net.Grammar.{IsIpv4Text}
use Rattle.std.specs.declared.net.ipv4_addr.Ipv4Addr.{Ipv4Addr}

-- a word writes an IPv4 address, and this is its number, the highest byte first
abbrev pub IsAddress : List ℕ → ℕ → Type 0
IsAddress word n = (a : Ipv4Addr) × IsIpv4Text word a × (n ≡ from_be_bytes w32 a.octets)

-- the words write addresses, and these are their numbers in order
abbrev pub AreAddresses : List (List ℕ) → List ℕ → Type 0
AreAddresses [] [] = ⊤
AreAddresses [] (n ∷ numbers) = ⊥
AreAddresses (word ∷ words) [] = ⊥
AreAddresses (word ∷ words) (n ∷ numbers) = IsAddress word n × AreAddresses words numbers

-- one of the words writes none
abbrev pub HasNoAddress : List (List ℕ) → Type 0
HasNoAddress words = (front : List (List ℕ)) × (word : List ℕ) × (back : List (List ℕ)) × (words ≡ front ++ word ∷ back) × ((n : ℕ) → IsAddress word n → ⊥)
