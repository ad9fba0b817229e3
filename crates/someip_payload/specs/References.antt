-- Names that a text refers to.
use Rattle.std.specs.Prelude.{◌≡◌, ℕ, ◌<◌, ◌≤◌, ⊤, List, [], ◌∷◌, ◌++◌, length, true}
use Rattle.someip_payload_values.specs.Check.{is_name}

-- no byte of the text is an `@`
abbrev pub HasNoSign : List ℕ → Type 0
HasNoSign [] = ⊤
HasNoSign (b ∷ rest) = (b ≡ 64 → ⊥) × HasNoSign rest

-- the name is the longest at the front of the text, or there is none and it is empty
abbrev pub IsLongestName : List ℕ → List ℕ → Type 0
IsLongestName text n = ((rest : List ℕ) × (text ≡ n ++ rest)) × (0 < length n → is_name n ≡ true)
    × ((m rest : List ℕ) → text ≡ m ++ rest → is_name m ≡ true → length m ≤ length n)
