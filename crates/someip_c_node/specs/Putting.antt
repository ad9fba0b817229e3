-- Texts at the front of a buffer.
use Rattle.std.specs.declared.alloc.Global.{Global}
use Rattle.std.specs.Prelude.{◌≡◌, ◌≤◌, ◌<◌, ◌++◌, ℕ, List, length, drop, string_bytes, String, Result, Ok, Err}
use Rattle.std.specs.Global.{Vec}
use Rattle.someip_c_node.specs.declared.outcome.Outcome.{Outcome}
use Rattle.someip_c_node.specs.declared.outcome.Outcome.TheVariants.{Done, BufferTooSmall}

-- a text goes to the front of a buffer if it fits, and how many bytes it has is told, whether it fits or not
abbrev pub PutsText : List ℕ → List ℕ → Outcome → List ℕ → ℕ → Type 0
PutsText text space outcome bytes told =
    (told ≡ length text)
    × ((length text ≤ length space → (outcome ≡ Done) × (bytes ≡ text ++ drop (length text) space))
    × (length space < length text → (outcome ≡ BufferTooSmall) × (bytes ≡ space)))

-- a text that was made is put so. Where there is none that is told, and else nothing changes
abbrev pub Puts : Result (String Global) Outcome → List ℕ → ℕ → Outcome → List ℕ → ℕ → Type 0
Puts (Ok text) space before outcome bytes told = PutsText (string_bytes text) space outcome bytes told
Puts (Err refusal) space before outcome bytes told = (outcome ≡ refusal) × ((bytes ≡ space) × (told ≡ before))

-- some text of which this holds was put so, or why there is none was told
abbrev pub PutsMade : (Result (String Global) Outcome → Type 0) → List ℕ → ℕ → Outcome → List ℕ → ℕ → Type 0
PutsMade IsMade space before outcome bytes told = (made : Result (String Global) Outcome) × (IsMade made × Puts made space before outcome bytes told)

-- the same of bytes
abbrev pub PutsBytes : Result (Vec ℕ) Outcome → List ℕ → ℕ → Outcome → List ℕ → ℕ → Type 0
PutsBytes (Ok made) space before outcome bytes told = PutsText made.items space outcome bytes told
PutsBytes (Err refusal) space before outcome bytes told = (outcome ≡ refusal) × ((bytes ≡ space) × (told ≡ before))

abbrev pub PutsMadeBytes : (Result (Vec ℕ) Outcome → Type 0) → List ℕ → ℕ → Outcome → List ℕ → ℕ → Type 0
PutsMadeBytes IsMade space before outcome bytes told = (made : Result (Vec ℕ) Outcome) × (IsMade made × PutsBytes made space before outcome bytes told)
