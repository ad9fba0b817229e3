-- Which blocks of 16 places are held, and the intervals that they make.
use Rattle.std.specs.Prelude.{◌≡◌, ◌<◌, ◌≤◌, ◌+◌, ◌==◌, ℕ, Bool, true, false, List, slice_get, Some}
use Rattle.std.specs.Option.{option_map_or}
use Rattle.someip_tp.specs.declared.pool.block.Block.{Block}

-- a block is held for a message
abbrev pub is_held : ℕ → List Block → ℕ → Bool
is_held message blocks k = option_map_or (λ b. b.message == message) (slice_get blocks k) false

-- the other end, as a block tells it
abbrev pub other_end : List Block → ℕ → ℕ
other_end blocks k = option_map_or (λ b. b.other) (slice_get blocks k) 0

-- no block is held for a message after this one
abbrev pub AreUpTo : ℕ → List Block → Type 0
AreUpTo top blocks = (k : ℕ) (b : Block) → slice_get blocks k ≡ Some b → b.message ≤ top

-- an interval: the blocks from the first to the last are held, and those beside them are not
pub record IsInterval (held : ℕ → Bool) (first last : ℕ) : Type 0 where
  pub order : first ≤ last
  pub within : (k : ℕ) → first ≤ k → k ≤ last → held k ≡ true
  pub before : (k : ℕ) → k + 1 ≡ first → held k ≡ false
  pub after : held (last + 1) ≡ false

-- the two ends of each interval tell one another
abbrev pub AreTied : (ℕ → Bool) → (ℕ → ℕ) → Type 0
AreTied held other = (first last : ℕ) → IsInterval held first last → (other first ≡ last) × (other last ≡ first)

-- from this block on all are held up to a block, and none before
pub record IsFirstTo (held : ℕ → Bool) (k first : ℕ) : Type 0 where
  pub order : first ≤ k
  pub within : (j : ℕ) → first ≤ j → j < k → held j ≡ true
  pub before : (j : ℕ) → j + 1 ≡ first → held j ≡ false

-- after a block all are held up to this one, and none after
pub record IsLastFrom (held : ℕ → Bool) (k last : ℕ) : Type 0 where
  pub order : k ≤ last
  pub within : (j : ℕ) → k < j → j ≤ last → held j ≡ true
  pub after : held (last + 1) ≡ false
