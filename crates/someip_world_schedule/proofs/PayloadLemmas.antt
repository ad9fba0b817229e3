-- The bytes of payloads.
use Rattle.std.proofs.Common.{ℕ, zero, suc, ◌<◌, List, [], ◌∷◌, ◌++◌, replicate}
use Rattle.someip_wire.specs.Spelling.{IsBytes}

-- bytes, and then one byte so many times
pub bytes_repeated : (xs : List ℕ) → IsBytes xs → (n b : ℕ) → b < 256 → IsBytes (xs ++ replicate n b)
bytes_repeated [] all zero b lt i = all i
bytes_repeated [] all (suc n) b lt zero = lt
bytes_repeated [] all (suc n) b lt (suc i) = bytes_repeated [] all n b lt i
bytes_repeated (x ∷ xs) all n b lt zero = all zero
bytes_repeated (x ∷ xs) all n b lt (suc i) = bytes_repeated xs (λ k. all (suc k)) n b lt i
