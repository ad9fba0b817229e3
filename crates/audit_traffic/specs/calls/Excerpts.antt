-- What is kept of a payload.
use Rattle.std.specs.Prelude.{ℕ, ◌==◌, nat_eq, Bool, ◌&&◌, List, ◌++◌, length, take, replicate}
use Rattle.audit_traffic.specs.declared.calls.excerpt.Excerpt.{Excerpt}
use lib.Pointwise.{pointwise}

-- the length of a payload, and its first 64 bytes with zeros after a shorter one
abbrev pub excerpt_of : List ℕ → Excerpt
excerpt_of payload = record { size = length payload; first = take 64 (payload ++ replicate 64 0) }

-- the same length and the same first 64 bytes
abbrev pub same_excerpt : Excerpt → Excerpt → Bool
same_excerpt a b = (a.size == b.size) && pointwise nat_eq a.first b.first
