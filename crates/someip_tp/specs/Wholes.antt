-- What a whole message is, and what bounds the parts.
use Rattle.std.specs.Prelude.{◌≡◌, ℕ, ◌<◌, ◌≤◌, List, length, slice_get, Some, IsSome}
use Rattle.std.specs.FinMap.{get, len}
use Rattle.someip_reassembly.specs.declared.key.ReassemblyKey.{ReassemblyKey}
use Rattle.someip_reassembly.specs.Parts.{Limits, Part, Parts}

-- the part holds exactly the bytes of this message, and knows its total
abbrev pub IsWhole : Part → List ℕ → Type 0
IsWhole part message = (part.total ≡ Some (length message)) × ((place : ℕ) → get part.bytes place ≡ slice_get message place)

-- there are no more parts than slots, and none holds a byte at or past the message limit
abbrev pub IsWithin : Limits → Parts → Type 0
IsWithin limits parts = (len parts ≤ limits.slots)
    × ((key : ReassemblyKey) (part : Part) (place : ℕ) → get parts key ≡ Some part → IsSome (get part.bytes place) → place < limits.limit)
