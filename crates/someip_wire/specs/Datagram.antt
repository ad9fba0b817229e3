-- What a datagram is: messages, one after the other, and an end.
use Rattle.std.specs.Prelude.{ℕ, ◌+◌, ◌≤◌, ◌≡◌, ◌≢◌, List, [], ◌∷◌, ◌++◌, length, Option, Some, None, Result, Ok, Err}
use Rattle.std.specs.List.{flat_map, AllByRecursion}
use Rattle.someip_wire.specs.declared.error.WireError.{WireError}
use Rattle.someip_wire.specs.Spelling.{MessageValue, Fits, spelling}
use Rattle.someip_wire.specs.Faults.{fault_at, fault_place}

-- how the rest after the last message ends the datagram: without a fault nothing is left, and a fault is
-- that of a rest which is not empty
abbrev pub EndsAt : ℕ → List ℕ → Option WireError → Type 0
EndsAt p rest None = rest ≡ []
EndsAt p rest (Some fault) = (rest ≢ []) × (fault_at p rest ≡ Some fault)

-- the bytes from place p of a datagram on are the spellings of the messages in order, and then a rest that ends them
pub record AreMessages (p : ℕ) (messages : List MessageValue) (end : Option WireError) (bytes : List ℕ) : Type 0 where
  pub rest : List ℕ
  pub parts : bytes ≡ flat_map spelling messages ++ rest
  pub each : AllByRecursion Fits messages
  pub ends : EndsAt (p + length (flat_map spelling messages)) rest end

-- the bytes of a datagram are these messages and this end
abbrev pub Datagram : List MessageValue → Option WireError → List ℕ → Type 0
Datagram messages end bytes = AreMessages 0 messages end bytes

-- messages and an end as one list
abbrev pub items : List MessageValue → Option WireError → List (Result MessageValue WireError)
items [] None = []
items [] (Some fault) = Err fault ∷ []
items (m ∷ messages) end = Ok m ∷ items messages end

-- an item lies within a datagram of n bytes: the header and the payload of a message have n bytes at most, and a
-- fault is at most at its end
abbrev pub LiesWithin : ℕ → Result MessageValue WireError → Type 0
LiesWithin n (Ok m) = 16 + length m.payload ≤ n
LiesWithin n (Err fault) = fault_place fault ≤ n
