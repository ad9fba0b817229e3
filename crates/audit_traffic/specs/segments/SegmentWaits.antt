-- Until when messages that have come in part wait for their segments.
use Rattle.std.specs.Prelude.{◌≡◌, ℕ, ◌+◌, nat_le, if◌then◌else◌, Option, None, Some}
use Rattle.std.specs.FinMap as finite
use Rattle.std.specs.FinMap.{FinMap}
use Rattle.someip_reassembly.specs.declared.key.ReassemblyKey.{ReassemblyKey}
use Rattle.someip_reassembly.specs.Parts.{Limits, Part, Parts, parts_at}
use Rattle.audit_traffic.specs.declared.segments.waiting.Waiting.{Waiting}
use Rattle.audit_traffic.specs.segments.MessageKeys.{message_cmp, message_key}

-- the moment that a message waits for
abbrev pub waits_of : Waiting → Option ℕ
waits_of waiting = Some waiting.until

-- what is known of messages that have come in part
abbrev pub WaitTable : Type 0
WaitTable = FinMap message_cmp Waiting

-- until when the part of a message stands, if one does
abbrev pub part_until : ℕ → Option Part → Option ℕ
part_until timeout None = None
part_until timeout (Some part) = Some (part.last + timeout)

-- until when a message waits, unless that moment has come
abbrev pub still_until : ℕ → Option Waiting → Option ℕ
still_until now None = None
still_until now (Some waiting) = if nat_le waiting.until now then None else Some waiting.until

-- the table knows the timeout of each part that stands at a moment, and no others that are still to come
abbrev pub Agrees : Limits → ℕ → Parts → WaitTable → Type 0
Agrees limits now parts waiting =
    (key : ReassemblyKey) → part_until limits.timeout (finite.get (parts_at limits now parts) key) ≡ still_until now (finite.get waiting (message_key key))
