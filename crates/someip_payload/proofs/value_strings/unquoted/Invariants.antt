use Rattle.std.proofs.Common.{◌≡◌, ◌-◌, length}
use Rattle.someip_payload.specs.ReadValues.{unquoted}
use Rattle.someip_payload.proofs.ValueTokens.{bytes_after}
use Rattle.someip_payload.proofs.value_strings.unquoted.Given as goal

abbrev pub invariant-loop : goal.invariant-loop
invariant-loop l = bytes_after l.bytes.items (unquoted (length l.text - l.counter) l.left) ≡ unquoted (length l.text) l.text
