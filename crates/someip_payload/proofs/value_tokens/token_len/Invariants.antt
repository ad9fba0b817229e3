use Rattle.std.proofs.Common.{◌≡◌, ◌≤◌, ◌-◌, ◌++◌, length, take, drop}
use Rattle.someip_payload.specs.ReadValues.{token, past_token}
use Rattle.someip_payload.proofs.value_tokens.token_len.Given as goal

abbrev pub invariant-loop-len : goal.invariant-loop-len
invariant-loop-len l = (l.len ≤ length l.text) × (take l.len l.text ++ token (drop l.len l.text) ≡ token l.text) × (past_token (drop l.len l.text) ≡ past_token l.text)

abbrev pub decreases-loop-len : goal.decreases-loop-len
decreases-loop-len l = length l.text - l.len
