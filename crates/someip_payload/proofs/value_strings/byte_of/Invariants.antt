use Rattle.std.proofs.Common.{◌≡◌, drop}
use Rattle.someip_payload.specs.ReadValues.{byte_of}
use Rattle.someip_payload.proofs.ValueTokens.{as_words}
use Rattle.someip_payload.proofs.value_strings.byte_of.Given as goal

abbrev pub invariant-loop-word : goal.invariant-loop-word
invariant-loop-word l = byte_of (as_words (drop l.word-index l.words)) l.text ≡ byte_of (as_words l.words) l.text
