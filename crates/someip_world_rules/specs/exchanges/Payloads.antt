-- The payload that the application gives with an input.
use Rattle.std.specs.Prelude.{ℕ, List, Option, None, Some}
use Rattle.someip_node_rules.specs.rules.Inputs.{Input, Answer, Call, Publish, PublishTo}

-- a call, an answer and a publication have one, and no other input has
abbrev pub payload_in : Input → Option (List ℕ)
payload_in (Call kind instance method payload) = Some payload
payload_in (Answer token reply payload) = Some payload
payload_in (Publish instance event payload) = Some payload
payload_in (PublishTo instance eventgroup endpoint event payload) = Some payload
payload_in input = None
