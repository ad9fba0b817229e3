-- The rules of answers (SOME/IP Protocol, "Request/Response Communication").
use Rattle.std.specs.Prelude.{ℕ, List, [], ◌∷◌, length, Option}
use Rattle.std.specs.Option.{option_map_or}
use Rattle.std.specs.FinMap as finite
use Rattle.someip_rpc.specs.declared.request.Asked.{Asked}
use Rattle.someip_rpc.specs.declared.request.Reply.{Reply}
use Rattle.someip_rpc.specs.Requests.{answer_header}
use Rattle.someip_rpc.specs.Servers.{answer_refusal, code_of_reply, kind_of_reply}
use Rattle.someip_node_rules.specs.declared.error.NodeError.{NodeError}
use Rattle.someip_node_rules.specs.histories.Items.{Answered}
use Rattle.someip_node_rules.specs.rules.Outcomes.{Outcome, nothing}
use Rattle.someip_node_rules.specs.forms.Outputs.{Sends}
use Rattle.someip_node_rules.specs.histories.Tables.{Tables}
use Rattle.someip_node_rules.specs.rules.Errors.{as_node_error}

-- why the answer to the request of a token is refused, if it is
abbrev pub answering_refusal : ℕ → Reply → List ℕ → Tables → Option NodeError
answering_refusal token reply payload t =
    as_node_error (answer_refusal t.config.common.message_limit reply (length payload) (finite.get t.server.requests token))

-- the request of a token is answered: the message goes from the instance's endpoint to the one that asked
abbrev pub answers_request : ℕ → Reply → List ℕ → Asked → Outcome
answers_request token reply payload request = record {
  items = Answered token ∷ [];
  given =
      Sends request.endpoint request.peer (record { header = answer_header request (kind_of_reply reply) (code_of_reply reply); payload = payload }) ∷ [];
  replies = [];
}

-- the request of a token is answered, if it waits
abbrev pub answers : ℕ → Reply → List ℕ → Tables → Outcome
answers token reply payload t = option_map_or (answers_request token reply payload) (finite.get t.server.requests token) nothing
