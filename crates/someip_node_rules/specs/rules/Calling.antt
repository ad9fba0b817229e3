-- The rules of calls (SOME/IP Protocol, "Request/Response Communication").
use Rattle.std.specs.Prelude.{ℕ, zero, suc, if◌then◌else◌, List, [], ◌∷◌, length, Option}
use Rattle.std.specs.Option.{option_map_or}
use Rattle.std.specs.FinMap as finite
use Rattle.std.specs.declared.net.socket_addr.SocketAddrV4.{SocketAddrV4}
use Rattle.sd_core.specs.declared.keys.InstanceId.{InstanceId}
use Rattle.someip_rpc.specs.declared.call.Call.{Call}
use Rattle.someip_rpc.specs.declared.call.CallKind.{CallKind}
use Rattle.someip_rpc.specs.declared.ids.MessageId.{MessageId}
use Rattle.someip_rpc.specs.Calls.{Pending, call_header, call_refusal, is_pending}
use Rattle.someip_tables.specs.Sessions.{next_session}
use Rattle.someip_rpc.specs.Sessions.{next_of}
use Rattle.someip_node_rules.specs.declared.config.Config.{Config}
use Rattle.someip_node_rules.specs.declared.error.NodeError.{NodeError}
use Rattle.someip_node_rules.specs.declared.output.Output.TheVariants.{Called as CallOutput}
use Rattle.someip_node_rules.specs.histories.Items.{Called}
use Rattle.someip_node_rules.specs.rules.Outcomes.{Outcome, nothing}
use Rattle.someip_node_rules.specs.forms.Outputs.{Sends, Tells}
use Rattle.someip_node_rules.specs.forms.Setups.{client_endpoint, client_rules, wanted_as}
use Rattle.someip_node_rules.specs.histories.Tables.{Tables, known_endpoint, waiting_calls}
use Rattle.someip_node_rules.specs.rules.Errors.{as_node_error}

-- the major version in which an instance is wanted
abbrev pub wanted_major : Config → InstanceId → ℕ
wanted_major config instance = option_map_or (λ want. want.major) (wanted_as config instance) 0

-- what is called: the method, in the wanted major version
abbrev pub call_of : CallKind → InstanceId → ℕ → Tables → Call
call_of kind instance method t = record {
  kind = kind;
  message = record { service = instance.service; method = method };
  interface = wanted_major t.config instance;
}

-- the first session from one on, in cyclic order, that does not wait, of so many
abbrev pub first_free_of : ℕ → Pending → MessageId → ℕ → ℕ
first_free_of zero pending message session = session
first_free_of (suc n) pending message session =
    if is_pending pending message session then first_free_of n pending message (next_session session) else session

-- the first that does not wait: one of as many as wait, or the one after them
unfoldable pub first_free : Pending → MessageId → ℕ → ℕ
first_free pending message session = first_free_of (finite.len pending) pending message session

-- the session of a call
abbrev pub session_of : Call → Tables → ℕ
session_of call t = first_free (waiting_calls t) call.message (next_of t.client.sessions call.message)

-- why a call of a kind with so many bytes is refused
abbrev pub call_refusal_of : CallKind → InstanceId → ℕ → Tables → Option NodeError
call_refusal_of kind instance size t =
    as_node_error (call_refusal (client_rules t.config) kind size (known_endpoint t instance) (waiting_calls t))

-- why a call with a payload is refused, if it is
abbrev pub calling_refusal : CallKind → InstanceId → List ℕ → Tables → Option NodeError
calling_refusal kind instance payload t = call_refusal_of kind instance (length payload) t

-- a call at an endpoint, with the next session that does not wait: it tells that session, and then its message goes out
abbrev pub calls_at : Call → List ℕ → SocketAddrV4 → Tables → Outcome
calls_at call payload peer t = record {
  items = Called call peer (session_of call t) ∷ [];
  given =
      Tells (CallOutput call.message (session_of call t))
      ∷ Sends (client_endpoint t.config) peer (record { header = call_header t.config.client_id call (session_of call t); payload = payload }) ∷ [];
  replies = [];
}

-- a method of an instance is called, at the endpoint of its known offer
abbrev pub calls : CallKind → InstanceId → ℕ → List ℕ → Tables → Outcome
calls kind instance method payload t =
    option_map_or (λ peer. calls_at (call_of kind instance method t) payload peer t) (known_endpoint t instance) nothing
