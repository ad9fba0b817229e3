-- No call of a node is refused as what its starts alone can be refused as, nor as what no core answers.
use Rattle.std.proofs.Common.{◌≡◌, Bool, true, false, if◌then◌else◌, Option, None, Some, Result, Ok, Err, refl, ap, ◌∙◌, ℕ, length}
use Rattle.std.specs.Prelude.{IfErr}
use Rattle.std.specs.Global.{Vec}
use Rattle.std.specs.Option.{option_map_or}
use Rattle.std.specs.declared.net.socket_addr.SocketAddrV4.{SocketAddrV4}
use Rattle.std.specs.FinMap as finite
use Rattle.someip_rpc.specs.Calls.{Pending, call_refusal}
use Rattle.someip_rpc.specs.declared.call.CallKind.{CallKind}
use Rattle.someip_rpc.specs.declared.call.ClientRules.{ClientRules}
use Rattle.someip_rpc.specs.declared.request.Asked.{Asked}
use Rattle.someip_rpc.specs.declared.request.Reply.{Reply}
use Rattle.someip_rpc.specs.Servers.{answer_refusal}
use Rattle.someip_rpc.specs.declared.error.RpcError.{RpcError}
use Rattle.someip_rpc.specs.declared.error.RpcError.TheVariants.{BadErrorCode, Busy, NotOffered, NotSubscribed, TooLong, UnknownEvent}
use Rattle.someip_node_rules.specs.rules.Errors.{as_node_error}
use Rattle.someip_node_rules.specs.rules.Inputs.{Input, Answer, Call, Datagram, Publish, PublishTo, StopOffer, Subscribe, Tick, Unsubscribe, refusal_of}
use Rattle.someip_node_rules.specs.forms.Setups.{client_rules, is_wanted_eventgroup, offered_as}
use Rattle.someip_node_rules.specs.histories.Tables.{Tables, is_up, known_endpoint, waiting_calls}
use Rattle.someip_node_rules.specs.declared.config.OfferedService.{OfferedService}
use Rattle.someip_node_rules.specs.declared.error.NodeError.{NodeError}
use Rattle.someip_node_rules.specs.declared.error.NodeError.TheVariants.{ClockPast, NotWanted, Rpc}
use Rattle.someip_node_rules.specs.declared.output.Output.{Output}
use Rattle.someip_node_engine.specs.Handled.{Handled, or_no_memory}
use Rattle.someip_node_engine.specs.declared.outputs.Giving.{Giving}
use Rattle.someip_node.specs.Finishings.{given_or_error}
use Rattle.someip_node.specs.Refusals.{is_call_refusal, is_rpc_refusal}

-- a core refuses as a call may be refused, if it does
abbrev is_core_fine : Option RpcError → Bool
is_core_fine refusal = option_map_or is_rpc_refusal refusal true

abbrev is_fine : Option NodeError → Bool
is_fine refusal = option_map_or is_call_refusal refusal true

-- ---- the cores

call_tests : (long full : Bool) → is_core_fine (if long then Some TooLong else if full then Some Busy else None) ≡ true
call_tests true full = refl
call_tests false true = refl
call_tests false false = refl

publish_tests : (up has long : Bool) → is_core_fine (if up then Some NotOffered else if has then Some UnknownEvent else if long then Some TooLong else None) ≡ true
publish_tests true has long = refl
publish_tests false true long = refl
publish_tests false false true = refl
publish_tests false false false = refl

publish_to_tests : (up has long live : Bool)
    → is_core_fine (if up then Some NotOffered else if has then Some UnknownEvent else if long then Some TooLong else if live then Some NotSubscribed else None) ≡ true
publish_to_tests true has long live = refl
publish_to_tests false true long live = refl
publish_to_tests false false true live = refl
publish_to_tests false false false true = refl
publish_to_tests false false false false = refl

answer_tests : (bad long : Bool) → is_core_fine (if bad then Some BadErrorCode else if long then Some TooLong else None) ≡ true
answer_tests true long = refl
answer_tests false true = refl
answer_tests false false = refl

-- ---- a node

core_fine : (refusal : Option RpcError) → is_core_fine refusal ≡ true → is_fine (as_node_error refusal) ≡ true
core_fine None fine = refl
core_fine (Some refusal) fine = fine

call_fine : (rules : ClientRules) (kind : CallKind) (size : ℕ) (peer : Option SocketAddrV4) (live : Pending) → is_core_fine (call_refusal rules kind size peer live) ≡ true
call_fine rules kind size None live = refl
call_fine rules kind size (Some peer) live = call_tests _ _

answer_fine : (limit : ℕ) (reply : Reply) (size : ℕ) (request : Option Asked) → is_core_fine (answer_refusal limit reply size request) ≡ true
answer_fine limit reply size None = refl
answer_fine limit reply size (Some request) = answer_tests _ _

offered_fine : (f : OfferedService → Option RpcError) → ((s : OfferedService) → is_core_fine (f s) ≡ true) → (service : Option OfferedService)
    → is_fine (option_map_or (λ s. as_node_error (f s)) service (Some (Rpc NotOffered))) ≡ true
offered_fine f each None = refl
offered_fine f each (Some service) = core_fine (f service) (each service)

unless_fine : (b : Bool) (error : NodeError) → is_call_refusal error ≡ true → is_fine (if b then None else Some error) ≡ true
unless_fine true error fine = refl
unless_fine false error fine = fine

tick_fine : (b : Bool) → is_fine (if b then Some ClockPast else None) ≡ true
tick_fine true = refl
tick_fine false = refl

refusal_fine : (input : Input) (t : Tables) → is_fine (refusal_of input t) ≡ true
refusal_fine (Datagram from to bytes) t = refl
refusal_fine (Tick ms) t = tick_fine _
refusal_fine (Call kind instance method payload) t = core_fine _ (call_fine (client_rules t.config) kind (length payload) (known_endpoint t instance) (waiting_calls t))
refusal_fine (Answer token reply payload) t = core_fine _ (answer_fine t.config.common.message_limit reply (length payload) (finite.get t.server.requests token))
refusal_fine (Publish instance event payload) t = offered_fine _ (λ s. publish_tests _ _ _) (offered_as t.config instance)
refusal_fine (PublishTo instance eventgroup endpoint event payload) t = offered_fine _ (λ s. publish_to_tests _ _ _ _) (offered_as t.config instance)
refusal_fine (Subscribe eventgroup) t = unless_fine (is_wanted_eventgroup t.config eventgroup) NotWanted refl
refusal_fine (Unsubscribe eventgroup) t = unless_fine (is_wanted_eventgroup t.config eventgroup) NotWanted refl
refusal_fine (StopOffer instance) t = unless_fine (is_up t instance) (Rpc NotOffered) refl

-- ---- a call of a node

or_memory_fine : (refusal : Option NodeError) → is_fine refusal ≡ true → is_call_refusal (or_no_memory refusal) ≡ true
or_memory_fine None fine = refl
or_memory_fine (Some refusal) fine = fine

-- what a call is refused as, once its tables took the input
pub call_refused : (input : Input) (done : Result (Unit {0}) NodeError) (before after : Giving) (old new : Tables) (result : Result (Vec Output) NodeError)
    → Handled input old before done new after → result ≡ given_or_error done after → IfErr result (λ error. is_call_refusal error ≡ true)
call_refused input (Ok _) before after old new result handled is = rw is tt
call_refused input (Err error) before after old new result handled is =
    rw is (ap is_call_refusal handled.0 ∙ or_memory_fine (refusal_of input old) (refusal_fine input old))
