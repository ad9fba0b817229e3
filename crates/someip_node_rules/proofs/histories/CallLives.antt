-- What waits for its answer, and the sessions and tokens that were given, as each item changes them.
use Rattle.std.proofs.Common.{◌≡◌, ℕ, ◌+◌, List, ◌∷◌, refl, arith}
use Rattle.std.specs.List.{flat_map}
use Rattle.std.specs.Cmp.{nat_cmp_total}
use Rattle.std.specs.FinMap.{insert, remove}
use Rattle.std.proofs.lemmas.Map.Lookups.{exact_unsigned}
use Rattle.std.specs.declared.net.socket_addr.SocketAddrV4.{SocketAddrV4}
use Rattle.someip_tables.specs.declared.lasting.Lasting.{Lasting}
use Rattle.someip_tables.specs.Lastings.{unexpired, unless_passed}
use Rattle.someip_rpc.specs.declared.call.Awaited.{Awaited}
use Rattle.someip_rpc.specs.declared.call.Call.{Call}
use Rattle.someip_rpc.specs.declared.call.CallKind.{CallKind}
use Rattle.someip_rpc.specs.declared.call.CallKind.TheVariants.{Request, RequestNoReturn}
use Rattle.someip_rpc.specs.declared.ids.CallKey.{CallKey}
use Rattle.someip_rpc.specs.declared.ids.EventId.{EventId}
use Rattle.someip_rpc.specs.declared.request.Asked.{Asked}
use Rattle.someip_rpc.specs.Calls.{called, pending_after}
use Rattle.someip_rpc.specs.IdOrder.{calls_total, exact_calls, events_total, exact_events, messages_total, exact_messages}
use Rattle.someip_tables.specs.Sessions.{session_after_last}
use Rattle.someip_rpc.specs.Sessions.{next_of, session_after}
use Rattle.someip_node_rules.specs.declared.config.Config.{Config}
use Rattle.someip_node_rules.specs.histories.Items.{Item, AnswerTaken, Answered, Called, Published, Requested, Ticked}
use Rattle.someip_node_rules.specs.histories.CallQuestions.{awaited_at, awaited_from, call_made, call_sessions_in, called_by, client_in, event_published, event_sessions_in, call_key, message_called, next_token, pending_in, requests_in, server_in, tokens_in}
use Rattle.someip_node_rules.specs.histories.Questions.{clock_at, table_of}
use Rattle.someip_node_rules.specs.forms.Setups.{client_rules}
use Rattle.someip_node_rules.proofs.lists.CountLemmas.{table-counted}
use Rattle.someip_node_rules.proofs.histories.QuestionLemmas.{lasting-ticked, lasting-insert, lasting-remove, table-insert, table-remove}

-- ---- calls

module _ (config : Config) (items : List Item) where
  pub pending_ticked : (ms : ℕ) → pending_in config (clock_at items + ms) (Ticked ms ∷ items) ≡ unexpired (clock_at items + ms) (pending_in config (clock_at items) items)
  pending_ticked ms =
      lasting-ticked calls_total exact_calls (flat_map call_made items) (awaited_at config items) (clock_at items) (clock_at items + ms) (omega arith)

  pub pending_answered : (key : CallKey) → pending_in config (clock_at items) (AnswerTaken key ∷ items) ≡ remove (pending_in config (clock_at items) items) key
  pending_answered key = lasting-remove calls_total exact_calls (flat_map call_made items) (awaited_at config items) (clock_at items) key

  pub client_called : (call : Call) (peer : SocketAddrV4) (session : ℕ)
      → client_in config (Called call peer session ∷ items) ≡ called (client_rules config) call peer session (clock_at items) (client_in config items)
  client_called call peer session = λ i. record { pending = pending call.kind i; sessions = sessions i }
    where
      key : CallKey
      key = call_key call session

      awaited : Lasting Awaited
      awaited = awaited_from config call peer (clock_at items)

      pending : (kind : CallKind)
          → table_of (flat_map call_made (Called (record call { kind = kind }) peer session ∷ items)) (λ q. unless_passed (clock_at items) (called_by kind key awaited q (awaited_at config items q)))
          ≡ pending_after kind key awaited.value (clock_at items + config.common.call_timeout_ms) (clock_at items) (pending_in config (clock_at items) items)
      pending Request = lasting-insert calls_total exact_calls (flat_map call_made items) (awaited_at config items) (clock_at items) key awaited
      pending RequestNoReturn = refl

      sessions : call_sessions_in (Called call peer session ∷ items) ≡ insert (call_sessions_in items) call.message session
      sessions = table-insert messages_total exact_messages (flat_map message_called items) _ _ call.message session (λ q. refl)

-- ---- requests

module _ (items : List Item) where
  pub server_requested : (request : Asked) → server_in (Requested request ∷ items)
      ≡ record (server_in items) { requests = insert (requests_in items) (next_token items) request; next = next_token items + 1 }
  server_requested request = λ i. record { requests = requests i; next = next i; sessions = event_sessions_in items }
    where
      requests : requests_in (Requested request ∷ items) ≡ insert (requests_in items) (next_token items) request
      requests = table-insert nat_cmp_total exact_unsigned (tokens_in items) _ _ (next_token items) request (λ q. refl)

      next : next_token (Requested request ∷ items) ≡ next_token items + 1
      next = omega arith

  pub requests_answered : (token : ℕ) → requests_in (Answered token ∷ items) ≡ remove (requests_in items) token
  requests_answered token = table-remove nat_cmp_total exact_unsigned (tokens_in items) _ _ token (λ q. refl)

-- ---- events

pub events_published : (items : List Item) (event : EventId) → event_sessions_in (Published event ∷ items) ≡ insert (event_sessions_in items) event (next_of (event_sessions_in items) event)
events_published items event =
    table-counted events_total exact_events (λ n. session_after n 0) session_after_last (flat_map event_published items) event refl (λ n. refl)
