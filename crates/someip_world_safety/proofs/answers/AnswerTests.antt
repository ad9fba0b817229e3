-- What the test of an answer says of the call that it answers.
use Rattle.std.proofs.Common.{◌≡◌, ℕ, Bool, true, false, not, ◌&&◌, eqb, if◌then◌else◌, Option, None, Some, refl, sym, ap, ◌∙◌}
use Rattle.std.specs.FinMap as finite
use Rattle.std.specs.Ordering.{eq_by_cmp}
use Rattle.std.specs.declared.net.socket_addr.SocketAddrV4.{SocketAddrV4}
use Rattle.std.proofs.lemmas.Bool.{and_parts, eqb-true}
use Rattle.someip_wire.specs.declared.header.Header.{Header}
use Rattle.someip_tables.specs.Deadlines.{has_passed}
use Rattle.someip_tables.specs.declared.lasting.Lasting.{Lasting}
use Rattle.someip_tables.specs.EndpointOrder.{exact_endpoints}
use Rattle.someip_tables.specs.Endpoints.{endpoint_cmp}
use Rattle.someip_tables.specs.Lastings.{unless_passed}
use Rattle.someip_tables.specs.Retained.{kept_if}
use Rattle.someip_tables.proofs.Entries.{same_by_test}
use Rattle.someip_tables.proofs.Expiry.{get-unexpired}
use Rattle.someip_rpc.specs.Answers.{answer_drop, answered_call, is_answer_to_a_call, is_answer_type, is_awaited, may_have_code}
use Rattle.someip_rpc.specs.Calls.{Pending}
use Rattle.someip_rpc.specs.IdOrder.{calls_total, exact_calls}
use Rattle.someip_rpc.specs.declared.call.Awaited.{Awaited}
use Rattle.someip_rpc.specs.declared.error.DropCause.TheVariants.{NotPending, WrongType}
use Rattle.someip_rpc.specs.declared.ids.CallKey.{CallKey}
use Rattle.someip_node_rules.specs.histories.CallQuestions.{awaited_at}
use Rattle.someip_node_rules.specs.histories.History.{History, answers_of}
use Rattle.someip_node_rules.specs.histories.Questions.{clock_at}
use Rattle.someip_node_rules.specs.histories.Tables.{waiting_calls}
use Rattle.someip_node_laws.proofs.histories.NamedLemmas.{get-pending}

-- ---- the test

-- an answer with a header came from an endpoint to a client, and a call waits for it there
pub record IsToACall (client : ℕ) (from : SocketAddrV4) (header : Header) (live : Pending) : Type 0 where
  pub kind : is_answer_type header.kind ≡ true
  pub named : header.client ≡ client
  pub lasting : Lasting Awaited
  pub waits : finite.get live (answered_call header) ≡ Some lasting
  pub peer : lasting.value.peer ≡ from

-- what is awaited waits for an answer from that endpoint
waits_there : (from : SocketAddrV4) (interface : ℕ) (o : Option (Lasting Awaited)) → is_awaited from interface o ≡ true
    → (l : Lasting Awaited) × (o ≡ Some l) × (l.value.peer ≡ from)
waits_there from interface None is = absurd cc
waits_there from interface (Some l) is =
    (l, refl, same_by_test exact_endpoints l.value.peer from (and_parts (eq_by_cmp endpoint_cmp l.value.peer from) (eqb l.value.interface interface) is).0)

-- what is not dropped is of the type of answers, and answers a call
not_dropped : (b c : Bool) → (if not b then Some WrongType else if c then None else Some NotPending) ≡ None → (b ≡ true) × (c ≡ true)
not_dropped true true is = (refl, refl)
not_dropped true false is = absurd cc
not_dropped false c is = absurd cc

-- a message that is not dropped is such an answer
pub to_a_call : (client : ℕ) (from : SocketAddrV4) (header : Header) (live : Pending) → answer_drop client from header live ≡ None → IsToACall client from header live
to_a_call client from header live is =
    let may : Bool = may_have_code header.kind header.code.0 in
    let named : Bool = eqb header.client client in
    let there : Bool = is_awaited from header.interface (finite.get live (answered_call header)) in
    let both = not_dropped (is_answer_type header.kind) (is_answer_to_a_call client from header live) is in
    let last = and_parts (may && named) there both.1 in
    let first = and_parts may named last.0 in
    let call = waits_there from header.interface (finite.get live (answered_call header)) last.1 in
    record {
      kind = both.0;
      named = eqb-true header.client client first.1;
      lasting = call.0;
      waits = call.1;
      peer = call.2;
    }

-- ---- the table

-- what is kept was there
kept_there : {X : Type 0} (p : X → Bool) (o : Option X) (x : X) → kept_if p o ≡ Some x → o ≡ Some x
kept_there p None x is = is
kept_there {X = X} p (Some y) x is = cases (p y) is
  where
    cases : (b : Bool) → (if b then Some y else None) ≡ Some x → Some y ≡ Some x
    cases true e = e
    cases false e = absurd cc

-- a call that the table of a history tells waits by that history
pub waits_by_history : (h : History) (key : CallKey) (l : Lasting Awaited) → finite.get (waiting_calls (answers_of h)) key ≡ Some l
    → awaited_at h.config h.items key ≡ Some l
waits_by_history h key l is =
    let now = clock_at h.items in
    let lasts : Lasting Awaited → Bool = λ lasting. not (has_passed now lasting.until) in
    let o = awaited_at h.config h.items key in
    let told : unless_passed now (unless_passed now o) ≡ Some l =
    ap (unless_passed now) (sym (get-pending h.config h.items key)) ∙ sym (get-unexpired calls_total exact_calls now (answers_of h).client.pending key) ∙ is
    in
    kept_there lasts o l (kept_there lasts (unless_passed now o) l told)
