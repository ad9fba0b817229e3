-- The answer to a call that waits no longer is dropped.
use Rattle.std.proofs.Common.{◌≡◌, ℕ, None, refl, ap, ◌∙◌}
use Rattle.someip_node_rules.specs.declared.drops.DropReason.TheVariants as drop_reason
use Rattle.std.proofs.Common.{Bool, true, false, if◌then◌else◌, List, Some}
use Rattle.someip_node_rules.specs.histories.History.{answers_of}
use Rattle.std.proofs.Common.{◌&&◌, ◌==◌, not, Option}
use Rattle.std.specs.Option.{is_some}
use Rattle.std.specs.FinMap as finite
use Rattle.std.specs.declared.net.socket_addr.SocketAddrV4.{SocketAddrV4}
use Rattle.someip_tables.specs.declared.lasting.Lasting.{Lasting}
use Rattle.someip_tables.specs.Retained.{kept_if}
use Rattle.someip_tables.proofs.Entries.{get-retain}
use Rattle.someip_wire.specs.declared.header.Header.{Header}
use Rattle.someip_wire.specs.declared.header.MessageType.{MessageType}
use Rattle.someip_wire.specs.declared.header.MessageType.TheVariants.{Response}
use Rattle.someip_rpc.specs.declared.call.Awaited.{Awaited}
use Rattle.someip_rpc.specs.declared.error.DropCause.{DropCause}
use Rattle.someip_rpc.specs.declared.error.DropCause.TheVariants.{NotPending, WrongType}
use Rattle.someip_rpc.specs.Answers.{answered_call, is_answer_to_a_call, is_answer_type, is_awaited, may_have_code}
use Rattle.someip_rpc.specs.IdOrder.{calls_total, exact_calls}
use Rattle.someip_node_rules.specs.histories.History.{History}
use Rattle.someip_node_rules.specs.steps.Lives.{is_waiting}
use Rattle.someip_node_rules.specs.rules.Messages.{answer_by}
use Rattle.someip_node_rules.specs.rules.Outcomes.{dropped}
use Rattle.someip_node_rules.specs.rules.Plans.{rule, TakesAnswer}
use Rattle.someip_node_rules.specs.histories.Tables.{waiting_calls}

pub late_dropped : (h : History) (from : SocketAddrV4) (header : Header) (payload : List ℕ) → header.kind ≡ Response → is_waiting h.config h.items (answered_call header) ≡ false
    → rule (TakesAnswer from header payload) (answers_of h) ≡ dropped (drop_reason.Answer NotPending)
late_dropped h from header payload kind late =
    let live = waiting_calls (answers_of h) in
    let none : finite.get live (answered_call header) ≡ None = get-retain calls_total exact_calls (answers_of h).client.pending _ (answered_call header) ∙ gone _ (finite.get (answers_of h).client.pending (answered_call header)) late in
    ap (λ (k : MessageType). answer_by header payload (drop_if (is_answer_type k) (is_answer_to_a_call h.config.client_id from header live))) kind
    ∙ ap (λ v. answer_by header payload (drop_if true (may_have_code header.kind header.code.0 && (header.client == h.config.client_id) && is_awaited from header.interface v))) none
    ∙ ap (λ b. answer_by header payload (drop_if true b)) (nothing (may_have_code header.kind header.code.0) (header.client == h.config.client_id))
  where
    drop_if : Bool → Bool → Option DropCause
    drop_if answers waits = if not answers then Some WrongType else if waits then None else Some NotPending

    gone : (p : Lasting Awaited → Bool) (v : Option (Lasting Awaited)) → is_some v ≡ false → kept_if p v ≡ None
    gone p None late = refl
    gone p (Some x) late = absurd (cc)

    nothing : (a b : Bool) → (a && b && false) ≡ false
    nothing true true = refl
    nothing true false = refl
    nothing false b = refl
