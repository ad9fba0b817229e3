-- What is handed up came with a datagram.
use Rattle.std.proofs.Common.{◌≡◌, ℕ, Bool, true, false, List, Option, Ok, refl, ap, subst, ◌∙◌, inl, inr}
use Rattle.std.specs.List.{Contains}
use Rattle.someip_wire.specs.declared.header.ReturnCode.{ReturnCode}
use Rattle.sd_core.specs.declared.keys.InstanceId.{InstanceId}
use Rattle.someip_rpc.specs.declared.ids.MessageId.{MessageId}
use Rattle.someip_node_rules.specs.declared.output.Output.{Output}
use Rattle.someip_node_rules.specs.declared.output.Output.TheVariants as output
use Rattle.someip_node_rules.specs.trails.Bringing.{Brings, OfDatagram}
use Rattle.someip_node_laws.specs.HandUps.{AnswerCame, EventCame, RequestCame}
use Rattle.someip_node_rules.specs.histories.History.{History, answers_of}
use Rattle.someip_node_rules.specs.rules.Inputs.{Input, Datagram, Tick, Call, Answer, Publish, PublishTo, Subscribe, Unsubscribe, StopOffer}
use Rattle.someip_node_rules.specs.trails.Meanings.{GivenBy, IsAnswer, IsEvent}
use Rattle.someip_node_rules.specs.forms.Outputs.{Tells}
use Rattle.someip_node_rules.specs.trails.Packets.{Packet}
use Rattle.someip_node_rules.specs.rules.Plans.{Rule, TakesAnswer, TakesEvent, TakesRequest, Work}
use Rattle.someip_node_rules.specs.steps.Steps.{step}
use Rattle.someip_node_rules.specs.trails.Trails.{Done, given_by, trail_of}
use Rattle.someip_node_rules.proofs.trails.MeaningLemmas.{all_given, is_sent, outputs_written, told_from_output}
use Rattle.someip_node_rules.proofs.lists.MemberLemmas.{at_member}

-- a message is taken by this rule
abbrev takes_message : Rule → Bool
takes_message (TakesRequest instance from header payload) = true
takes_message (TakesAnswer from header payload) = true
takes_message (TakesEvent from header payload) = true
takes_message r = false

abbrev IsDatagram : History → Input → Rule → List Done → Type 0
IsDatagram h input r earlier = (p : Packet) × (input ≡ Datagram p.from p.to p.bytes) × OfDatagram h p r earlier

-- such a rule is brought about by a datagram alone
module _ (h : History) (r : Rule) (earlier : List Done) (takes : takes_message r ≡ true) where
  other : (q : Rule) → takes_message q ≡ false → r ≡ q → ⊥
  other q none is = let same = ap takes_message is in absurd (cc)

  of_datagram : (input : Input) → Brings h input r earlier → IsDatagram h input r earlier
  of_datagram (Datagram from to bytes) b = (record { from = from; to = to; bytes = bytes }, refl, b)
  of_datagram (Tick ms) (inl b) = absurd (other _ refl b.0)
  of_datagram (Tick ms) (inr b) = absurd (other _ refl b.1)
  of_datagram (Call kind instance method payload) b = absurd (other _ refl b.0)
  of_datagram (Answer token reply payload) b = absurd (other _ refl b.0)
  of_datagram (Publish instance event payload) b = absurd (other _ refl b.0)
  of_datagram (PublishTo instance eventgroup endpoint event payload) b = absurd (other _ refl b.0)
  of_datagram (Subscribe eventgroup) (inl b) = absurd (other _ refl b.0)
  of_datagram (Subscribe eventgroup) (inr b) = absurd (other _ refl b.2)
  of_datagram (Unsubscribe eventgroup) (inl b) = absurd (other _ refl b)
  of_datagram (Unsubscribe eventgroup) (inr b) = absurd (other _ refl b.2)
  of_datagram (StopOffer instance) (inl b) = absurd (other _ refl b)
  of_datagram (StopOffer instance) (inr b) = absurd (other _ refl b.0)

module _ (h : History) (input : Input) (done : Work History) (is : step h input ≡ Ok done) where
  -- what was told of it
  told : (o : Output) → Contains done.outputs o → is_sent o ≡ false → GivenBy h input (Tells o)
  told o stands tells =
      at_member (GivenBy h input) (given_by (trail_of h input)) (Tells o) (all_given h input)
      (told_from_output (given_by (trail_of h input)) o (subst (λ os. Contains os o) (outputs_written h input done is) stands) tells)

  pub request_came : (token : Option ℕ) (instance : InstanceId) (method : ℕ) (payload : List ℕ)
      → Contains done.outputs (output.Request token instance method payload) → RequestCame h input token instance method payload
  request_came token instance method payload stands =
      let g : GivenBy h input (Tells (output.Request token instance method payload)) = told _ stands refl in
      let d : IsDatagram h input (TakesRequest instance g.holds.0 g.holds.1 payload) g.brought.earlier = of_datagram h _ g.brought.earlier refl input (subst (λ r. Brings h input r g.brought.earlier) g.holds.2 g.brought.brings) in
      record {
        packet = d.0;
        is = d.1;
        arrived = d.2.1;
        header = g.holds.1;
        done = g.done;
        earlier = g.brought.earlier;
        later = g.brought.later;
        trail = g.brought.trail;
        takes = g.holds.2 ∙ ap (λ from. TakesRequest instance from g.holds.1 payload) d.2.0;
        came = d.2.2;
        taken = g.holds.3;
      }

  pub answer_came : (message : MessageId) (session : ℕ) (code : ReturnCode) (payload : List ℕ)
      → Contains done.outputs (output.Answered message session code payload) → AnswerCame h input message session code payload
  answer_came message session code payload stands =
      let g : GivenBy h input (Tells (output.Answered message session code payload)) = told _ stands refl in
      let d : IsDatagram h input (TakesAnswer g.holds.0 g.holds.1 payload) g.brought.earlier = of_datagram h _ g.brought.earlier refl input (subst (λ r. Brings h input r g.brought.earlier) g.holds.2 g.brought.brings) in
      record {
        packet = d.0;
        is = d.1;
        arrived = d.2.1;
        header = g.holds.1;
        done = g.done;
        earlier = g.brought.earlier;
        later = g.brought.later;
        trail = g.brought.trail;
        takes = g.holds.2 ∙ ap (λ from. TakesAnswer from g.holds.1 payload) d.2.0;
        came = d.2.2;
        taken = subst (λ from. IsAnswer from g.holds.1 (answers_of g.done.before.state) message session code) d.2.0 g.holds.3;
      }

  pub event_came : (instance : InstanceId) (event : ℕ) (payload : List ℕ)
      → Contains done.outputs (output.Event instance event payload) → EventCame h input instance event payload
  event_came instance event payload stands =
      let g : GivenBy h input (Tells (output.Event instance event payload)) = told _ stands refl in
      let d : IsDatagram h input (TakesEvent g.holds.0 g.holds.1 payload) g.brought.earlier = of_datagram h _ g.brought.earlier refl input (subst (λ r. Brings h input r g.brought.earlier) g.holds.2 g.brought.brings) in
      record {
        packet = d.0;
        is = d.1;
        arrived = d.2.1;
        header = g.holds.1;
        done = g.done;
        earlier = g.brought.earlier;
        later = g.brought.later;
        trail = g.brought.trail;
        takes = g.holds.2 ∙ ap (λ from. TakesEvent from g.holds.1 payload) d.2.0;
        came = d.2.3;
        taken = (d.2.2, subst (λ from. IsEvent from g.holds.1 (answers_of g.done.before.state) instance event) d.2.0 g.holds.3);
      }
