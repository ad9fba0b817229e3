-- A long message carries the payload of the input by which it is sent: an ERROR that a node sends of itself has none.
use Rattle.std.proofs.Common.{◌≡◌, true, false, Some, ap, sym, ◌∙◌}
use Rattle.std.specs.declared.net.socket_addr.SocketAddrV4.{SocketAddrV4}
use Rattle.someip_wire.specs.Spelling.{MessageValue}
use Rattle.someip_reassembly.specs.Sent.{is_long}
use Rattle.someip_node_rules.specs.histories.History.{History, answers_of}
use Rattle.someip_node_rules.specs.rules.Inputs.{Input}
use Rattle.someip_node_rules.specs.trails.Meanings.{GivenBy}
use Rattle.someip_node_rules.specs.forms.Outputs as outputs
use Rattle.someip_node_rules.specs.rules.Plans as plans
use Rattle.someip_node_rules.specs.rules.Plans.{Rule}
use Rattle.someip_node_rules.specs.trails.SendingRules.{IsSent}
use Rattle.someip_node_rules.specs.histories.Tables.{Tables}
use Rattle.someip_world_rules.specs.exchanges.Payloads.{payload_in}
use Rattle.someip_world_rules.proofs.about_exchanges.openings.RuleInputs.{AskedBy, done_asked}

module _ (input : Input) (t : Tables) (from to : SocketAddrV4) (m : MessageValue) (long : is_long m.payload ≡ true) where
  payload_of : (r : Rule) → AskedBy r input → IsSent r t from to m → payload_in input ≡ Some m.payload
  payload_of (plans.Calls kind instance method payload) asked s = ap payload_in asked ∙ ap (λ (x : MessageValue). Some x.payload) (sym s.is)
  payload_of (plans.Answers token reply payload) asked s = ap payload_in asked ∙ ap (λ (x : MessageValue). Some x.payload) (sym s.is)
  payload_of (plans.Publishes instance event payload) asked s = ap payload_in asked ∙ ap (λ (x : MessageValue). Some x.payload) (sym s.is)
  payload_of (plans.PublishesTo instance endpoint event payload) asked s = ap payload_in asked.1 ∙ ap (λ (x : MessageValue). Some x.payload) (sym s.is)
  payload_of (plans.TakesRequest instance peer header payload) asked s =
      let short : is_long m.payload ≡ false = ap (λ (x : MessageValue). is_long x.payload) s.is in absurd cc
  payload_of r asked s = absurd s

-- the payload of a long message is that of the input
pub long_payload : (h : History) (input : Input) (from to : SocketAddrV4) (m : MessageValue) → GivenBy h input (outputs.Sends from to m)
    → is_long m.payload ≡ true → payload_in input ≡ Some m.payload
long_payload h input from to m by long =
    payload_of input (answers_of by.done.before.state) from to m long by.done.by (done_asked h input _ by) by.holds
