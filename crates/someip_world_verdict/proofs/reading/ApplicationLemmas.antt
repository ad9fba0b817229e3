-- No message that a well set up node sends is one of Service Discovery.
use Rattle.std.proofs.Common.{◌≡◌, ℕ, Bool, true, false, ◌&&◌, not, eqb, List, Some, refl, sym, ap, ◌∙◌}
use Rattle.std.proofs.lemmas.Bool.{eqb-true}
use Rattle.std.specs.declared.net.socket_addr.SocketAddrV4.{SocketAddrV4}
use Rattle.someip_wire.specs.Discovery.{is_discovery, is_notification}
use Rattle.someip_wire.specs.declared.header.Header.{Header}
use Rattle.someip_wire.specs.Spelling.{MessageValue}
use Rattle.sd_core.specs.declared.keys.InstanceId.{InstanceId}
use Rattle.someip_rpc.specs.declared.call.CallKind.{CallKind}
use Rattle.someip_rpc.specs.declared.call.CallKind.TheVariants as calls
use Rattle.someip_rpc.specs.declared.request.Reply.{Reply}
use Rattle.someip_rpc.specs.declared.request.Reply.TheVariants as replies
use Rattle.someip_rpc.specs.Calls.{kind_of_call}
use Rattle.someip_rpc.specs.Servers.{kind_of_reply}
use Rattle.someip_node_rules.specs.declared.config.Config.{Config}
use Rattle.someip_node_rules.specs.declared.config.OfferedService.{OfferedService}
use Rattle.someip_node_rules.specs.forms.GoodConfigs.{is_good}
use Rattle.someip_node_rules.specs.histories.History.{History, answers_of}
use Rattle.someip_node_rules.specs.rules.Inputs.{Input}
use Rattle.someip_node_rules.specs.trails.Meanings.{GivenBy}
use Rattle.someip_node_rules.specs.forms.Outputs.{Sends}
use Rattle.someip_node_rules.specs.rules.Plans as plans
use Rattle.someip_node_rules.specs.rules.Plans.{Rule}
use Rattle.someip_node_rules.specs.trails.SendingRules.{IsEventTo, IsSent}
use Rattle.someip_node_rules.specs.forms.Setups.{offered_as}
use Rattle.someip_node_rules.specs.histories.Tables.{Tables}
use Rattle.someip_node_rules.proofs.forms.GoodConfigParts as parts
use Rattle.someip_node_rules.proofs.rules.StepRules.{config_there}

-- ---- the services of a good configuration

module _ (config : Config) (good : is_good config ≡ true) (instance : InstanceId) (service : OfferedService) (offered : offered_as config instance ≡ Some service) where
  -- its Service ID is not that of Service Discovery
  other_service : eqb service.rules.service 0xFFFF ≡ true → ⊥
  other_service is = parts.other_service config (instance, service) (parts.offered_good config good instance service offered) (eqb-true service.rules.service 0xFFFF is)

-- ---- the messages that are sent

-- of another type
pub no_event : (h : Header) → is_notification h.kind ≡ false → is_discovery h ≡ false
no_event h is = cases (eqb h.service 0xFFFF) (eqb h.method 0x8100) (eqb h.interface 1) (is_notification h.kind) is
  where
    cases : (a b c d : Bool) → d ≡ false → (a && b && c && d) ≡ false
    cases true true true d e = e
    cases true true false d e = refl
    cases true false c d e = refl
    cases false b c d e = refl

-- of another service
no_service : (h : Header) → (eqb h.service 0xFFFF ≡ true → ⊥) → is_discovery h ≡ false
no_service h other = cases (eqb h.service 0xFFFF) (eqb h.method 0x8100) (eqb h.interface 1) (is_notification h.kind) other
  where
    cases : (a b c d : Bool) → (a ≡ true → ⊥) → (a && b && c && d) ≡ false
    cases true b c d not = absurd (not refl)
    cases false b c d not = refl

event_sent : (instance : InstanceId) (event : ℕ) (payload : List ℕ) (ToIs : OfferedService → Type 0) (t : Tables) (from : SocketAddrV4) (m : MessageValue)
    → is_good t.config ≡ true → IsEventTo instance event payload ToIs t from m → is_discovery m.header ≡ false
event_sent instance event payload ToIs t from m good s =
    no_service m.header (λ is. other_service t.config good instance s.service s.offered (ap (λ x. eqb x.header.service 0xFFFF) (sym s.is) ∙ is))

-- only events are Notifications, and they are of a service of the application
pub sent_by_application : (r : Rule) (t : Tables) (from to : SocketAddrV4) (m : MessageValue) → is_good t.config ≡ true → IsSent r t from to m → is_discovery m.header ≡ false
sent_by_application (plans.Calls kind instance method payload) t from to m good s =
    no_event m.header (ap (λ x. is_notification x.header.kind) s.is ∙ by kind)
  where
    by : (kind : CallKind) → is_notification (kind_of_call kind) ≡ false
    by calls.Request = refl
    by calls.RequestNoReturn = refl
sent_by_application (plans.Answers token reply payload) t from to m good s =
    no_event m.header (ap (λ x. is_notification x.header.kind) s.is ∙ by reply)
  where
    by : (reply : Reply) → is_notification (kind_of_reply reply) ≡ false
    by (replies.Response code) = refl
    by (replies.Error code) = refl
sent_by_application (plans.TakesRequest instance peer header payload) t from to m good s = no_event m.header (ap (λ x. is_notification x.header.kind) s.is)
sent_by_application (plans.Publishes instance event payload) t from to m good s = event_sent instance event payload _ t from m good s
sent_by_application (plans.PublishesTo instance endpoint event payload) t from to m good s = event_sent instance event payload _ t from m good s
sent_by_application r t from to m good s = absurd s

-- a message that was given is none of Service Discovery
pub given_by_application : (h : History) (input : Input) (from to : SocketAddrV4) (m : MessageValue) → is_good h.config ≡ true → GivenBy h input (Sends from to m)
    → is_discovery m.header ≡ false
given_by_application h input from to m good by =
    let there : is_good by.done.before.state.config ≡ true = ap is_good (config_there h input by.done by.among) ∙ good in
    sent_by_application by.done.by (answers_of by.done.before.state) from to m there by.holds
