-- What is done at the place of a node, and at that of a liar.
use Rattle.std.proofs.Common.{◌≡◌, ℕ, Bool, true, false, if◌then◌else◌, List, length, Ok, Err, refl, ap, ◌∙◌}
use Rattle.std.specs.Prelude.{nat_lt}
use Rattle.std.specs.declared.net.ipv4_addr.Ipv4Addr.{Ipv4Addr}
use Rattle.std.specs.declared.net.socket_addr.SocketAddrV4.{SocketAddrV4}
use Rattle.someip_node_rules.specs.forms.GoodConfigs.{is_good_delay}
use Rattle.someip_node_rules.specs.histories.History.{History}
use Rattle.someip_node_rules.specs.rules.Inputs as inputs
use Rattle.someip_node_rules.specs.rules.Inputs.{Input}
use Rattle.someip_node_rules.specs.declared.config.Config.{Config}
use Rattle.someip_world_schedule.specs.declared.step.Step.{Step}
use Rattle.someip_world_schedule.specs.declared.step.Step.TheVariants as steps
use Rattle.someip_world_setup.specs.declared.setup_node.SetupNode.{SetupNode}
use Rattle.someip_world_rules.specs.Datagrams.{SentDatagram, datagram_at}
use Rattle.someip_world_rules.specs.Deeds.{Deed, Takes, Restarts, Injects, datagram_limit, deed_at, deed_of, delivery, is_addressed, liar_deed}
use Rattle.someip_world_rules.specs.Liars.{is_liar_at}
use Rattle.someip_world_rules.specs.Turns.{Turn}
use Rattle.someip_world_rules.specs.declared.line.Line.{Line}
use Rattle.someip_world_rules.specs.declared.step_fault.StepFault.{StepFault}
use Rattle.someip_world_rules.specs.declared.step_fault.StepFault.TheVariants.{BadDelay, ClockPast, IsLiar, NotAddressed, PayloadTooLong}
use Rattle.std.specs.Prelude.{Option, None, Some}

-- ---- what a liar does

-- it sends bytes from its address, as a step says
pub record LiarSends (address : Ipv4Addr) (s : Step) (deed : Deed) : Type 0 where
  pub node : List ℕ
  pub port : ℕ
  pub to : SocketAddrV4
  pub bytes : List ℕ
  pub says : s ≡ steps.Inject node port to bytes
  pub short : nat_lt datagram_limit (length bytes) ≡ false
  pub is : deed ≡ Injects (record { ip = address; port = port }) to bytes

pub liar_sends : (address : Ipv4Addr) (s : Step) (deed : Deed) → liar_deed address s ≡ Ok deed → LiarSends address s deed
liar_sends address (steps.Inject node port to bytes) deed is = cases (nat_lt datagram_limit (length bytes)) refl is
  where
    cases : (long : Bool) → nat_lt datagram_limit (length bytes) ≡ long → (if long then Err PayloadTooLong else Ok (Injects (record { ip = address; port = port }) to bytes)) ≡ Ok deed
        → LiarSends address (steps.Inject node port to bytes) deed
    cases true e due = absurd cc
    cases false e due = record { node = node; port = port; to = to; bytes = bytes; says = refl; short = e; is = cc }
liar_sends address s deed is = absurd cc

-- ---- what a node does

unless_taken : (b : Bool) (fault : StepFault) (input : Input) (from to : SocketAddrV4) (bytes : List ℕ) → (if b then Err fault else Ok (Takes input)) ≡ Ok (Injects from to bytes) → ⊥
unless_taken true fault input from to bytes is = absurd cc
unless_taken false fault input from to bytes is = absurd cc

unless_delivered : (config : Config) (d : Option SentDatagram) (from to : SocketAddrV4) (bytes : List ℕ) → delivery config d ≡ Ok (Injects from to bytes) → ⊥
unless_delivered config None from to bytes is = absurd cc
unless_delivered config (Some d) from to bytes is = cases (is_addressed config d) is
  where
    cases : (b : Bool) → (if b then Ok (Takes (inputs.Datagram d.from d.to d.bytes)) else Err NotAddressed) ≡ Ok (Injects from to bytes) → ⊥
    cases true e = absurd cc
    cases false e = absurd cc

unless_restarted : (b : Bool) (delay : ℕ) (from to : SocketAddrV4) (bytes : List ℕ) → (if b then Ok (Restarts delay) else Err BadDelay) ≡ Ok (Injects from to bytes) → ⊥
unless_restarted true delay from to bytes is = absurd cc
unless_restarted false delay from to bytes is = absurd cc

-- it sends no bytes but those of its rules
nodes_inject_nothing : (h : History) (lines : List Line) (s : Step) (from to : SocketAddrV4) (bytes : List ℕ) → deed_of h lines s ≡ Ok (Injects from to bytes) → ⊥
nodes_inject_nothing h lines (steps.Tick node ms) from to bytes is = unless_taken _ ClockPast (inputs.Tick ms) from to bytes is
nodes_inject_nothing h lines (steps.Deliver number node) from to bytes is = unless_delivered h.config (datagram_at lines number) from to bytes is
nodes_inject_nothing h lines (steps.Call node kind instance method payload) from to bytes is = unless_taken _ PayloadTooLong (inputs.Call kind instance method payload) from to bytes is
nodes_inject_nothing h lines (steps.Answer node token reply payload) from to bytes is = unless_taken _ PayloadTooLong (inputs.Answer token reply payload) from to bytes is
nodes_inject_nothing h lines (steps.Publish node instance event payload) from to bytes is = unless_taken _ PayloadTooLong (inputs.Publish instance event payload) from to bytes is
nodes_inject_nothing h lines (steps.PublishTo node group endpoint event payload) from to bytes is =
    unless_taken _ PayloadTooLong (inputs.PublishTo group.instance group.id endpoint event payload) from to bytes is
nodes_inject_nothing h lines (steps.Subscribe node group) from to bytes is = absurd cc
nodes_inject_nothing h lines (steps.Unsubscribe node group) from to bytes is = absurd cc
nodes_inject_nothing h lines (steps.StopOffer node instance) from to bytes is = absurd cc
nodes_inject_nothing h lines (steps.Restart node delay) from to bytes is = unless_restarted (is_good_delay h.config delay) delay from to bytes is
nodes_inject_nothing h lines (steps.Inject node port endpoint payload) from to bytes is = absurd cc

-- ---- what is done at a place

module _ (h : History) (lines : List Line) (s : Step) where
  -- an input is taken by a node, as its step says
  pub honest_due : (liar : Bool) (input : Input) → deed_at liar h lines s ≡ Ok (Takes input) → (liar ≡ false) × (deed_of h lines s ≡ Ok (Takes input))
  honest_due false input is = (refl, is)
  honest_due true input is = let sent = (liar_sends h.config.address s (Takes input) is).is in absurd cc

  -- and so is it started again
  pub honest_again : (liar : Bool) (delay : ℕ) → deed_at liar h lines s ≡ Ok (Restarts delay) → (liar ≡ false) × (deed_of h lines s ≡ Ok (Restarts delay))
  honest_again false delay is = (refl, is)
  honest_again true delay is = let sent = (liar_sends h.config.address s (Restarts delay) is).is in absurd cc

  -- any bytes are sent by a liar, from its address
  pub lying_due : (liar : Bool) (from to : SocketAddrV4) (bytes : List ℕ) → deed_at liar h lines s ≡ Ok (Injects from to bytes)
      → (liar ≡ true) × LiarSends h.config.address s (Injects from to bytes)
  lying_due true from to bytes is = (refl, liar_sends h.config.address s (Injects from to bytes) is)
  lying_due false from to bytes is = absurd (nodes_inject_nothing h lines s from to bytes is)

  -- a step that a liar may not do is done by a node
  pub by_node : (liar : Bool) (deed : Deed) → liar_deed h.config.address s ≡ Err IsLiar → deed_at liar h lines s ≡ Ok deed → deed_of h lines s ≡ Ok deed
  by_node false deed refused is = is
  by_node true deed refused is = absurd cc

-- ---- the steps of a run

module _ (nodes : List SetupNode) (configs : List Config) (ss : List Step) (i : ℕ) (s : Step) (t : Turn nodes configs ss i s) where
  pub taken_at : (input : Input) → t.deed ≡ Takes input → (is_liar_at nodes t.place ≡ false) × (deed_of t.history t.before.lines s ≡ Ok (Takes input))
  taken_at input is = honest_due t.history t.before.lines s (is_liar_at nodes t.place) input (t.due ∙ ap Ok is)

  pub again_at : (delay : ℕ) → t.deed ≡ Restarts delay → (is_liar_at nodes t.place ≡ false) × (deed_of t.history t.before.lines s ≡ Ok (Restarts delay))
  again_at delay is = honest_again t.history t.before.lines s (is_liar_at nodes t.place) delay (t.due ∙ ap Ok is)

  pub injected_at : (from to : SocketAddrV4) (bytes : List ℕ) → t.deed ≡ Injects from to bytes
      → (is_liar_at nodes t.place ≡ true) × LiarSends t.history.config.address s (Injects from to bytes)
  injected_at from to bytes is = lying_due t.history t.before.lines s (is_liar_at nodes t.place) from to bytes (t.due ∙ ap Ok is)
