-- What is kept of a life after a step that a node refuses, or in which a liar sends.
use Rattle.std.proofs.Common.{◌≡◌, ℕ, suc, Bool, true, false, if◌then◌else◌, List, Option, None, Some, Ok, Err, refl, sym, subst, ◌∙◌}
use Rattle.std.specs.declared.net.socket_addr.SocketAddrV4.{SocketAddrV4}
use Rattle.someip_wire.specs.Spelling.{MessageValue}
use Rattle.someip_reassembly.specs.declared.key.ReassemblyKey.{ReassemblyKey}
use Rattle.someip_node_rules.specs.histories.History.{History}
use Rattle.someip_node_rules.specs.rules.Inputs as inputs
use Rattle.someip_node_rules.specs.rules.Inputs.{Input}
use Rattle.someip_node_rules.specs.steps.Steps.{step}
use Rattle.someip_node_rules.specs.declared.config.Config.{Config}
use Rattle.someip_node_rules.specs.declared.error.NodeError.{NodeError}
use Rattle.someip_world_schedule.specs.declared.step.Step.{Step}
use Rattle.someip_world_schedule.specs.declared.step.Step.TheVariants as steps
use Rattle.someip_world_setup.specs.declared.setup_node.SetupNode.{SetupNode}
use Rattle.someip_world_rules.specs.Datagrams.{SentDatagram, datagram_at}
use Rattle.someip_world_rules.specs.Deeds.{Deed, Takes, Restarts, Injects, delivery, is_addressed}
use Rattle.someip_world_rules.specs.declared.step_fault.StepFault.TheVariants.{NotAddressed}
use Rattle.someip_world_rules.specs.Liars.{is_liar_at}
use Rattle.someip_world_rules.specs.Turns.{Turn}
use Rattle.someip_world_rules.specs.exchanges.CleanReuse.{Arrives}
use Rattle.someip_world_rules.specs.Deliveries.{Delivers, Does, Restarted}
use Rattle.someip_world_rules.proofs.Deliverings.{one_turn}
use Rattle.someip_world_rules.proofs.LiarLemmas.{by_node}
use Rattle.someip_world_verdict.specs.Books.{LifeKept, PayloadNumbers}
use Rattle.someip_world_verdict.proofs.InjectedSteps.{injection_does_nothing, injection_no_restart}
use Rattle.someip_world_verdict.proofs.Kept.{KeepsLife, PayloadsGrow}
use Rattle.someip_world_verdict.proofs.lives.LifeSpans.{quiet_life}

-- ---- a delivery is taken as a datagram, which is never refused

-- a deed that is no refused input
abbrev IsTaken : History → Deed → Type 0
IsTaken h (Takes input) = (refusal : NodeError) → step h input ≡ Err refusal → ⊥
IsTaken h (Restarts delay) = ⊥
IsTaken h (Injects from to bytes) = ⊥

if_addressed : (h : History) (d : SentDatagram) (deed : Deed) (b : Bool) → (if b then Ok (Takes (inputs.Datagram d.from d.to d.bytes)) else Err NotAddressed) ≡ Ok deed → IsTaken h deed
if_addressed h d deed true is = let same : Takes (inputs.Datagram d.from d.to d.bytes) ≡ deed = cc in subst (IsTaken h) same (λ refusal refused. absurd cc)
if_addressed h d deed false is = absurd cc

delivered : (h : History) (deed : Deed) (o : Option SentDatagram) → delivery h.config o ≡ Ok deed → IsTaken h deed
delivered h deed None is = absurd cc
delivered h deed (Some d) is = if_addressed h d deed (is_addressed h.config d) is

module _ (nodes : List SetupNode) (configs : List Config) (ss : List Step) (n : ℕ) where
  delivery_taken : (sent : ℕ) (d : SentDatagram) (del : Delivers nodes configs ss n sent d) → IsTaken del.turn.history del.turn.deed
  delivery_taken sent d del =
      let t = del.turn in
      delivered t.history t.deed (datagram_at t.before.lines del.number)
      (by_node t.history t.before.lines (steps.Deliver del.number del.node) (is_liar_at nodes t.place) t.deed refl t.due)

  module _ (s : Step) (t : Turn nodes configs ss n s) (input : Input) (is : t.deed ≡ Takes input) (refusal : NodeError) (refused : step t.history input ≡ Err refusal) where
    -- nothing is done
    pub refused_does_nothing : Does nodes configs ss n → ⊥
    refused_does_nothing does =
        let one = one_turn nodes configs ss n s t does.step does.turn in
        let takes = does.takes in
        let deed = one.deed in
        let history = one.history in
        let happened = does.happened in
        let deeds : Takes input ≡ Takes does.input = sym is ∙ deed ∙ takes in
        let same : input ≡ does.input = cc in
        let both : Err refusal ≡ Ok does.done = sym refused ∙ (λ i. step (history i) (same i)) ∙ happened in
        absurd cc

    -- no node is started again
    refused_no_restart : Restarted nodes configs ss n t.place → ⊥
    refused_no_restart r =
        let one = one_turn nodes configs ss n s t r.step r.turn in
        let deed = one.deed in
        let restarts = r.restarts in
        let both : Takes input ≡ Restarts r.delay = sym is ∙ deed ∙ restarts in
        absurd cc

    -- no segment comes
    refused_no_arrival : (now : ℕ) (m : MessageValue) (key : ReassemblyKey) → Arrives nodes configs ss n t.place now m key → ⊥
    refused_no_arrival now m key a =
        let one = one_turn nodes configs ss n s t _ a.delivers.turn in
        let taken = delivery_taken a.sent a.datagram a.delivers in
        let here = subst (λ (p : History × Deed). IsTaken p.0 p.1) (λ i. (sym one.history i, (sym one.deed ∙ is) i)) taken in
        here refusal refused

    -- so what is kept stays
    pub refused_life : (payloads more : PayloadNumbers) → PayloadsGrow payloads more → (life : LifeKept)
        → KeepsLife nodes configs ss payloads n t.place t.history life → KeepsLife nodes configs ss more (suc n) t.place t.history life
    refused_life payloads more grow life kept =
        quiet_life nodes configs ss n t.place payloads more grow refused_no_restart refused_no_arrival (λ token up. refused_does_nothing up.does) t.history life kept

  module _ (s : Step) (t : Turn nodes configs ss n s) (from to : SocketAddrV4) (bytes : List ℕ) (is : t.deed ≡ Injects from to bytes) where
    -- nor does one come where a liar sends
    injection_no_arrival : (now : ℕ) (m : MessageValue) (key : ReassemblyKey) → Arrives nodes configs ss n t.place now m key → ⊥
    injection_no_arrival now m key a =
        let one = one_turn nodes configs ss n s t _ a.delivers.turn in
        let taken = delivery_taken a.sent a.datagram a.delivers in
        subst (λ (p : History × Deed). IsTaken p.0 p.1) (λ i. (sym one.history i, (sym one.deed ∙ is) i)) taken

    -- so what is kept stays
    pub injection_life : (payloads : PayloadNumbers) (life : LifeKept)
        → KeepsLife nodes configs ss payloads n t.place t.history life → KeepsLife nodes configs ss payloads (suc n) t.place t.history life
    injection_life payloads life kept =
        quiet_life nodes configs ss n t.place payloads payloads (λ payload number is. is) (injection_no_restart nodes configs ss n s t from to bytes is t.place) injection_no_arrival
        (λ token up. injection_does_nothing nodes configs ss n s t from to bytes is up.does) t.history life kept
