-- The steps in which a liar sends: no node does anything in them, and no liar sends in any other.
use Rattle.std.proofs.Common.{◌≡◌, ℕ, true, false, List, Ok, refl, sym, ap, ◌∙◌}
use Rattle.std.specs.declared.net.socket_addr.SocketAddrV4.{SocketAddrV4}
use Rattle.someip_node_rules.specs.histories.History.{History}
use Rattle.someip_node_rules.specs.rules.Inputs.{Input}
use Rattle.someip_node_rules.specs.declared.config.Config.{Config}
use Rattle.someip_world_schedule.specs.declared.step.Step.{Step}
use Rattle.someip_world_schedule.specs.declared.step.Step.TheVariants as steps
use Rattle.someip_world_setup.specs.declared.setup_node.SetupNode.{SetupNode}
use Rattle.someip_world_rules.specs.Datagrams.{SentDatagram}
use Rattle.someip_world_rules.specs.Deeds.{Deed, Takes, Restarts, Injects, deed_of}
use Rattle.someip_world_rules.specs.Deliveries.{Does, IsInjected, Restarted}
use Rattle.someip_world_rules.specs.Turns.{Turn}
use Rattle.someip_world_rules.specs.declared.line.Line.{Line}
use Rattle.someip_world_rules.proofs.Deliverings.{one_turn}
use Rattle.someip_world_rules.proofs.LiarLemmas.{again_at, injected_at, taken_at}
use Rattle.someip_world_verdict.specs.Booking.{is_injection}

-- what a node does is no injection
node_injects_none : (h : History) (lines : List Line) (deed : Deed) (s : Step) → deed_of h lines s ≡ Ok deed → is_injection s ≡ false
node_injects_none h lines deed (steps.Inject node port to payload) is = absurd cc
node_injects_none h lines deed s is = refl

module _ (nodes : List SetupNode) (configs : List Config) (ss : List Step) (n : ℕ) (s : Step) (t : Turn nodes configs ss n s) where
  pub taken_no_injection : (input : Input) → t.deed ≡ Takes input → is_injection s ≡ false
  taken_no_injection input is = node_injects_none t.history t.before.lines (Takes input) s (taken_at nodes configs ss n s t input is).1

  pub restart_no_injection : (delay : ℕ) → t.deed ≡ Restarts delay → is_injection s ≡ false
  restart_no_injection delay is = node_injects_none t.history t.before.lines (Restarts delay) s (again_at nodes configs ss n s t delay is).1

  -- a step in which a liar sends is one
  pub injects_so : (from to : SocketAddrV4) (bytes : List ℕ) → t.deed ≡ Injects from to bytes → is_injection s ≡ true
  injects_so from to bytes is = let sends = (injected_at nodes configs ss n s t from to bytes is).1 in ap is_injection sends.says

  -- at whichever turn it is looked at
  pub injected_so : (d : SentDatagram) → IsInjected nodes configs ss n d → is_injection s ≡ true
  injected_so d injected =
      let one = one_turn nodes configs ss n s t injected.step injected.turn in
      let sends = (injected_at nodes configs ss n injected.step injected.turn d.from d.to d.bytes injected.injects).1 in
      ap is_injection (one.step ∙ sends.says)

  module _ (from to : SocketAddrV4) (bytes : List ℕ) (is : t.deed ≡ Injects from to bytes) where
    -- no node does anything in it
    pub injection_does_nothing : Does nodes configs ss n → ⊥
    injection_does_nothing does =
        let one = one_turn nodes configs ss n s t does.step does.turn in
        let takes = does.takes in
        let deed = one.deed in
        let both : Injects from to bytes ≡ Takes does.input = sym is ∙ deed ∙ takes in
        absurd cc

    -- none is started again
    pub injection_no_restart : (place : ℕ) → Restarted nodes configs ss n place → ⊥
    injection_no_restart place r =
        let one = one_turn nodes configs ss n s t r.step r.turn in
        let restarts = r.restarts in
        let deed = one.deed in
        let both : Injects from to bytes ≡ Restarts r.delay = sym is ∙ deed ∙ restarts in
        absurd cc
