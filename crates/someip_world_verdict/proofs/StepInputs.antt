-- Which input a step gives to its node.
use Rattle.std.proofs.Common.{◌≡◌, ℕ, ◌+◌, Bool, true, false, nat_lt, if◌then◌else◌, List, Option, None, Some, Ok, Err, refl, sym, ap}
use Rattle.someip_node_rules.specs.histories.History.{History}
use Rattle.someip_node_rules.specs.rules.Inputs as inputs
use Rattle.someip_node_rules.specs.rules.Inputs.{Input}
use Rattle.someip_node_rules.specs.histories.Questions.{clock_at}
use Rattle.someip_world_schedule.specs.declared.step.Step.{Step}
use Rattle.someip_world_schedule.specs.declared.step.Step.TheVariants as steps
use Rattle.someip_world_rules.specs.Datagrams.{SentDatagram, datagram_at}
use Rattle.someip_world_rules.specs.Deeds.{Takes, Restarts, clock_limit, deed_of, delivery, is_addressed}
use Rattle.someip_world_rules.specs.declared.line.Line.{Line}
use Rattle.someip_world_rules.specs.declared.step_fault.StepFault.{StepFault}
use Rattle.someip_world_rules.specs.exchanges.Payloads.{payload_in}
use Rattle.someip_world_verdict.specs.Booking.{payload_of}

-- what is done unless something speaks against it
unless : (b : Bool) (own input : Input) (fault : StepFault) → (if b then Err fault else Ok (Takes own)) ≡ Ok (Takes input) → (input ≡ own) × (b ≡ false)
unless true own input fault is = absurd cc
unless false own input fault is = (cc, refl)

-- what is done if something speaks for it
provided : (b : Bool) (own input : Input) (fault : StepFault) → (if b then Ok (Takes own) else Err fault) ≡ Ok (Takes input) → input ≡ own
provided true own input fault is = cc
provided false own input fault is = absurd cc

-- the same, the other way round
pub takes_same : (b : Bool) (own input : Input) (fault : StepFault) → (if b then Err fault else Ok (Takes own)) ≡ Ok (Takes input) → own ≡ input
takes_same b own input fault is = sym (unless b own input fault is).0

-- a start is no input
pub restart_takes_none : (b : Bool) (delay : ℕ) (input : Input) (fault : StepFault) → (if b then Ok (Restarts delay) else Err fault) ≡ Ok (Takes input) → ⊥
restart_takes_none true delay input fault is = absurd cc
restart_takes_none false delay input fault is = absurd cc

module _ (h : History) (lines : List Line) (input : Input) where
  -- the input of a step: a delivery gives the datagram of its number, and a tick may not pass the last moment
  abbrev pub IsInputOf : Step → Type 0
  IsInputOf (steps.Tick node ms) = (input ≡ inputs.Tick ms) × (nat_lt clock_limit (clock_at h.items + ms) ≡ false)
  IsInputOf (steps.Deliver number node) = (d : SentDatagram) × (datagram_at lines number ≡ Some d) × (input ≡ inputs.Datagram d.from d.to d.bytes)
  IsInputOf (steps.Call node kind instance method payload) = input ≡ inputs.Call kind instance method payload
  IsInputOf (steps.Answer node token reply payload) = input ≡ inputs.Answer token reply payload
  IsInputOf (steps.Publish node instance event payload) = input ≡ inputs.Publish instance event payload
  IsInputOf (steps.PublishTo node group to event payload) = input ≡ inputs.PublishTo group.instance group.id to event payload
  IsInputOf (steps.Subscribe node group) = input ≡ inputs.Subscribe group
  IsInputOf (steps.Unsubscribe node group) = input ≡ inputs.Unsubscribe group
  IsInputOf (steps.StopOffer node instance) = input ≡ inputs.StopOffer instance
  IsInputOf (steps.Restart node delay) = ⊥
  IsInputOf (steps.Inject node port to payload) = ⊥

  delivered : (o : Option SentDatagram) → delivery h.config o ≡ Ok (Takes input) → (d : SentDatagram) × (o ≡ Some d) × (input ≡ inputs.Datagram d.from d.to d.bytes)
  delivered None is = absurd cc
  delivered (Some d) is = (d, refl, provided (is_addressed h.config d) _ input _ is)

  -- a step whose deed it is to take an input gives that
  pub input_of : (s : Step) → deed_of h lines s ≡ Ok (Takes input) → IsInputOf s
  input_of (steps.Tick node ms) is = unless _ (inputs.Tick ms) input _ is
  input_of (steps.Deliver number node) is = delivered (datagram_at lines number) is
  input_of (steps.Call node kind instance method payload) is = (unless _ (inputs.Call kind instance method payload) input _ is).0
  input_of (steps.Answer node token reply payload) is = (unless _ (inputs.Answer token reply payload) input _ is).0
  input_of (steps.Publish node instance event payload) is = (unless _ (inputs.Publish instance event payload) input _ is).0
  input_of (steps.PublishTo node group to event payload) is = (unless _ (inputs.PublishTo group.instance group.id to event payload) input _ is).0
  input_of (steps.Subscribe node group) is = cc
  input_of (steps.Unsubscribe node group) is = cc
  input_of (steps.StopOffer node instance) is = cc
  input_of (steps.Restart node delay) is = absurd (restart_takes_none _ delay input _ is)
  input_of (steps.Inject node port to payload) is = absurd cc

  -- and its payload is that of the step
  pub same_payload : (s : Step) → IsInputOf s → payload_of s ≡ payload_in input
  same_payload (steps.Tick node ms) is = ap payload_in (sym is.0)
  same_payload (steps.Deliver number node) is = ap payload_in (sym is.2)
  same_payload (steps.Call node kind instance method payload) is = ap payload_in (sym is)
  same_payload (steps.Answer node token reply payload) is = ap payload_in (sym is)
  same_payload (steps.Publish node instance event payload) is = ap payload_in (sym is)
  same_payload (steps.PublishTo node group to event payload) is = ap payload_in (sym is)
  same_payload (steps.Subscribe node group) is = ap payload_in (sym is)
  same_payload (steps.Unsubscribe node group) is = ap payload_in (sym is)
  same_payload (steps.StopOffer node instance) is = ap payload_in (sym is)
  same_payload (steps.Restart node delay) is = absurd is
  same_payload (steps.Inject node port to payload) is = absurd is
