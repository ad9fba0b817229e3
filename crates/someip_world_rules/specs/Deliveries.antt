-- Which step sent the datagram that a step delivers, and which steps lie in one life of a node.
use Rattle.std.specs.Prelude.{◌≡◌, ◌⊎◌, ◌<◌, ◌≤◌, ℕ, ◌+◌, zero, suc, List, Option, None, Some, Ok, slice_get}
use Rattle.std.specs.List.{Contains, filter_map}
use Rattle.std.specs.Option.{option_map}
use Rattle.someip_node_rules.specs.histories.History.{History}
use Rattle.someip_node_rules.specs.rules.Inputs.{Input}
use Rattle.someip_node_rules.specs.trails.Meanings.{GivenBy}
use Rattle.someip_node_rules.specs.forms.Outputs.{Given, written}
use Rattle.someip_node_rules.specs.rules.Plans.{Work}
use Rattle.someip_node_rules.specs.steps.Steps as node
use Rattle.someip_node_rules.specs.trails.Trails.{given_by, trail_of}
use Rattle.someip_node_rules.specs.declared.config.Config.{Config}
use Rattle.someip_node_rules.specs.declared.output.Output.TheVariants.{Sent}
use Rattle.someip_world_schedule.specs.declared.step.Step.{Step}
use Rattle.someip_world_schedule.specs.declared.step.Step.TheVariants.{Deliver}
use Rattle.someip_world_setup.specs.declared.setup_node.SetupNode.{SetupNode}
use Rattle.someip_world_rules.specs.Datagrams.{SentDatagram, datagram_in}
use Rattle.someip_world_rules.specs.Deeds.{Takes, Restarts, Injects}
use Rattle.someip_world_rules.specs.Turns.{Turn}
use Rattle.someip_world_rules.specs.declared.line.Line.{Line}

-- a datagram, and the index of the step whose lines tell of it
pub record Dispatch : Type 0 where
  pub step : ℕ
  pub datagram : SentDatagram

abbrev pub dispatch_in : Line → Option Dispatch
dispatch_in line = option_map (λ d. record { step = line.step; datagram = d }) (datagram_in line)

-- the datagrams that some lines tell of, in order, each with the index of its step
abbrev pub dispatches_in : List Line → List Dispatch
dispatches_in lines = filter_map dispatch_in lines

-- the one of a number: they count from 1
abbrev pub dispatch_at : List Line → ℕ → Option Dispatch
dispatch_at lines zero = None
dispatch_at lines (suc n) = slice_get (dispatches_in lines) n

module _ (nodes : List SetupNode) (configs : List Config) (steps : List Step) where
  -- in the step at a place of the schedule a node takes an input, and does not refuse it
  pub record Does (i : ℕ) : Type 0 where
    pub step : Step
    pub turn : Turn nodes configs steps i step
    pub input : Input
    pub takes : turn.deed ≡ Takes input
    pub done : Work History
    pub happened : node.step turn.history input ≡ Ok done

  -- in a step a node sends a datagram: it is one of those of a message that a rule gives there
  pub record Sends (i : ℕ) (d : SentDatagram) : Type 0 where
    pub does : Does i
    pub given : Given
    pub told : Contains (given_by (trail_of does.turn.history does.input)) given
    pub by : GivenBy does.turn.history does.input given
    pub among : Contains (written given) (Sent d.from d.to d.bytes)

  -- a liar sends a datagram of any bytes in a step
  pub record IsInjected (i : ℕ) (d : SentDatagram) : Type 0 where
    pub step : Step
    pub turn : Turn nodes configs steps i step
    pub injects : turn.deed ≡ Injects d.from d.to d.bytes

  -- a datagram goes out in a step: a node sends it, or a liar does
  abbrev pub GoesOut : ℕ → SentDatagram → Type 0
  GoesOut i d = Sends i d ⊎ IsInjected i d

  -- a step delivers a datagram that another step sent
  pub record Delivers (n : ℕ) (sent : ℕ) (d : SentDatagram) : Type 0 where
    pub number : ℕ
    pub node : List ℕ
    pub turn : Turn nodes configs steps n (Deliver number node)
    pub numbered : dispatch_at turn.before.lines number ≡ Some (record { step = sent + 1; datagram = d })

  -- the node at a place is started again in a step
  pub record Restarted (i : ℕ) (place : ℕ) : Type 0 where
    pub step : Step
    pub turn : Turn nodes configs steps i step
    pub at : turn.place ≡ place
    pub delay : ℕ
    pub restarts : turn.deed ≡ Restarts delay

  -- from a step to a later one the node at a place is not started again
  abbrev pub LivesOn : ℕ → ℕ → ℕ → Type 0
  LivesOn place since until = (i : ℕ) → since ≤ i → i < until → Restarted i place → ⊥
