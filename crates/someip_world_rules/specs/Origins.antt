-- Where the datagrams of a run and what its nodes met come from: each from a rule that was done in a step of the run, or, of
-- datagrams, from a liar.
use Rattle.std.specs.Prelude.{◌≡◌, ◌<◌, ℕ, ◌+◌, List, slice_get, Some}
use Rattle.std.specs.List.{AllByRecursion}
use Rattle.someip_node_rules.specs.histories.History.{History}
use Rattle.someip_node_rules.specs.histories.Items.{Item}
use Rattle.someip_node_rules.specs.trails.Meetings.{MetBy}
use Rattle.someip_node_rules.specs.declared.config.Config.{Config}
use Rattle.someip_world_schedule.specs.declared.step.Step.{Step}
use Rattle.someip_world_setup.specs.declared.setup_node.SetupNode.{SetupNode}
use Rattle.someip_world_rules.specs.Deliveries.{Dispatch, Does, GoesOut, LivesOn}

module _ (nodes : List SetupNode) (configs : List Config) (steps : List Step) where
  -- a datagram was sent in one of the first steps, the one whose line tells of it: a rule gave the message there whose datagram
  -- it is, or a liar sent it
  pub record WasSent (n : ℕ) (d : Dispatch) : Type 0 where
    pub i : ℕ
    pub before : i < n
    pub index : d.step ≡ i + 1
    pub goes : GoesOut nodes configs steps i d.datagram

  -- the node at a place met an item in one of the first steps, in the life that it has after these: a rule that was done in
  -- that step met it, and since then the node was not started again
  pub record WasMet (n : ℕ) (place : ℕ) (item : Item) : Type 0 where
    pub i : ℕ
    pub before : i < n
    pub does : Does nodes configs steps i
    pub at : does.turn.place ≡ place
    pub by : MetBy does.turn.history does.input item
    pub lives : LivesOn nodes configs steps place i n

  -- the node at a place has its configuration, and all that it met was met in the first steps
  pub record HasOrigins (n : ℕ) (place : ℕ) (h : History) : Type 0 where
    pub configured : slice_get configs place ≡ Some h.config
    pub met : AllByRecursion (WasMet n place) h.items
