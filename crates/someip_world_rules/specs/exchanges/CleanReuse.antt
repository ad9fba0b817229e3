-- Clean reuse of keys: when a step breaks it, and the verdict on a run.
use Rattle.std.specs.Prelude.{true, ◌≡◌, ◌≢◌, ◌<◌, ℕ, ◌+◌, List, length, Ok}
use Rattle.someip_wire.specs.Spelling.{MessageValue}
use Rattle.someip_reassembly.specs.Keys.{segment_key}
use Rattle.someip_reassembly.specs.Sent.{is_long}
use Rattle.someip_reassembly.specs.declared.key.ReassemblyKey.{ReassemblyKey}
use Rattle.someip_node_rules.specs.forms.Outputs as outputs
use Rattle.someip_node_rules.specs.histories.Questions.{clock_at}
use Rattle.someip_node_rules.specs.declared.config.Config.{Config}
use Rattle.someip_world_schedule.specs.declared.step.Step.{Step}
use Rattle.someip_world_setup.specs.declared.setup_node.SetupNode.{SetupNode}
use Rattle.someip_world_rules.specs.Datagrams.{SentDatagram}
use Rattle.someip_world_rules.specs.Runs.{AreCopies, run_of}
use Rattle.someip_world_rules.specs.declared.line.Line.{Line}
use Rattle.someip_world_rules.specs.declared.reuse.Reuse.{Reuse}
use Rattle.someip_world_rules.specs.declared.reuse.Reuse.TheVariants.{Broken, Clean}
use Rattle.someip_world_rules.specs.exchanges.Belonging.{Belongs}
use Rattle.someip_world_rules.specs.Deliveries.{Delivers, LivesOn, Sends}
use Rattle.someip_world_rules.specs.declared.exchanges.exchange_key.ExchangeKey.{ExchangeKey}
use Rattle.someip_world_rules.specs.exchanges.Openings.{IsTaken}

-- the reassembly key of a message between two endpoints: that of its segments
abbrev pub message_key : SentDatagram → MessageValue → ReassemblyKey
message_key d m = segment_key d.from d.to m.header

module _ (nodes : List SetupNode) (configs : List Config) (steps : List Step) where
  -- A step delivers what belongs to an exchange whose key a newer one has taken. A node sent it, and to a liar nothing is
  -- delivered: so what liars send breaks nothing, nor does what is sent to them
  pub record DeliversOld (n : ℕ) : Type 0 where
    pub sent : ℕ
    pub datagram : SentDatagram
    pub delivers : Delivers nodes configs steps n sent datagram
    pub key : ExchangeKey
    pub since : ℕ
    pub belongs : Belongs nodes configs steps sent datagram key since
    pub taken : IsTaken nodes configs steps since n key

  -- a step delivers to the node at a place, by its clock at a moment, a segment of a message that a node sent
  pub record Arrives (n place now : ℕ) (m : MessageValue) (key : ReassemblyKey) : Type 0 where
    pub sent : ℕ
    pub datagram : SentDatagram
    pub delivers : Delivers nodes configs steps n sent datagram
    pub at : delivers.turn.place ≡ place
    pub clock : clock_at delivers.turn.history.items ≡ now
    pub sends : Sends nodes configs steps sent datagram
    pub given : sends.given ≡ outputs.Sends datagram.from datagram.to m
    pub long : is_long m.payload ≡ true
    pub keyed : key ≡ message_key datagram m

  -- a step delivers a segment to a node at which, in this life and less than the timeout ago, a segment of a message with the
  -- same reassembly key and another payload arrived
  pub record DeliversMixed (n : ℕ) : Type 0 where
    pub place : ℕ
    pub now : ℕ
    pub key : ReassemblyKey
    pub message : MessageValue
    pub arrives : Arrives n place now message key
    pub earlier : ℕ
    pub before : earlier < n
    pub lives : LivesOn nodes configs steps place earlier n
    pub moment : ℕ
    pub other : MessageValue
    pub arrived : Arrives earlier place moment other key
    pub differs : other.payload ≢ message.payload
    pub recent : now < moment + arrives.delivers.turn.history.config.common.reassembly_timeout_ms

  -- a step breaks clean reuse
  pub data Breaks (n : ℕ) : Type 0 where
    Old : DeliversOld n → Breaks n
    Mixed : DeliversMixed n → Breaks n

  -- no step before one breaks it
  abbrev pub IsCleanBefore : ℕ → Type 0
  IsCleanBefore n = (i : ℕ) → i < n → Breaks i → ⊥

  -- the verdict: no step of the schedule breaks it, or the first that does is named by its index, counted from 1
  abbrev pub IsVerdict : Reuse → Type 0
  IsVerdict Clean = IsCleanBefore (length steps)
  IsVerdict (Broken at) = (i : ℕ) × (at ≡ i + 1) × Breaks i × IsCleanBefore i

-- the verdict on a trace: that on the run of the steps which tells it, over copies of the configurations of the nodes
abbrev pub IsVerdictOn : List SetupNode → List Step → List Line → Reuse → Type 0
IsVerdictOn nodes steps lines verdict = (configs : List Config) → AreCopies nodes configs → run_of nodes configs steps ≡ Ok lines → IsVerdict nodes configs steps verdict
