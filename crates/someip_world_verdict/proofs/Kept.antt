-- What is kept of a run before a step, and what it says of the steps before.
use Rattle.std.proofs.Common.{◌≡◌, ◌<◌, ℕ, suc, ◌+◌, true, List, [], slice_get, Option, None, Some}
use Rattle.std.specs.FinMap as finite
use Rattle.std.specs.List.{AllZip}
use Rattle.std.specs.Option.{option_map}
use Rattle.someip_wire.specs.Spelling.{MessageValue}
use Rattle.someip_reassembly.specs.Sent.{is_long}
use Rattle.someip_reassembly.specs.declared.key.ReassemblyKey.{ReassemblyKey}
use Rattle.sd_core.specs.declared.eventgroup.Eventgroup.{Eventgroup}
use Rattle.someip_tables.specs.Sessions.{session_after_last}
use Rattle.someip_rpc.specs.Sessions.{session_after}
use Rattle.someip_rpc.specs.declared.ids.EventId.{EventId}
use Rattle.someip_node_rules.specs.histories.CallQuestions.{times_published}
use Rattle.someip_node_rules.specs.histories.History.{History}
use Rattle.someip_node_rules.specs.forms.Outputs as outputs
use Rattle.someip_node_rules.specs.histories.Questions.{clock_at}
use Rattle.someip_node_rules.specs.histories.WishQuestions.{course_at}
use Rattle.someip_node_rules.specs.declared.config.Config.{Config}
use Rattle.someip_world_schedule.specs.declared.step.Step.{Step}
use Rattle.someip_world_setup.specs.declared.setup_node.SetupNode.{SetupNode}
use Rattle.someip_world_rules.specs.Datagrams.{SentDatagram}
use Rattle.someip_world_rules.specs.Runs.{World}
use Rattle.someip_world_rules.specs.exchanges.Beginnings.{last_counter}
use Rattle.someip_world_rules.specs.exchanges.Belonging.{Answered, WasHandedUp}
use Rattle.someip_world_rules.specs.exchanges.CleanReuse.{Arrives}
use Rattle.someip_world_rules.specs.Deliveries.{Dispatch, IsInjected, LivesOn, Sends, dispatches_in}
use Rattle.someip_world_rules.specs.exchanges.Openings.{Opened}
use Rattle.someip_world_rules.specs.declared.exchanges.exchange_key.ExchangeKey.{ExchangeKey}
use Rattle.someip_world_verdict.specs.Books.{Book, LifeKept, NoteKept, PayloadNumbers, TakenKeys, taken_at}
use Rattle.someip_world_verdict.specs.Booking.{payload_of}
use Rattle.someip_world_verdict.specs.Contents.{said_in, stream_in}
use Rattle.someip_world_verdict.specs.Streams.{stream_of}
use Rattle.someip_world_verdict.specs.declared.life.Arrival.{Arrival}

module _ (nodes : List SetupNode) (configs : List Config) (steps : List Step) where
  -- ---- keys

  -- a step is the last before another that opened an exchange of a key
  pub record IsLastOpening (n : ℕ) (key : ExchangeKey) (i : ℕ) : Type 0 where
    pub before : i < n
    pub opened : Opened nodes configs steps i key
    pub last : (k : ℕ) → i < k → k < n → Opened nodes configs steps k key → ⊥

  -- what is kept of a key
  abbrev pub KnowsOpening : ℕ → ExchangeKey → Option ℕ → Type 0
  KnowsOpening n key None = (i : ℕ) → i < n → Opened nodes configs steps i key → ⊥
  KnowsOpening n key (Some i) = IsLastOpening n key i

  abbrev pub KeepsTaken : ℕ → TakenKeys → Type 0
  KeepsTaken n taken = (key : ExchangeKey) → KnowsOpening n key (taken_at taken key)

  -- ---- datagrams

  -- the step that sent what is answered with a datagram, if that answers anything
  pub record KnowsAnswered (i : ℕ) (d : SentDatagram) (answers : Option ℕ) : Type 0 where
    pub says : (s : Sends nodes configs steps i d) (since : ℕ) → answers ≡ Some since → Answered nodes configs steps s.does.turn.place i s.by.done.by since
    pub only : (s : Sends nodes configs steps i d) (since : ℕ) → Answered nodes configs steps s.does.turn.place i s.by.done.by since → answers ≡ Some since

  -- the number of the payload of a message that goes in segments
  pub record IsNumbered (payloads : PayloadNumbers) (payload : List ℕ) (number : Option ℕ) : Type 0 where
    pub at : ℕ
    pub is : number ≡ Some at
    pub kept : finite.get payloads payload ≡ Some at

  -- what is kept of a datagram: of one that a node sent, what it says, and of one that a liar sent, nothing
  pub record IsNoted (payloads : PayloadNumbers) (dispatch : Dispatch) (note : NoteKept) : Type 0 where
    pub step : dispatch.step ≡ note.step + 1
    pub said : Sends nodes configs steps note.step dispatch.datagram → note.said ≡ said_in dispatch.datagram
    pub stream : Sends nodes configs steps note.step dispatch.datagram → note.stream ≡ option_map stream_of (stream_in dispatch.datagram)
    pub mute : IsInjected nodes configs steps note.step dispatch.datagram → (note.said ≡ []) × (note.stream ≡ None)
    pub answers : KnowsAnswered note.step dispatch.datagram note.answers
    pub payload : (s : Sends nodes configs steps note.step dispatch.datagram) (m : MessageValue) → s.given ≡ outputs.Sends dispatch.datagram.from dispatch.datagram.to m
        → is_long m.payload ≡ true → IsNumbered payloads m.payload note.payload

  -- ---- lives

  -- a segment came last under a reassembly key, before a step and in this life of the node at a place
  pub record IsLastArrival (payloads : PayloadNumbers) (n place : ℕ) (key : ReassemblyKey) (arrival : Arrival) : Type 0 where
    pub i : ℕ
    pub before : i < n
    pub lives : LivesOn nodes configs steps place i n
    pub message : MessageValue
    pub arrives : Arrives nodes configs steps i place arrival.moment message key
    pub payload : finite.get payloads message.payload ≡ Some arrival.payload
    pub last : (k now : ℕ) (m : MessageValue) → i < k → k < n → Arrives nodes configs steps k place now m key → ⊥

  abbrev pub KnowsArrival : PayloadNumbers → ℕ → ℕ → ReassemblyKey → Option Arrival → Type 0
  KnowsArrival payloads n place key None =
      (i now : ℕ) (m : MessageValue) → i < n → LivesOn nodes configs steps place i n → Arrives nodes configs steps i place now m key → ⊥
  KnowsArrival payloads n place key (Some arrival) = IsLastArrival payloads n place key arrival

  -- what is kept of the present life of the node at a place, which has this history
  pub record KeepsLife (payloads : PayloadNumbers) (n place : ℕ) (h : History) (life : LifeKept) : Type 0 where
    pub clock : life.clock ≡ clock_at h.items
    pub counters : (q : Eventgroup) → finite.get life.counters q ≡ last_counter (course_at h.items q).begun
    pub sessions : (e : EventId) → session_after_last (finite.get life.sessions e) ≡ session_after (suc (times_published h.items e)) 0
    pub handed : (token since : ℕ) → finite.get life.tokens token ≡ Some since → WasHandedUp nodes configs steps place token n since
    pub handed_only : (token since : ℕ) → WasHandedUp nodes configs steps place token n since → finite.get life.tokens token ≡ Some since
    pub arrivals : (key : ReassemblyKey) → KnowsArrival payloads n place key (finite.get life.arrivals (stream_of key))

  -- ---- all of it

  -- a number is that of one payload
  abbrev pub KeepsPayloads : PayloadNumbers → Type 0
  KeepsPayloads payloads =
      (payload : List ℕ) (number : ℕ) → finite.get payloads payload ≡ Some number → (s : Step) × (slice_get steps number ≡ Some s) × (payload_of s ≡ Some payload)

  -- what is kept before a step, at the world to which the steps before it led
  pub record Kept (n : ℕ) (w : World) (book : Book) : Type 0 where
    pub taken : KeepsTaken n book.taken
    pub notes : AllZip (IsNoted book.payloads) (dispatches_in w.lines) book.notes
    pub lives : (place : ℕ) (h : History) → slice_get w.histories place ≡ Some h → (life : LifeKept) × (slice_get book.lives place ≡ Some life) × KeepsLife book.payloads n place h life
    pub payloads : KeepsPayloads book.payloads

-- numbers stay
abbrev pub PayloadsGrow : PayloadNumbers → PayloadNumbers → Type 0
PayloadsGrow payloads more = (payload : List ℕ) (number : ℕ) → finite.get payloads payload ≡ Some number → finite.get more payload ≡ Some number
