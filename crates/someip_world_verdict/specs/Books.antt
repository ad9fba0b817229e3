-- What is kept of a run beside its nodes, to judge how it reuses keys.
use Rattle.std.specs.Prelude.{ℕ, zero, suc, ◌+◌, ◌==◌, Bool, false, not, nat_lt, ◌&&◌, ◌||◌, List, Option, None, Some, slice_get}
use Rattle.std.specs.FinMap as finite
use Rattle.std.specs.FinMap.{FinMap}
use Rattle.std.specs.List.{list_any}
use Rattle.std.specs.Ordering.{nat_cmp}
use Rattle.std.specs.Option.{option_map_or}
use Rattle.std.specs.Cmp.Lexicographic.{slice_cmp}
use Rattle.sd_core.specs.Eventgroups.{eventgroup_cmp}
use Rattle.someip_rpc.specs.Ids as rpc
use Rattle.someip_world_schedule.specs.declared.step.Step.{Step}
use Rattle.someip_world_schedule.specs.declared.step.Step.TheVariants as steps
use Rattle.someip_world_rules.specs.declared.exchanges.exchange_key.ExchangeKey.{ExchangeKey}
use Rattle.someip_world_rules.specs.declared.exchanges.exchange_key.ExchangeKey.TheVariants as keys
use Rattle.someip_world_rules.specs.declared.exchanges.naming.Side.{Side}
use Rattle.someip_world_rules.specs.declared.exchanges.naming.Side.TheVariants.{Answerer, Opener}
use Rattle.someip_world_rules.specs.exchanges.KeyOrder.{call_cmp, event_cmp, subscription_cmp}
use Rattle.someip_world_verdict.specs.declared.life.Arrival.{Arrival}
use Rattle.someip_world_verdict.specs.declared.said.Said.{Said}
use Rattle.someip_world_verdict.specs.declared.stream.Stream.{Stream}
use Rattle.someip_world_verdict.specs.StreamOrder.{stream_cmp}

-- ---- keys

-- the step that opened the newest exchange of each key
pub record TakenKeys : Type 0 where
  pub calls : FinMap call_cmp ℕ
  pub events : FinMap event_cmp ℕ
  pub subscriptions : FinMap subscription_cmp ℕ

abbrev pub none_taken : TakenKeys
none_taken = record { calls = finite.empty; events = finite.empty; subscriptions = finite.empty }

abbrev pub taken_at : TakenKeys → ExchangeKey → Option ℕ
taken_at taken (keys.Call k) = finite.get taken.calls k
taken_at taken (keys.Event k) = finite.get taken.events k
taken_at taken (keys.Subscription k) = finite.get taken.subscriptions k

-- a key is taken by a step
abbrev pub taken_with : ExchangeKey → ℕ → TakenKeys → TakenKeys
taken_with (keys.Call k) step taken = record taken { calls = finite.insert taken.calls k step }
taken_with (keys.Event k) step taken = record taken { events = finite.insert taken.events k step }
taken_with (keys.Subscription k) step taken = record taken { subscriptions = finite.insert taken.subscriptions k step }

-- ---- nodes

-- of the present life of a node: its clock, the counter of the last Subscribe of each eventgroup, the session that each event
-- was published with last, for each token the step that sent its request, and the last segment under each reassembly key
pub record LifeKept : Type 0 where
  pub clock : ℕ
  pub counters : FinMap eventgroup_cmp ℕ
  pub sessions : FinMap rpc.event_cmp ℕ
  pub tokens : FinMap nat_cmp ℕ
  pub arrivals : FinMap stream_cmp Arrival

abbrev pub new_life : LifeKept
new_life = record { clock = 0; counters = finite.empty; sessions = finite.empty; tokens = finite.empty; arrivals = finite.empty }

-- ---- datagrams

-- of a datagram: the step that sent it, the step that sent what it answers, what it says, and of a segment its reassembly key
-- and the number of the payload of its message
pub record NoteKept : Type 0 where
  pub step : ℕ
  pub answers : Option ℕ
  pub said : List Said
  pub stream : Option Stream
  pub payload : Option ℕ

-- as of which step one side means what it says
abbrev pub since_of : NoteKept → Side → Option ℕ
since_of note Opener = Some note.step
since_of note Answerer = note.answers

-- ---- all of it

-- equal long payloads have one number: the first step that has it
abbrev pub PayloadNumbers : Type 0
PayloadNumbers = FinMap (slice_cmp nat_cmp) ℕ

pub record Book : Type 0 where
  pub taken : TakenKeys
  pub notes : List NoteKept
  pub lives : List LifeKept
  pub payloads : PayloadNumbers

-- that of the datagram of a number: they count from 1
abbrev pub note_at : List NoteKept → ℕ → Option NoteKept
note_at notes zero = None
note_at notes (suc n) = slice_get notes n

-- ---- what breaks clean reuse

-- a key was taken after a step
abbrev pub is_after : Option ℕ → Option ℕ → Bool
is_after (Some since) (Some at) = nat_lt since at
is_after since at = false

-- what is said belongs to an exchange whose key a newer one has taken
abbrev pub is_old : TakenKeys → NoteKept → Said → Bool
is_old taken note said = is_after (since_of note said.naming.side) (taken_at taken said.naming.key)

abbrev pub arrival_at : LifeKept → Option Stream → Option Arrival
arrival_at life None = None
arrival_at life (Some stream) = finite.get life.arrivals stream

-- another payload came under the reassembly key, less than the timeout ago
abbrev pub is_mixed : ℕ → ℕ → Option Arrival → Option ℕ → Bool
is_mixed timeout now (Some arrival) (Some payload) = not (arrival.payload == payload) && nat_lt now (arrival.moment + timeout)
is_mixed timeout now arrival payload = false

-- the delivery of a datagram to a node breaks it
abbrev pub is_breach : ℕ → TakenKeys → LifeKept → NoteKept → Bool
is_breach timeout taken life note =
    list_any (is_old taken note) note.said || is_mixed timeout life.clock (arrival_at life note.stream) note.payload

-- a step breaks it at the node that it names
abbrev pub breaks_at : ℕ → Book → LifeKept → Step → Bool
breaks_at timeout book life (steps.Deliver number node) =
    option_map_or (λ note. is_breach timeout book.taken life note) (note_at book.notes number) false
breaks_at timeout book life step = false
