-- How a step changes what is kept of a run.
use Rattle.std.specs.Prelude.{ℕ, ◌+◌, ◌^◌, ◌==◌, Bool, true, false, nat_lt, if◌then◌else◌, List, [], ◌∷◌, ◌++◌, Option, None, Some, slice_set}
use Rattle.std.specs.FinMap as finite
use Rattle.std.specs.FinMap.{FinMap}
use Rattle.std.specs.BTreeMap as tree
use Rattle.std.specs.List.{filter_map, flat_map, list_any}
use Rattle.std.specs.Option.{option_map, option_map_or}
use Rattle.std.specs.Ordering.{nat_cmp}
use Rattle.someip_reassembly.specs.Sent.{is_long}
use Rattle.sd_core.specs.Eventgroups.{eventgroup_cmp}
use Rattle.sd_core.specs.Keys.{instance_cmp}
use Rattle.sd_core.specs.declared.keys.InstanceId.{InstanceId}
use Rattle.someip_rpc.specs.Events.{event_of}
use Rattle.someip_tables.specs.Sessions.{session_after_last}
use Rattle.someip_rpc.specs.declared.ids.EventId.{EventId}
use Rattle.someip_node_rules.specs.declared.config.Config.{Config}
use Rattle.someip_node_rules.specs.declared.config.OfferedService.{OfferedService}
use Rattle.someip_node_rules.specs.declared.output.Output.TheVariants.{Request}
use Rattle.someip_world_schedule.specs.declared.step.Step.{Step}
use Rattle.someip_world_schedule.specs.declared.step.Step.TheVariants as steps
use Rattle.someip_world_rules.specs.Datagrams.{SentDatagram, datagrams_in}
use Rattle.someip_world_rules.specs.declared.line.Line.{Line}
use Rattle.someip_world_rules.specs.declared.line.Told.{Told}
use Rattle.someip_world_rules.specs.declared.line.Told.TheVariants.{Gave, Refused}
use Rattle.someip_world_rules.specs.declared.exchanges.exchange_key.ExchangeKey.{ExchangeKey}
use Rattle.someip_world_rules.specs.declared.exchanges.exchange_key.ExchangeKey.TheVariants as keys
use Rattle.someip_world_rules.specs.declared.exchanges.exchange_key.SubscriptionExchange.{SubscriptionExchange}
use Rattle.someip_world_rules.specs.declared.exchanges.naming.Side.{Side}
use Rattle.someip_world_rules.specs.declared.exchanges.naming.Side.TheVariants.{Opener}
use Rattle.someip_world_rules.specs.exchanges.Namings.{of_event}
use Rattle.someip_world_verdict.specs.Books.{Book, LifeKept, NoteKept, PayloadNumbers, TakenKeys, new_life, note_at, taken_with}
use Rattle.someip_world_verdict.specs.Contents.{said_in, stream_in}
use Rattle.someip_world_verdict.specs.Streams.{stream_of}
use Rattle.someip_world_verdict.specs.declared.said.Said.{Said}
use Rattle.someip_world_verdict.specs.declared.stream.Stream.{Stream}

-- ---- the lines of a step

-- a line tells that the node refused what was asked of it
abbrev pub is_refusal : Told → Bool
is_refusal (Gave output) = false
is_refusal (Refused refusal) = true

abbrev pub is_refused : List Line → Bool
is_refused lines = list_any (λ line. is_refusal line.told) lines

-- what the datagrams of some lines say, in order
abbrev pub said_by_lines : List Line → List Said
said_by_lines lines = flat_map said_in (datagrams_in lines)

-- the token of a request that a line tells of
abbrev pub token_in : Told → Option ℕ
token_in (Gave (Request token instance method payload)) = token
token_in told = None

abbrev pub tokens_told : List Line → List ℕ
tokens_told lines = filter_map (λ line. token_in line.told) lines

-- ---- what a step answers

-- a delivery what it delivers, and an answer the request of its token: the step that sent that
abbrev pub answered_in : List NoteKept → LifeKept → Step → Option ℕ
answered_in notes life (steps.Deliver number node) = option_map (λ note. note.step) (note_at notes number)
answered_in notes life (steps.Answer node token reply payload) = finite.get life.tokens token
answered_in notes life step = None

-- ---- payloads

-- the payload that a step sends
abbrev pub payload_of : Step → Option (List ℕ)
payload_of (steps.Call node kind instance method payload) = Some payload
payload_of (steps.Answer node token reply payload) = Some payload
payload_of (steps.Publish node instance event payload) = Some payload
payload_of (steps.PublishTo node eventgroup to event payload) = Some payload
payload_of step = None

-- one that goes in segments
abbrev pub long_payload_of : Step → Option (List ℕ)
long_payload_of step = option_map_or (λ payload. if is_long payload then Some payload else None) (payload_of step) None

-- it has the number that it had, or that of this step
abbrev pub number_of : PayloadNumbers → ℕ → List ℕ → ℕ
number_of numbers step payload = option_map_or (λ number. number) (finite.get numbers payload) step

abbrev pub numbered : ℕ → Option (List ℕ) → PayloadNumbers → PayloadNumbers
numbered step None numbers = numbers
numbered step (Some payload) numbers = finite.insert numbers payload (number_of numbers step payload)

-- ---- the node

-- the clock goes on, unless it would pass the last moment
abbrev pub clock_after : ℕ → ℕ → ℕ
clock_after clock ms = if nat_lt (clock + ms) (2 ^ 63) then clock + ms else clock

-- a segment comes
abbrev pub arrived : Option Stream → Option ℕ → LifeKept → LifeKept
arrived (Some stream) (Some payload) life =
    record life { arrivals = finite.insert life.arrivals stream (record { moment = life.clock; payload = payload }) }
arrived stream payload life = life

abbrev pub arrived_with : Option NoteKept → LifeKept → LifeKept
arrived_with None life = life
arrived_with (Some note) life = arrived note.stream note.payload life

-- what a step does to the node before it gives anything
abbrev pub life_on : List NoteKept → LifeKept → Step → LifeKept
life_on notes life (steps.Tick node ms) = record life { clock = clock_after life.clock ms }
life_on notes life (steps.Deliver number node) = arrived_with (note_at notes number) life
life_on notes life (steps.Restart node delay) = new_life
life_on notes life step = life

-- the requests that are handed up have these tokens, each for the step that sent what is answered
abbrev pub handed_up : Option ℕ → List ℕ → FinMap nat_cmp ℕ → FinMap nat_cmp ℕ
handed_up None told tokens = tokens
handed_up (Some sent) [] tokens = tokens
handed_up (Some sent) (token ∷ told) tokens = handed_up (Some sent) told (finite.insert tokens token sent)

-- ---- what opens

-- keys and counters
pub record Openings : Type 0 where
  pub taken : TakenKeys
  pub counters : FinMap eventgroup_cmp ℕ

-- a Subscribe with another counter than the last one of its eventgroup begins a subscription
abbrev pub subscribed : ℕ → SubscriptionExchange → Openings → Openings
subscribed step k o =
    if option_map_or (λ counter. counter == k.counter) (finite.get o.counters k.eventgroup) false then o
    else record { taken = taken_with (keys.Subscription k) step o.taken; counters = finite.insert o.counters k.eventgroup k.counter }

-- a request opens its call, and a Subscribe may open a subscription
abbrev pub opened_by_key : ℕ → Bool → Side → ExchangeKey → Openings → Openings
opened_by_key step subscribes Opener (keys.Call k) o = record o { taken = taken_with (keys.Call k) step o.taken }
opened_by_key step true Opener (keys.Subscription k) o = subscribed step k o
opened_by_key step subscribes side key o = o

abbrev pub opened_by : ℕ → Said → Openings → Openings
opened_by step said o = opened_by_key step said.subscribes said.naming.side said.naming.key o

abbrev pub opened_by_all : ℕ → List Said → Openings → Openings
opened_by_all step [] o = o
opened_by_all step (s ∷ said) o = opened_by_all step said (opened_by step s o)

-- an event that a step publishes, with its session and its key
pub record Publication : Type 0 where
  pub event : EventId
  pub session : ℕ
  pub key : ExchangeKey

abbrev pub publication_with : OfferedService → ℕ → ℕ → Publication
publication_with service event session = record {
  event = event_of service.rules event;
  session = session;
  key = of_event service.rules.endpoint service.rules.service event 0 session;
}

-- the next one of an instance, by the last session of the event
abbrev pub publication_by : LifeKept → OfferedService → ℕ → Publication
publication_by life service event = publication_with service event (session_after_last (finite.get life.sessions (event_of service.rules event)))

abbrev pub publication_of : Config → LifeKept → InstanceId → ℕ → Option Publication
publication_of config life instance event = option_map (λ service. publication_by life service event) (tree.get instance_cmp config.offers instance)

abbrev pub publication_in : Config → LifeKept → Step → Option Publication
publication_in config life (steps.Publish node instance event payload) = publication_of config life instance event
publication_in config life (steps.PublishTo node eventgroup to event payload) = publication_of config life eventgroup.instance event
publication_in config life step = None

-- it takes its key, whether it is sent to anybody or not
abbrev pub published_key : ℕ → Option Publication → TakenKeys → TakenKeys
published_key step None taken = taken
published_key step (Some p) taken = taken_with p.key step taken

abbrev pub published_session : Option Publication → LifeKept → LifeKept
published_session None life = life
published_session (Some p) life = record life { sessions = finite.insert life.sessions p.event p.session }

-- ---- the datagrams that are sent

abbrev pub note_of : ℕ → Option ℕ → Option ℕ → SentDatagram → NoteKept
note_of step answers payload d = record {
  step = step;
  answers = answers;
  said = said_in d;
  stream = option_map stream_of (stream_in d);
  payload = payload;
}

abbrev pub notes_of : ℕ → Option ℕ → Option ℕ → List SentDatagram → List NoteKept
notes_of step answers payload [] = []
notes_of step answers payload (d ∷ datagrams) = note_of step answers payload d ∷ notes_of step answers payload datagrams

-- ---- a step

-- the node after a step, but for tokens and counters
abbrev pub life_then : Config → List NoteKept → LifeKept → Step → LifeKept
life_then config notes life step = published_session (publication_in config life step) (life_on notes life step)

-- the node after a step that opened this
abbrev pub life_after : Config → List NoteKept → LifeKept → Step → List Line → FinMap eventgroup_cmp ℕ → LifeKept
life_after config notes life step lines counters =
    record (life_then config notes life step) {
      tokens = handed_up (answered_in notes life step) (tokens_told lines) (life_then config notes life step).tokens;
      counters = counters;
    }

-- the keys and counters after a step
abbrev pub openings_after : Config → List NoteKept → TakenKeys → LifeKept → ℕ → Step → List Line → Openings
openings_after config notes taken life n step lines =
    opened_by_all n (said_by_lines lines)
    (record { taken = published_key n (publication_in config life step) taken; counters = (life_then config notes life step).counters })

-- a step at a node that did not refuse it
abbrev pub booked_of_node : Config → ℕ → ℕ → Step → List Line → LifeKept → Book → Book
booked_of_node config n place step lines life book = record {
  taken = (openings_after config book.notes book.taken life n step lines).taken;
  notes =
      book.notes
      ++ notes_of n (answered_in book.notes life step) (option_map (number_of book.payloads n) (long_payload_of step)) (datagrams_in lines);
  lives =
      slice_set book.lives place
      (life_after config book.notes life step lines (openings_after config book.notes book.taken life n step lines).counters);
  payloads = numbered n (long_payload_of step) book.payloads;
}

-- ---- liars

-- a liar sends any bytes
abbrev pub is_injection : Step → Bool
is_injection (steps.Inject node port to payload) = true
is_injection step = false

-- its datagram has a number as any other, but is never read as if a node had written it: its note says nothing
abbrev pub mute_note : ℕ → NoteKept
mute_note step = record { step = step; answers = None; said = []; stream = None; payload = None }

-- so a liar takes no key, and nothing changes but the notes
abbrev pub booked_of_liar : ℕ → Book → Book
booked_of_liar n book = record book { notes = book.notes ++ mute_note n ∷ [] }

-- ---- all steps

-- the step of an index, from 0, is done at the node or the liar of a place, and told by these lines
abbrev pub booked : Config → ℕ → ℕ → Step → List Line → LifeKept → Book → Book
booked config n place step lines life book =
    if is_refused lines then book
    else if is_injection step then booked_of_liar n book
    else booked_of_node config n place step lines life book
