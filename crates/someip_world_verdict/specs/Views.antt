-- What is kept of a run, without where it lies in memory.
use Rattle.std.specs.Prelude.{ℕ, List, map}
use Rattle.std.specs.BTreeMap.{BTreeMap}
use Rattle.std.specs.Cmp.Lexicographic.{slice_cmp}
use Rattle.std.specs.Global.{Vec}
use Rattle.std.specs.Ordering.{nat_cmp}
use Rattle.someip_tables.specs.Tables.{map_of}
use Rattle.sd_core.specs.declared.eventgroup.Eventgroup.{Eventgroup}
use Rattle.sd_core.specs.Eventgroups.{eventgroup_cmp}
use Rattle.someip_rpc.specs.Ids as rpc
use Rattle.someip_world_rules.specs.exchanges.KeyOrder.{call_cmp, event_cmp, subscription_cmp}
use Rattle.someip_world_verdict.specs.Books.{Book, LifeKept, NoteKept, PayloadNumbers, TakenKeys}
use Rattle.someip_world_verdict.specs.declared.publishing.Publication as publishing
use Rattle.someip_world_verdict.specs.Booking.{Openings, Publication}
use Rattle.someip_world_verdict.specs.StreamOrder.{stream_cmp}
use Rattle.someip_world_verdict.specs.declared.ledger.Ledger.{Ledger}
use Rattle.someip_world_verdict.specs.declared.life.Life.{Life}
use Rattle.someip_world_verdict.specs.declared.note.Note.{Note}
use Rattle.someip_world_verdict.specs.declared.taken.Taken.{Taken}

abbrev pub view_taken : Taken → TakenKeys
view_taken taken = record {
  calls = map_of call_cmp taken.calls.entries;
  events = map_of event_cmp taken.events.entries;
  subscriptions = map_of subscription_cmp taken.subscriptions.entries;
}

abbrev pub view_life : Life → LifeKept
view_life life = record {
  clock = life.clock;
  counters = map_of eventgroup_cmp life.counters.entries;
  sessions = map_of rpc.event_cmp life.sessions.entries;
  tokens = map_of nat_cmp life.tokens.entries;
  arrivals = map_of stream_cmp life.arrivals.entries;
}

abbrev pub view_note : Note → NoteKept
view_note note = record { step = note.step; answers = note.answers; said = note.said.items; stream = note.stream; payload = note.payload }

abbrev pub view_notes : List Note → List NoteKept
view_notes notes = map view_note notes

abbrev pub view_lives : List Life → List LifeKept
view_lives lives = map view_life lives

abbrev pub view_numbers : BTreeMap (Vec ℕ) ℕ → PayloadNumbers
view_numbers numbers = map_of (slice_cmp nat_cmp) (map (λ e. (e.0.items, e.1)) numbers.entries)

abbrev pub view_openings : Taken → BTreeMap Eventgroup ℕ → Openings
view_openings taken counters = record { taken = view_taken taken; counters = map_of eventgroup_cmp counters.entries }

abbrev pub view_publication : publishing.Publication → Publication
view_publication p = record { event = p.event; session = p.session; key = p.key }

abbrev pub view_book : Ledger → Book
view_book ledger = record {
  taken = view_taken ledger.taken;
  notes = view_notes ledger.notes.items;
  lives = view_lives ledger.lives.items;
  payloads = view_numbers ledger.payloads;
}
