-- What the books of an audit hold.
use Rattle.std.specs.Prelude.{◌-◌, ◌+◌, ◌^◌, ℕ, min, false, Bool, List, refl}
use Rattle.std.specs.Coded.{Coded, code_by, coded×, coded_bool}
use Rattle.std.specs.FinMap as finite
use Rattle.audit_rules.specs.declared.Rule.{Rule}
use Rattle.audit_traffic.specs.calls.CallBooks as calls
use Rattle.audit_traffic.specs.calls.CallCodes as codes
use Rattle.audit_traffic.specs.segments.SegmentBooks as segments
use Rattle.audit_sd.specs.offers.OfferTables.{OfferTable, coded_offers}
use Rattle.audit_sd.specs.servers.ServerTables.{ServerTable, coded_servers, no_servers}
use Rattle.audit_sd.specs.subscriptions.SubscribeTables.{SubscribeTable, coded_subscribes, no_subscribes}
use Rattle.audit_sd.specs.sessions.SessionBooks.{Sessions, coded_sessions, no_sessions}
use Rattle.audit_sd.specs.receivers.ReceiverTables.{Receivers, coded_receivers}
use Rattle.audit_traffic.specs.sequence.Sequences.{Sequence, coded_sequence, new_sequence}
use Rattle.audit_traffic.specs.cycles.CycleTables.{Cycles, coded_cycles}
use Rattle.audit_traffic.specs.ways.WayTables.{Ways, coded_ways}
use Rattle.someip_audit.specs.declared.rules.AuditRules.{AuditRules}
use Rattle.someip_audit.specs.AnswerTimes.{Times, coded_times}
use Rattle.audit_endpoints.specs.WatchedEndpoints.{Watch, coded_watch, watch_begun}

-- how long answers may take, the value of each book, which datagrams are looked at, and whether an Offer was seen
pub record Held : Type 0 where
  pub times : Times
  pub calls : calls.Book
  pub segments : segments.Book
  pub offers : OfferTable
  pub servers : ServerTable
  pub subscriptions : SubscribeTable
  pub sessions : Sessions
  pub receivers : Receivers
  pub events : Sequence
  pub cycles : Cycles
  pub ways : Ways
  pub watched : Watch
  pub is_offered : Bool

-- the moment so many milliseconds after another, or the last one, if that is earlier
abbrev pub moment_after : ℕ → ℕ → ℕ
moment_after now millis = min (now + millis) (2 ^ 63 - 1)

-- books that saw nothing, of a recording that begins at this moment; the rules of a bench; the ports that are looked at, and whether endpoints are
-- learnt
abbrev pub empty_held : AuditRules → List Rule → List ℕ → Bool → ℕ → Held
empty_held rules bench ports learns now = record {
  times = record { rules = bench; answer_ms = rules.answer_ms };
  calls = calls.new_book (record { limit = rules.judged; begins = now });
  segments = segments.empty_book (record { slots = rules.segments.slots; limit = rules.segments.limit; timeout = rules.segments.timeout_ms }) 0;
  offers = record { limit = rules.judged; standing = finite.empty; told_full = false };
  servers = no_servers rules.judged;
  subscriptions = no_subscribes rules.judged rules.answer_ms (moment_after now rules.answer_ms);
  sessions = no_sessions rules.limit rules.overtake_ms;
  receivers = record { limit = rules.limit; settled = moment_after now rules.settle_ms; standing = finite.empty; told = finite.empty; told_full = false };
  events = new_sequence (record { limit = rules.limit; overtake_ms = rules.overtake_ms; counting = rules.counting });
  cycles = record { limit = rules.judged; watched = finite.empty; told_full = false };
  ways = record { limit = rules.judged; numbers = finite.empty; told_full = false };
  watched = watch_begun ports learns rules.limit;
  is_offered = false;
}

-- a code, by which a proof tells values apart
abbrev pub coded_held : Coded Held
coded_held =
    code_by ((((calls.Book × segments.Book) × (Sequence × Watch)) × (((OfferTable × ServerTable) × SubscribeTable) × (Sessions × Receivers))) × ((Ways × Bool) × (Times × Cycles)))
    (coded× (coded× (coded× (coded× codes.coded_book segments.coded_book) (coded× coded_sequence coded_watch)) (coded× (coded× (coded× coded_offers coded_servers) coded_subscribes) (coded× coded_sessions coded_receivers))) (coded× (coded× coded_ways coded_bool) (coded× coded_times coded_cycles)))
    (λ h. ((((h.calls, h.segments), (h.events, h.watched)), (((h.offers, h.servers), h.subscriptions), (h.sessions, h.receivers))), ((h.ways, h.is_offered), (h.times, h.cycles))))
    (λ c. record { times = c.1.1.0; cycles = c.1.1.1; calls = c.0.0.0.0; segments = c.0.0.0.1; events = c.0.0.1.0; watched = c.0.0.1.1; offers = c.0.1.0.0.0; servers = c.0.1.0.0.1; subscriptions = c.0.1.0.1; sessions = c.0.1.1.0; receivers = c.0.1.1.1; ways = c.1.0.0; is_offered = c.1.0.1 })
    (λ _. refl)
