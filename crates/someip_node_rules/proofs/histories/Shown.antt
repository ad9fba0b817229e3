-- What a node does with its tables is what it does by its history.
use Rattle.std.proofs.Common.{◌≡◌, List, [], ◌∷◌, ◌++◌, refl, ap, ◌∙◌}
use Rattle.std.specs.List.{flat_map, fold}
use Rattle.someip_node_rules.specs.histories.History.{History, answers_of, historic, met, shown_work}
use Rattle.someip_node_rules.specs.histories.Items.{Item, AckCame, AnswerTaken, Answered, Called, GroupAddressed, MessageTaken, NackCame, OfferCounted, OfferStopped, OfferWithdrawn, PeerAddressed, PeerHeard, PeerRebooted, Published, Requested, SegmentOffered, SubscriptionAccepted, SubscriptionStopped, Ticked, Unwished, Wished, changed}
use Rattle.someip_node_rules.specs.rules.Outcomes.{Outcome}
use Rattle.someip_node_rules.specs.forms.Outputs.{written}
use Rattle.someip_node_rules.specs.rules.Plans.{Plan, rest, act, both, asks, replying, Work, does, plain, rule, run, work}
use Rattle.someip_node_rules.specs.histories.Tables.{Tables}
use Rattle.someip_node_rules.proofs.histories.CallLives.{client_called, events_published, pending_answered, pending_ticked, requests_answered, server_requested}
use Rattle.someip_node_rules.proofs.histories.DiscoveryLives.{peers_heard, unicast_addressed}
use Rattle.someip_node_rules.proofs.histories.OfferLives.{known_withdrawn, offers_stopped, offers_ticked, seek_counted, seek_rebooted, seek_ticked}
use Rattle.someip_node_rules.proofs.histories.SubscriberLives.{subscribers_accepted, subscribers_rebooted, subscribers_stopped, subscribers_ticked, subscribers_unoffered}
use Rattle.someip_node_rules.proofs.histories.WishLives.{wishes_acked, wishes_nacked, wishes_offered, wishes_rebooted, wishes_ticked, wishes_unwished, wishes_wished, wishes_withdrawn}

-- ---- items

pub answers_met : (h : History) (item : Item) → answers_of (met h item) ≡ changed (answers_of h) item
answers_met h (Ticked ms) = λ i. record (answers_of (met h (Ticked ms))) {
  offers = offers_ticked h.config h.delay h.items ms i;
  seek = seek_ticked h.config h.delay h.items ms i;
  subscribers = subscribers_ticked h.items ms i;
  wishes = wishes_ticked h.items ms i;
  client = record (answers_of h).client { pending = pending_ticked h.config h.items ms i };
}
answers_met h (SegmentOffered o) = refl
answers_met h (MessageTaken key) = refl
answers_met h (PeerRebooted peer) = λ i. record (answers_of h) {
  seek = seek_rebooted h.config h.delay h.items peer i;
  subscribers = subscribers_rebooted h.items peer i;
  wishes = wishes_rebooted h.items peer i;
}
answers_met h (PeerHeard peer channel stamp) = λ i. record (answers_of h) { peers = peers_heard h.items peer channel stamp i }
answers_met h (OfferCounted offer endpoint) = λ i. record (answers_of h) {
  seek = seek_counted h.config h.delay h.items offer endpoint i;
  wishes = wishes_offered h.items offer endpoint i;
}
answers_met h (OfferWithdrawn instance) = λ i. record (answers_of h) {
  seek = record (answers_of h).seek { known = known_withdrawn h.config h.delay h.items instance i };
  wishes = wishes_withdrawn h.items instance i;
}
answers_met h (SubscriptionAccepted s ttl) = λ i. record (answers_of h) { subscribers = subscribers_accepted h.items s ttl i }
answers_met h (SubscriptionStopped s) = λ i. record (answers_of h) { subscribers = subscribers_stopped h.items s i }
answers_met h (AckCame answer ttl) = λ i. record (answers_of h) { wishes = wishes_acked h.items answer ttl i }
answers_met h (NackCame answer) = λ i. record (answers_of h) { wishes = wishes_nacked h.items answer i }
answers_met h GroupAddressed = refl
answers_met h (PeerAddressed peer) = λ i. record (answers_of h) { unicast = unicast_addressed h.items peer i }
answers_met h (Called call peer session) = λ i. record (answers_of h) { client = client_called h.config h.items call peer session i }
answers_met h (AnswerTaken key) = λ i. record (answers_of h) { client = record (answers_of h).client { pending = pending_answered h.config h.items key i } }
answers_met h (Requested request) = λ i. record (answers_of h) { server = server_requested h.items request i }
answers_met h (Answered token) = λ i. record (answers_of h) { server = record (answers_of h).server { requests = requests_answered h.items token i } }
answers_met h (Published event) = λ i. record (answers_of h) { server = record (answers_of h).server { sessions = events_published h.items event i } }
answers_met h (Wished eventgroup) = λ i. record (answers_of h) { wishes = wishes_wished h.items eventgroup i }
answers_met h (Unwished eventgroup) = λ i. record (answers_of h) { wishes = wishes_unwished h.items eventgroup i }
answers_met h (OfferStopped instance) = λ i. record (answers_of h) {
  offers = offers_stopped h.config h.delay h.items instance i;
  subscribers = subscribers_unoffered h.items instance i;
}

pub answers_met_all : (h : History) (items : List Item) → answers_of (fold met h items) ≡ fold changed (answers_of h) items
answers_met_all h [] = refl
answers_met_all h (item ∷ items) = answers_met_all (met h item) items ∙ ap (λ t. fold changed t items) (answers_met h item)

-- ---- plans

pub does_shown : (outcome : Tables → Outcome) (w : Work History) → shown_work (does historic outcome w) ≡ does plain outcome (shown_work w)
does_shown outcome w =
    ap (λ t. work t (w.outputs ++ flat_map written (outcome (answers_of w.state)).given) (w.replies ++ (outcome (answers_of w.state)).replies))
    (answers_met_all w.state (outcome (answers_of w.state)).items)

pub run_shown : (p : Plan) (w : Work History) → shown_work (run historic p w) ≡ run plain p (shown_work w)
run_shown rest w = refl
run_shown (act r) w = does_shown (rule r) w
run_shown (both p q) w = run_shown q (run historic p w) ∙ ap (run plain q) (run_shown p w)
run_shown (asks f) w = run_shown (f (answers_of w.state)) w
run_shown (replying f) w = run_shown (f w.replies) (record w { replies = [] })
