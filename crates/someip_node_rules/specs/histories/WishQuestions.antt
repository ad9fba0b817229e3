-- The questions of the eventgroups that a client wishes (SOME/IP Service Discovery Protocol, "Publish/Subscribe").
use Rattle.std.specs.Prelude.{ℕ, suc, ◌+◌, ◌%◌, Bool, true, false, not, ◌&&◌, ◌||◌, if◌then◌else◌, List, [], ◌∷◌, Option, None, Some}
use Rattle.std.specs.List.{flat_map}
use Rattle.std.specs.Option.{option_map, option_map_or}
use Rattle.std.specs.Ordering.{eq_by_cmp}
use Rattle.std.specs.declared.net.ipv4_addr.Ipv4Addr.{Ipv4Addr}
use Rattle.someip_tables.specs.declared.deadline.Deadline.{Deadline}
use Rattle.someip_tables.specs.declared.lasting.Lasting.{Lasting}
use Rattle.someip_tables.specs.Deadlines.{deadline_after, has_passed}
use Rattle.someip_tables.specs.Retained.{kept_if}
use Rattle.sd_core.specs.declared.eventgroup.Eventgroup.{Eventgroup}
use Rattle.sd_core.specs.declared.keys.InstanceId.{InstanceId}
use Rattle.sd_core.specs.declared.received.KnownOffer.{KnownOffer}
use Rattle.sd_core.specs.declared.wish.Beginning.{Beginning}
use Rattle.sd_core.specs.declared.wish.Stage.{Stage}
use Rattle.sd_core.specs.declared.wish.Stage.TheVariants.{Begun, Unwished as NotWished, Waiting}
use Rattle.sd_core.specs.declared.wish.SubscribeAnswer.{SubscribeAnswer}
use Rattle.sd_core.specs.declared.wish.Wish.{Wish}
use Rattle.sd_core.specs.Eventgroups.{eventgroup_cmp}
use Rattle.sd_core.specs.Keys.{instance_cmp}
use Rattle.sd_core.specs.SeekTables.{known_at}
use Rattle.sd_core.specs.Wishes.{is_answered, is_over, is_with, stands_with}
use Rattle.sd_core.specs.WishTables.{Wishes}
use Rattle.someip_node_rules.specs.histories.Items.{Item, AckCame, NackCame, OfferCounted, OfferWithdrawn, PeerRebooted, Ticked, Unwished, Wished}
use Rattle.someip_node_rules.specs.histories.Questions.{clock_at, latest, table_of}
use Rattle.someip_node_rules.specs.histories.SeekQuestions.{known_offer_at}

abbrev pub same_eventgroup : Eventgroup → Eventgroup → Bool
same_eventgroup = eq_by_cmp eventgroup_cmp

-- ---- wishes

-- an eventgroup is wished: the wish was not taken back since
abbrev pub wished_by : Item → List Item → Eventgroup → Bool → Bool
wished_by (Wished eventgroup) before q stood = if same_eventgroup q eventgroup then true else stood
wished_by (Unwished eventgroup) before q stood = if same_eventgroup q eventgroup then false else stood
wished_by item before q stood = stood

abbrev pub is_wished_at : List Item → Eventgroup → Bool
is_wished_at = latest wished_by (λ _. false)

-- ---- subscriptions

-- the subscription of an eventgroup that was begun and has not ended, and how many of it were begun
pub record Course : Type 0 where
  pub beginning : Option Beginning
  pub begun : ℕ

-- the subscription ends where it passes a test
abbrev pub ended_if : (Beginning → Bool) → Course → Course
ended_if test course = record course { beginning = kept_if (λ beginning. not (test beginning)) course.beginning }

-- the subscription stands at a peer at a moment
abbrev pub goes_on : ℕ → Ipv4Addr → Option Beginning → Bool
goes_on now peer None = false
goes_on now peer (Some beginning) = stands_with now peer (Begun beginning)

-- a subscription begins at a peer, with the number of those before it as its counter, which has four bits
abbrev pub begins_at : Ipv4Addr → Course → Course
begins_at peer course = record {
  beginning = Some (record { peer = peer; counter = course.begun % 16; until = None });
  begun = suc course.begun;
}

-- a Subscribe goes out to a peer at a moment: it renews the subscription that stands there, and else begins one
abbrev pub subscribes_at : ℕ → Ipv4Addr → Course → Course
subscribes_at now peer course = if goes_on now peer course.beginning then course else begins_at peer course

-- and to the peer whose offer is known, if one is
abbrev pub subscribes_if_known : ℕ → Option Ipv4Addr → Course → Course
subscribes_if_known now None course = course
subscribes_if_known now (Some peer) course = subscribes_at now peer course

-- an Ack or a Nack answers a subscription at a moment
abbrev pub is_answered_by : ℕ → SubscribeAnswer → Beginning → Bool
is_answered_by now answer beginning = is_answered now answer (Begun beginning)

-- an Ack that answers it gives it a deadline
abbrev pub acked_if : (Beginning → Bool) → Deadline → Course → Course
acked_if test until course =
    record course { beginning = option_map (λ beginning. if test beginning then record beginning { until = Some until } else beginning) course.beginning }

-- the peer whose offer of an instance is known
abbrev pub known_peer_at : List Item → InstanceId → Option Ipv4Addr
known_peer_at items instance = option_map (λ known. known.peer) (known_at (clock_at items) (known_offer_at items instance))

-- the time of an offer that was known has passed at a moment
abbrev pub has_lapsed : ℕ → Option (Lasting KnownOffer) → Bool
has_lapsed now known = option_map_or (λ lasting. has_passed now lasting.until) known false

-- What became of the subscriptions of an eventgroup. One begins as a Subscribe goes out: with an Offer of its instance
-- while it is wished, and with a wish while an offer is known, unless one stands there already. It ends with its wish, by
-- a Nack, with the offer of its instance, as its peer begins again, and as the time of its Ack passes
abbrev pub course_by : Item → List Item → Eventgroup → Course → Course
course_by (OfferCounted offer endpoint) before q stood =
    if eq_by_cmp instance_cmp q.instance offer.instance && is_wished_at before q then subscribes_at (clock_at before) offer.peer stood else stood
course_by (Wished eventgroup) before q stood =
    if same_eventgroup q eventgroup then subscribes_if_known (clock_at before) (known_peer_at before eventgroup.instance) stood else stood
course_by (AckCame answer ttl) before q stood =
    if same_eventgroup q answer.eventgroup then acked_if (is_answered_by (clock_at before) answer) (deadline_after (clock_at before) ttl) stood else stood
course_by (NackCame answer) before q stood =
    if same_eventgroup q answer.eventgroup then ended_if (is_answered_by (clock_at before) answer) stood else stood
course_by (Unwished eventgroup) before q stood = ended_if (λ _. same_eventgroup q eventgroup) stood
course_by (OfferWithdrawn instance) before q stood = ended_if (λ _. eq_by_cmp instance_cmp q.instance instance) stood
course_by (PeerRebooted peer) before q stood = ended_if (is_with peer) stood
course_by (Ticked ms) before q stood =
    ended_if (λ beginning. is_over (clock_at before + ms) beginning || has_lapsed (clock_at before + ms) (known_offer_at before q.instance)) stood
course_by item before q stood = stood

abbrev pub course_at : List Item → Eventgroup → Course
course_at = latest course_by (λ _. record { beginning = None; begun = 0 })

-- ---- how far each wish is

abbrev pub stage_of : Bool → Option Beginning → Stage
stage_of false beginning = NotWished
stage_of true None = Waiting
stage_of true (Some beginning) = Begun beginning

abbrev pub wish_from : Bool → Course → Wish
wish_from wished course = record { stage = stage_of wished course.beginning; next_counter = course.begun % 16 }

abbrev pub wish_at : List Item → Eventgroup → Wish
wish_at items eventgroup = wish_from (is_wished_at items eventgroup) (course_at items eventgroup)

-- the eventgroups that were wished
abbrev pub eventgroup_wished : Item → List Eventgroup
eventgroup_wished (Wished eventgroup) = eventgroup ∷ []
eventgroup_wished item = []

abbrev pub wishes_in : List Item → Wishes
wishes_in items = table_of (flat_map eventgroup_wished items) (λ eventgroup. Some (wish_at items eventgroup))
