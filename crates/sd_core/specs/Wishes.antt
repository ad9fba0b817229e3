-- What a client keeps of an eventgroup that it wished (SOME/IP Service Discovery Protocol, "Publish/Subscribe").
use Rattle.std.specs.Prelude.{◌≡◌, ℕ, ◌+◌, ◌%◌, ◌==◌, Bool, true, false, ◌&&◌, if◌then◌else◌, Option, None, Some, is_some, refl}
use Rattle.std.specs.Option.{option_and_then, option_map, option_map_or}
use Rattle.std.specs.Coded.{Coded, code_by, coded×, coded_ℕ, coded_option}
use Rattle.std.specs.Ordering.{eq_by_cmp}
use Rattle.std.specs.declared.net.ipv4_addr.Ipv4Addr.{Ipv4Addr}
use Rattle.someip_tables.specs.declared.deadline.Deadline.{Deadline}
use Rattle.someip_tables.specs.Deadlines.{has_passed, coded_deadline, deadline_after, millis_of}
use Rattle.someip_tables.specs.Endpoints.{address_cmp, coded_address}
use Rattle.sd_core.specs.declared.keys.InstanceId.{InstanceId}
use Rattle.sd_core.specs.declared.eventgroup.Eventgroup.{Eventgroup}
use Rattle.sd_core.specs.declared.wish.Beginning.{Beginning}
use Rattle.sd_core.specs.declared.wish.Stage.{Stage}
use Rattle.sd_core.specs.declared.wish.Stage.TheVariants.{Unwished, Waiting, Begun}
use Rattle.sd_core.specs.declared.wish.Wish.{Wish}
use Rattle.sd_core.specs.declared.wish.OutgoingSubscribe.{OutgoingSubscribe}
use Rattle.sd_core.specs.declared.wish.SubscribeAnswer.{SubscribeAnswer}
use Rattle.sd_core.specs.declared.wish.Acked.{Acked}
use Rattle.sd_core.specs.declared.wish.Acked.TheVariants.{Subscribed, Renewed, NotPending}
use Rattle.sd_core.specs.Keys.{instance_cmp}

-- ---- a subscription that was begun

-- this has passed; what is not yet known has not
abbrev pub has_ended : ℕ → Option Deadline → Bool
has_ended now None = false
has_ended now (Some until) = has_passed now until

-- the time of its Ack has passed
abbrev pub is_over : ℕ → Beginning → Bool
is_over now beginning = has_ended now beginning.until

-- it was begun at this peer
abbrev pub is_with : Ipv4Addr → Beginning → Bool
is_with peer beginning = eq_by_cmp address_cmp beginning.peer peer

-- the subscription that stands: the one that was begun, unless the time of its Ack has passed
abbrev pub standing : ℕ → Stage → Option Beginning
standing now Unwished = None
standing now Waiting = None
standing now (Begun beginning) = if is_over now beginning then None else Some beginning

-- a subscription stands that was begun at this peer
abbrev pub stands_with : ℕ → Ipv4Addr → Stage → Bool
stands_with now peer stage = option_map_or (is_with peer) (standing now stage) false

-- the client is subscribed: the server acknowledged, and the time of its Ack has not passed
abbrev pub is_subscribed : ℕ → Stage → Bool
is_subscribed now stage = option_map_or (λ beginning. is_some beginning.until) (standing now stage) false

-- ---- wishes

-- an eventgroup that was never wished: counters begin at 0
abbrev pub first_wish : Wish
first_wish = record { stage = Unwished; next_counter = 0 }

-- what is kept of an eventgroup, and where nothing is, that it was never wished
abbrev pub wish_of : Option Wish → Wish
wish_of None = first_wish
wish_of (Some wish) = wish

-- the wish stands
abbrev pub is_wished : Stage → Bool
is_wished Unwished = false
is_wished Waiting = true
is_wished (Begun beginning) = true

-- how far a wish is that stands from now on: as far as it was where it stood before, and else it waits
abbrev pub stage_wished : Stage → Stage
stage_wished Unwished = Waiting
stage_wished Waiting = Waiting
stage_wished (Begun beginning) = Begun beginning

-- the wish stands from now on; a subscription that was begun goes on, and so does the counter
abbrev pub wished : Wish → Wish
wished wish = record wish { stage = stage_wished wish.stage }

-- the wish stands no more, and its subscription with it; the counter goes on
abbrev pub unwished : Wish → Wish
unwished wish = record wish { stage = Unwished }

-- a subscription is begun at a peer with the next counter; counters have four bits
abbrev pub begun_at : Ipv4Addr → Wish → Wish
begun_at peer wish = record {
  stage = Begun (record { peer = peer; counter = wish.next_counter; until = None });
  next_counter = (wish.next_counter + 1) % 16;
}

-- a Subscribe goes out to a peer: it renews the subscription that stands there, and else begins one
abbrev pub subscribing : ℕ → Ipv4Addr → Wish → Wish
subscribing now peer wish = if stands_with now peer wish.stage then wish else begun_at peer wish

-- the counter of the subscription that was begun
abbrev pub counter_in : Stage → Option ℕ
counter_in Unwished = None
counter_in Waiting = None
counter_in (Begun beginning) = Some beginning.counter

-- an eventgroup is wished, while an offer of a peer is known or while none is
abbrev pub wished_with : ℕ → Option Ipv4Addr → Wish → Wish
wished_with now None wish = wished wish
wished_with now (Some peer) wish = subscribing now peer wish

-- the counter of the Subscribe that goes out at once, if an offer is known
abbrev pub sent_at_once : ℕ → Option Ipv4Addr → Wish → Option ℕ
sent_at_once now None wish = None
sent_at_once now (Some peer) wish = counter_in (subscribing now peer wish).stage

-- ---- an Offer of a wanted instance

-- an Offer of an instance brings about a Subscribe of an eventgroup of it, if the wish of the eventgroup stands
abbrev pub is_renewed_by : InstanceId → Eventgroup → Wish → Bool
is_renewed_by instance eventgroup wish = eq_by_cmp instance_cmp eventgroup.instance instance && is_wished wish.stage

-- the wish of an eventgroup once an Offer counted: a Subscribe went out, where the Offer brings one about
abbrev pub offered_wish : ℕ → InstanceId → Ipv4Addr → Eventgroup → Wish → Wish
offered_wish now instance peer eventgroup wish = if is_renewed_by instance eventgroup wish then subscribing now peer wish else wish

-- the Subscribe of an eventgroup
abbrev pub subscribe_of : ℕ → InstanceId → Ipv4Addr → Eventgroup → Wish → Option OutgoingSubscribe
subscribe_of now instance peer eventgroup wish =
    if is_renewed_by instance eventgroup wish then option_map (λ counter. record { eventgroup = eventgroup; counter = counter }) (counter_in (subscribing now peer wish).stage)
    else None

-- ---- the answer to a Subscribe

-- it answers the subscription that stands: major version, peer and counter are equal
abbrev pub is_answered : ℕ → SubscribeAnswer → Stage → Bool
is_answered now answer stage =
    option_map_or (λ beginning. answer.has_wanted_major && is_with answer.peer beginning && (beginning.counter == answer.counter)) (standing now stage) false

-- the client is subscribed until a deadline
abbrev pub stage_acked : Deadline → Stage → Stage
stage_acked until Unwished = Unwished
stage_acked until Waiting = Waiting
stage_acked until (Begun beginning) = Begun (record beginning { until = Some until })

-- an Ack came: where it answers the subscription that stands, the client is subscribed until the TTL of this Ack has
-- passed, be it sooner or later than before
abbrev pub acked_wish : ℕ → SubscribeAnswer → ℕ → Wish → Wish
acked_wish now answer ttl wish = if is_answered now answer wish.stage then record wish { stage = stage_acked (deadline_after now ttl) wish.stage } else wish

-- a Nack came: where it answers the subscription that stands, that subscription ends; the wish stands
abbrev pub nacked_wish : ℕ → SubscribeAnswer → Wish → Wish
nacked_wish now answer wish = if is_answered now answer wish.stage then record wish { stage = Waiting } else wish

-- what an Ack brings about
abbrev pub told_by_ack : ℕ → SubscribeAnswer → Stage → Acked
told_by_ack now answer stage = if is_answered now answer stage then (if is_subscribed now stage then Renewed else Subscribed) else NotPending

-- ---- subscriptions that end

-- a subscription was begun that passes a test
abbrev pub has_begun : (Beginning → Bool) → Stage → Bool
has_begun test Unwished = false
has_begun test Waiting = false
has_begun test (Begun beginning) = test beginning

-- a subscription that passes the test ends; the wish stands
abbrev pub ended_wish : (Beginning → Bool) → Wish → Wish
ended_wish test wish = if has_begun test wish.stage then record wish { stage = Waiting } else wish

-- ---- what a wish waits for

-- the moment at which the time of the Ack of a subscription passes
abbrev pub moment_in : Stage → Option ℕ
moment_in Unwished = None
moment_in Waiting = None
moment_in (Begun beginning) = option_and_then millis_of beginning.until

-- the moment that a wish waits for
abbrev pub moment_of : Wish → Option ℕ
moment_of wish = moment_in wish.stage

-- ---- codes, by which a proof tells values apart

abbrev pub coded_beginning : Coded Beginning
coded_beginning =
    code_by (Ipv4Addr × (ℕ × Option Deadline)) (coded× coded_address (coded× coded_ℕ (coded_option coded_deadline))) (λ b. (b.peer, (b.counter, b.until)))
    (λ c. record { peer = c.0; counter = c.1.0; until = c.1.1 }) (λ _. refl)

abbrev pub begun_in : Stage → Option (Option Beginning)
begun_in Unwished = None
begun_in Waiting = Some None
begun_in (Begun beginning) = Some (Some beginning)

abbrev pub stage_in : Option (Option Beginning) → Stage
stage_in None = Unwished
stage_in (Some None) = Waiting
stage_in (Some (Some beginning)) = Begun beginning

pub stage_in-begun_in : (stage : Stage) → stage_in (begun_in stage) ≡ stage
stage_in-begun_in Unwished = refl
stage_in-begun_in Waiting = refl
stage_in-begun_in (Begun beginning) = refl

abbrev pub coded_stage : Coded Stage
coded_stage = code_by (Option (Option Beginning)) (coded_option (coded_option coded_beginning)) begun_in stage_in stage_in-begun_in

abbrev pub coded_wish : Coded Wish
coded_wish = code_by (Stage × ℕ) (coded× coded_stage coded_ℕ) (λ w. (w.stage, w.next_counter)) (λ c. record { stage = c.0; next_counter = c.1 }) (λ _. refl)
