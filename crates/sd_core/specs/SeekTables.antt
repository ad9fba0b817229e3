-- The instances that a node wants (SOME/IP Service Discovery Protocol, "Startup behavior", "Offer Service entry").
use Rattle.std.specs.Prelude.{◌≡◌, ℕ, ◌==◌, Bool, false, not, ◌&&◌, if◌then◌else◌, Option, None, Some, is_none, refl}
use Rattle.std.specs.Option.{option_map, option_map_or}
use Rattle.std.specs.Ordering.{eq_by_cmp}
use Rattle.std.specs.Coded.{Coded, code_by, coded×, coded_ℕ}
use Rattle.std.specs.FinMap as finite
use Rattle.std.specs.FinMap.{FinMap}
use Rattle.std.specs.declared.net.ipv4_addr.Ipv4Addr.{Ipv4Addr}
use Rattle.std.specs.declared.net.socket_addr.SocketAddrV4.{SocketAddrV4}
use Rattle.someip_tables.specs.declared.lasting.Lasting.{Lasting}
use Rattle.someip_tables.specs.Deadlines.{deadline_after, has_passed}
use Rattle.someip_tables.specs.Endpoints.{address_cmp, endpoint_cmp, coded_address, coded_endpoint}
use Rattle.someip_tables.specs.Lastings.{unless_passed, expired, unexpired, coded_lasting}
use Rattle.someip_tables.specs.Retained.{retain}
use Rattle.sd_core.specs.declared.keys.InstanceId.{InstanceId}
use Rattle.sd_core.specs.declared.phases.Phases.{Phases}
use Rattle.sd_core.specs.declared.received.ReceivedOffer.{ReceivedOffer}
use Rattle.sd_core.specs.declared.received.KnownOffer.{KnownOffer}
use Rattle.sd_core.specs.declared.received.Counted.{Counted}
use Rattle.sd_core.specs.declared.received.Counted.TheVariants.{New, Moved, Renewed}
use Rattle.sd_core.specs.declared.received.Uncounted.{Uncounted}
use Rattle.sd_core.specs.declared.received.Uncounted.TheVariants.{Unwanted, NoEndpoint, OtherPeer}
use Rattle.sd_core.specs.declared.sending.Sending.{Sending}
use Rattle.sd_core.specs.declared.want.Want.{Want}
use Rattle.sd_core.specs.Keys.{instance_cmp, coded_instance}
use Rattle.sd_core.specs.Shown.{shown, map_values}
use Rattle.sd_core.specs.Sendings.{first_at, after_find, due_at, coded_sending}

-- the major versions in which instances are wanted, the offers that are known of them and until when, and when each
-- that is still searched for sends its next Find
pub record SeekTable : Type 0 where
  pub wanted : FinMap instance_cmp ℕ
  pub known : FinMap instance_cmp (Lasting KnownOffer)
  pub finding : FinMap instance_cmp Sending

-- what the wants show
abbrev pub seek_of : FinMap instance_cmp Want → SeekTable
seek_of wants = record {
  wanted = map_values (λ w. w.major) wants;
  known = shown (λ w. w.known) wants;
  finding = shown (λ w. w.finding) wants;
}

-- nothing is known, and every wanted instance is searched for and sends this as its first Find
abbrev pub searching_from : Sending → SeekTable → SeekTable
searching_from first table = record { wanted = table.wanted; known = finite.empty; finding = map_values (λ _. first) table.wanted }

abbrev pub searching : ℕ → SeekTable → SeekTable
searching delay table = searching_from (first_at delay) table

-- what has passed is known no longer, and the Finds that are due went out
abbrev pub seek_after_tick : Phases → ℕ → SeekTable → SeekTable
seek_after_tick phases now table = record {
  wanted = table.wanted;
  known = unexpired now table.known;
  finding = shown (after_find phases now) table.finding;
}

-- at this moment no offer has passed, and no Find is due
abbrev pub IsQuiet : ℕ → SeekTable → Type 0
IsQuiet now table = (expired now table.known ≡ finite.empty) × (due_at now table.finding ≡ finite.empty)

-- an offer is known only of an instance that is wanted
abbrev pub KnowsWanted : SeekTable → Type 0
KnowsWanted table = (instance : InstanceId) → finite.get table.wanted instance ≡ None → finite.get table.known instance ≡ None

-- the offer, unless it has passed
abbrev pub known_at : ℕ → Option (Lasting KnownOffer) → Option KnownOffer
known_at now lasting = option_map (λ l. l.value) (unless_passed now lasting)

-- a peer made the offer
abbrev pub is_by : Ipv4Addr → KnownOffer → Bool
is_by peer known = eq_by_cmp address_cmp known.peer peer

-- an Offer's instance is wanted in its major version
abbrev pub is_wanted : ℕ → Option ℕ → Bool
is_wanted major wanted = option_map_or (λ w. w == major) wanted false

-- why an Offer does not count, by the version that is wanted of its instance and the offer that is known: it is not
-- wanted, it has no endpoint, or another peer's offer is known
abbrev pub offer_refusal : Option ℕ → Option KnownOffer → ReceivedOffer → Option Uncounted
offer_refusal wanted known offer =
    if not (is_wanted offer.major wanted) then Some Unwanted
    else if is_none offer.endpoint then Some NoEndpoint
    else if option_map_or (λ k. not (is_by offer.peer k)) known false then Some OtherPeer
    else None

abbrev pub uncounted : ReceivedOffer → ℕ → SeekTable → Option Uncounted
uncounted offer now table = offer_refusal (finite.get table.wanted offer.instance) (known_at now (finite.get table.known offer.instance)) offer

-- what an Offer that counts changes, by its endpoint and the offer that was known
abbrev pub counted_as : SocketAddrV4 → Option KnownOffer → Counted
counted_as endpoint None = New
counted_as endpoint (Some known) = if eq_by_cmp endpoint_cmp known.endpoint endpoint then Renewed else Moved

-- an offer is known until its TTL has passed, and its instance is searched for no longer
abbrev pub learned : ReceivedOffer → SocketAddrV4 → ℕ → SeekTable → SeekTable
learned offer endpoint now table = record {
  wanted = table.wanted;
  known = finite.insert table.known offer.instance (record {
    value = record { peer = offer.peer; endpoint = endpoint };
    until = deadline_after now offer.ttl;
  });
  finding = finite.remove table.finding offer.instance;
}

-- an offer that a peer made has not passed
abbrev pub stands_by : Ipv4Addr → ℕ → Lasting KnownOffer → Bool
stands_by peer now lasting = not (has_passed now lasting.until) && is_by peer lasting.value

-- the offers that are known of a peer
abbrev pub known_of : Ipv4Addr → ℕ → SeekTable → FinMap instance_cmp (Lasting KnownOffer)
known_of peer now table = retain table.known (λ _ lasting. stands_by peer now lasting)

-- the offers of a peer that were known are so no longer
abbrev pub forgetting : Ipv4Addr → ℕ → SeekTable → SeekTable
forgetting peer now table = record {
  wanted = table.wanted;
  known = retain table.known (λ _ lasting. not (stands_by peer now lasting));
  finding = table.finding;
}

-- a StopOffer of a peer ends an offer: its instance is wanted in its major version, and the peer's offer is known
abbrev pub is_stopped : InstanceId → ℕ → Ipv4Addr → ℕ → SeekTable → Bool
is_stopped instance major peer now table =
    is_wanted major (finite.get table.wanted instance) && option_map_or (stands_by peer now) (finite.get table.known instance) false

-- codes, by which a proof tells values apart
abbrev pub coded_known : Coded KnownOffer
coded_known = code_by (Ipv4Addr × SocketAddrV4) (coded× coded_address coded_endpoint) (λ k. (k.peer, k.endpoint)) (λ c. record { peer = c.0; endpoint = c.1 }) (λ _. refl)

abbrev pub coded_seek : Coded SeekTable
coded_seek =
    code_by (FinMap instance_cmp ℕ × (FinMap instance_cmp (Lasting KnownOffer) × FinMap instance_cmp Sending))
    (coded× (finite.code coded_instance coded_ℕ) (coded× (finite.code coded_instance (coded_lasting coded_known)) (finite.code coded_instance coded_sending)))
    (λ t. (t.wanted, (t.known, t.finding))) (λ c. record { wanted = c.0; known = c.1.0; finding = c.1.1 }) (λ _. refl)
