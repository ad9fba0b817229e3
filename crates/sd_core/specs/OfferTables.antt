-- The instances that a node offers (SOME/IP Service Discovery Protocol, "Startup behavior", "Find Service entry").
use Rattle.std.specs.Prelude.{ℕ, ◌==◌, Bool, false, ◌&&◌, ◌||◌, refl}
use Rattle.std.specs.Option.{option_map_or}
use Rattle.std.specs.Coded.{Coded, code_by, coded×, coded_ℕ}
use Rattle.std.specs.FinMap as finite
use Rattle.std.specs.FinMap.{FinMap}
use Rattle.someip_tables.specs.Retained.{retain}
use Rattle.sd_core.specs.declared.keys.InstanceId.{InstanceId}
use Rattle.sd_core.specs.declared.version.Version.{Version}
use Rattle.sd_core.specs.declared.version.Sought.{Sought}
use Rattle.sd_core.specs.declared.phases.Phases.{Phases}
use Rattle.sd_core.specs.declared.sending.Sending.{Sending}
use Rattle.sd_core.specs.declared.offers.Offering.{Offering}
use Rattle.sd_core.specs.Keys.{instance_cmp, coded_instance}
use Rattle.sd_core.specs.Shown.{shown, map_values}
use Rattle.sd_core.specs.Sendings.{first_at, has_sent, sent_if_due, coded_sending}

-- the versions of the instances that a node may offer, and when each that is up sends its next Offer
pub record OfferTable : Type 0 where
  pub versions : FinMap instance_cmp Version
  pub up : FinMap instance_cmp Sending

-- what the table of the instances shows
abbrev pub offers_of : FinMap instance_cmp Offering → OfferTable
offers_of offerings = record { versions = map_values (λ o. o.version) offerings; up = shown (λ o. o.sending) offerings }

-- every instance is up, and this is when it sends its first Offer
abbrev pub started_at : Sending → OfferTable → OfferTable
started_at first offers = record { versions = offers.versions; up = map_values (λ _. first) offers.versions }

-- the node starts: every instance is up, and sends its first Offer after the initial delay
abbrev pub started : ℕ → OfferTable → OfferTable
started delay offers = started_at (first_at delay) offers

-- the Offers that are due went out
abbrev pub after_tick : Phases → ℕ → OfferTable → OfferTable
after_tick phases now offers = record { versions = offers.versions; up = map_values (sent_if_due phases now) offers.up }

-- an instance is down
abbrev pub without : InstanceId → OfferTable → OfferTable
without instance offers = record { versions = offers.versions; up = finite.remove offers.up instance }

-- a Find asks for an instance of a version: of its service, and of its instance, major and minor, each of which may be any
abbrev pub is_sought : Sought → InstanceId → Version → Bool
is_sought sought instance version =
    (instance.service == sought.service)
    && ((sought.instance == 0xFFFF) || (instance.instance == sought.instance))
    && ((sought.major == 0xFF) || (version.major == sought.major))
    && ((sought.minor == 0xFFFFFFFF) || (version.minor == sought.minor))

-- the instances that answer a Find: those that it asks for, among those that are up and have sent their first Offer
abbrev pub answering : Sought → OfferTable → FinMap instance_cmp Sending
answering sought offers =
    retain offers.up (λ instance sending. option_map_or (is_sought sought instance) (finite.get offers.versions instance) false && has_sent sending)

abbrev pub coded_version : Coded Version
coded_version = code_by (ℕ × ℕ) (coded× coded_ℕ coded_ℕ) (λ v. (v.major, v.minor)) (λ c. record { major = c.0; minor = c.1 }) (λ _. refl)

abbrev pub coded_offers : Coded OfferTable
coded_offers =
    code_by (FinMap instance_cmp Version × FinMap instance_cmp Sending) (coded× (finite.code coded_instance coded_version) (finite.code coded_instance coded_sending))
    (λ o. (o.versions, o.up)) (λ c. record { versions = c.0; up = c.1 }) (λ _. refl)
