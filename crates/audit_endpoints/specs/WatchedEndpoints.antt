-- At which ports and endpoints datagrams are looked at.
use Rattle.std.specs.Prelude.{ℕ, ◌==◌, nat_lt, Bool, true, false, not, ◌&&◌, ◌||◌, if◌then◌else◌, List, Option, None, is_some, refl}
use Rattle.std.specs.List.{list_any}
use Rattle.std.specs.Coded.{Coded, code_by, coded×, coded_ℕ, coded_bool, coded_list}
use base.Stored.{coded_unit}
use Rattle.std.specs.FinMap as finite
use Rattle.std.specs.FinMap.{FinMap}
use Rattle.std.specs.declared.net.socket_addr.SocketAddrV4.{SocketAddrV4}
use Rattle.std.specs.Net.Socket.{v4_port}
use Rattle.someip_tables.specs.Endpoints.{coded_endpoint, endpoint_cmp}
use Rattle.someip_tables.specs.declared.hashed.origin.Origin.{Origin}
use Rattle.someip_tables.specs.hashed.Rooms.{told_when_full}
use Rattle.audit_endpoints.specs.declared.finding.Finding.{Finding}
use Rattle.audit_endpoints.specs.declared.finding.Finding.TheVariants.{Full}
use Rattle.audit_endpoints.specs.DiscoveryMessages.{is_at_discovery}

-- the endpoints that were learnt
abbrev pub Learnt : Type 0
Learnt = FinMap endpoint_cmp (Unit {0})

-- the ports that are looked at, whether endpoints are learnt, how many may be, those that were, and whether it was told that no
-- more may
pub record Watch : Type 0 where
  pub ports : List ℕ
  pub learns : Bool
  pub limit : ℕ
  pub learnt : Learnt
  pub told_full : Bool

-- before anything was learnt
abbrev pub watch_begun : List ℕ → Bool → ℕ → Watch
watch_begun ports learns limit = record { ports = ports; learns = learns; limit = limit; learnt = finite.empty; told_full = false }

-- ---- which datagrams are looked at

-- from or to one of these ports
abbrev pub is_at_ports : List ℕ → Origin → Bool
is_at_ports ports origin = list_any (λ port. port == v4_port origin.from) ports || list_any (λ port. port == v4_port origin.to) ports

-- from or to an endpoint that was learnt
abbrev pub is_at_learnt : Learnt → Origin → Bool
is_at_learnt learnt origin = is_some (finite.get learnt origin.from) || is_some (finite.get learnt origin.to)

-- by the ports or by the endpoints
abbrev pub is_asked : Watch → Origin → Bool
is_asked watched origin = is_at_ports watched.ports origin || is_at_learnt watched.learnt origin

-- a datagram is looked at
abbrev pub is_looked_at : Watch → Origin → Bool
is_looked_at watched origin = is_at_discovery origin || is_asked watched origin

-- ---- what is learnt

-- an endpoint is passed over: none is learnt, or it was before
abbrev pub is_passed_over : SocketAddrV4 → Watch → Bool
is_passed_over endpoint watched = not watched.learns || is_some (finite.get watched.learnt endpoint)

-- what is told of an endpoint that an entry names
abbrev pub told_of_endpoint : SocketAddrV4 → Watch → Option Finding
told_of_endpoint endpoint watched =
    if is_passed_over endpoint watched then None
    else if nat_lt (finite.len watched.learnt) watched.limit then None else told_when_full Full watched.told_full

-- it is learnt, where one more may be
abbrev pub once_named : SocketAddrV4 → Watch → Watch
once_named endpoint watched =
    if is_passed_over endpoint watched then watched
    else if nat_lt (finite.len watched.learnt) watched.limit then record watched { learnt = finite.insert watched.learnt endpoint tt }
    else record watched { told_full = true }

-- memory is taken for it: it is learnt
abbrev pub needs_memory : SocketAddrV4 → Watch → Bool
needs_memory endpoint watched = not (is_passed_over endpoint watched) && nat_lt (finite.len watched.learnt) watched.limit

-- ---- codes, by which a proof tells values apart

abbrev pub coded_watch : Coded Watch
coded_watch =
    code_by ((List ℕ × Bool) × (ℕ × (Learnt × Bool)))
    (coded× (coded× (coded_list coded_ℕ) coded_bool) (coded× coded_ℕ (coded× (finite.code coded_endpoint coded_unit) coded_bool)))
    (λ w. ((w.ports, w.learns), (w.limit, (w.learnt, w.told_full))))
    (λ c. record { ports = c.0.0; learns = c.0.1; limit = c.1.0; learnt = c.1.1.0; told_full = c.1.1.1 }) (λ _. refl)
