-- The peers that were seen, each with the last stamp of its channels.
use Rattle.std.specs.Prelude.{◌≡◌, ℕ, nat_lt, Bool, true, false, ◌||◌, if◌then◌else◌, Option, None, Some, is_some, Result, Ok, Err, refl}
use Rattle.std.specs.Coded.{Coded, code_by, coded×, coded_ℕ, coded_option, coded_bool}
use Rattle.std.specs.FinMap as finite
use Rattle.std.specs.FinMap.{FinMap}
use Rattle.std.specs.declared.net.ipv4_addr.Ipv4Addr.{Ipv4Addr}
use Rattle.someip_tables.specs.Endpoints.{address_cmp, coded_address}
use Rattle.sd_session.specs.declared.stamp.Stamp.{Stamp}
use Rattle.sd_session.specs.declared.stamp.Channel.{Channel}
use Rattle.sd_session.specs.declared.stamp.Channel.TheVariants.{Multicast, Unicast}
use Rattle.sd_session.specs.declared.peers.Stamps.{Stamps}
use Rattle.sd_session.specs.declared.peers.Seen.{Seen}
use Rattle.sd_session.specs.declared.peers.Seen.TheVariants.{Same, Rebooted}
use Rattle.sd_session.specs.declared.error.SessionError.{SessionError}
use Rattle.sd_session.specs.declared.error.SessionError.TheVariants.{PeersFull, OutOfMemory}
use Rattle.sd_session.specs.Sessions.{is_reboot}

-- the last stamps of each peer
abbrev pub Held : Type 0
Held = FinMap address_cmp Stamps

-- what a table of peers holds, and how many it may hold
pub record Peers : Type 0 where
  pub limit : ℕ
  pub held : Held

-- a peer without messages
abbrev pub no_stamps : Stamps
no_stamps = record { multicast = None; unicast = None }

-- the last stamp of a channel
abbrev pub last_on : Channel → Stamps → Option Stamp
last_on Multicast stamps = stamps.multicast
last_on Unicast stamps = stamps.unicast

-- the stamps once a message came on a channel
abbrev pub with_stamp : Channel → Stamp → Stamps → Stamps
with_stamp Multicast stamp stamps = record stamps { multicast = Some stamp }
with_stamp Unicast stamp stamps = record stamps { unicast = Some stamp }

-- what is known of a peer: nothing, if it is new
abbrev pub stamps_or_none : Option Stamps → Stamps
stamps_or_none None = no_stamps
stamps_or_none (Some stamps) = stamps

abbrev pub stamps_of : Held → Ipv4Addr → Stamps
stamps_of held peer = stamps_or_none (finite.get held peer)

-- a message shows that its sender began again, by the last one on its own channel
abbrev pub shows_reboot : Option Stamp → Stamp → Bool
shows_reboot None stamp = false
shows_reboot (Some last) stamp = is_reboot last stamp

-- what a message tells of its sender
abbrev pub told_by : Channel → Stamp → Stamps → Seen
told_by channel stamp stamps = if shows_reboot (last_on channel stamps) stamp then Rebooted else Same

-- what is known of its sender afterwards: of one that began again, this message alone
abbrev pub stamps_after : Channel → Stamp → Stamps → Stamps
stamps_after channel stamp stamps =
    with_stamp channel stamp (if shows_reboot (last_on channel stamps) stamp then no_stamps else stamps)

-- the table may hold the peer: it does, or it holds fewer than its limit
abbrev pub may_hold : ℕ → Held → Ipv4Addr → Bool
may_hold limit held peer = is_some (finite.get held peer) || nat_lt (finite.len held) limit

-- a message of a peer was entered, or refused. Memory is only wanted for a peer that is new and may be held
abbrev pub Saw : ℕ → Ipv4Addr → Channel → Stamp → Held → Result Seen SessionError → Held → Type 0
Saw limit peer channel stamp old (Ok seen) new =
    (may_hold limit old peer ≡ true) × (seen ≡ told_by channel stamp (stamps_of old peer))
    × (new ≡ finite.insert old peer (stamps_after channel stamp (stamps_of old peer)))
Saw limit peer channel stamp old (Err PeersFull) new = (may_hold limit old peer ≡ false) × (new ≡ old)
Saw limit peer channel stamp old (Err OutOfMemory) new =
    (may_hold limit old peer ≡ true) × (finite.get old peer ≡ None) × (new ≡ old)

-- codes, by which a proof tells values apart
abbrev pub coded_stamp : Coded Stamp
coded_stamp = code_by (ℕ × Bool) (coded× coded_ℕ coded_bool) (λ s. (s.session, s.reboot)) (λ c. record { session = c.0; reboot = c.1 }) (λ _. refl)

abbrev pub coded_stamps : Coded Stamps
coded_stamps =
    code_by (Option Stamp × Option Stamp) (coded× (coded_option coded_stamp) (coded_option coded_stamp))
    (λ s. (s.multicast, s.unicast)) (λ c. record { multicast = c.0; unicast = c.1 }) (λ _. refl)

abbrev pub coded_peers : Coded Peers
coded_peers = code_by (ℕ × Held) (coded× coded_ℕ (finite.code coded_address coded_stamps)) (λ p. (p.limit, p.held)) (λ c. record { limit = c.0; held = c.1 }) (λ _. refl)
