-- How many messages went each way, without a table. A list has the newest first.
use Rattle.std.specs.Prelude.{◌≡◌, ◌⊎◌, ℕ, zero, suc, ◌+◌, ◌==◌, nat_le, Bool, true, false, ◌&&◌, List, [], ◌∷◌, Option, None, Some, if◌then◌else◌}
use Rattle.std.specs.Ordering.{eq_by_cmp}
use Rattle.std.specs.FinMap as finite
use Rattle.std.specs.declared.net.socket_addr.SocketAddrV4.{SocketAddrV4}
use Rattle.audit_traffic.specs.declared.ways.way.OneWay.{OneWay}
use Rattle.audit_traffic.specs.declared.ways.way.Way.{Way}
use Rattle.audit_traffic.specs.ways.WayKeys.{back, way_cmp}
use Rattle.audit_traffic.specs.ways.WayTables.{Ways, after_message}

-- how many of these messages went a way
abbrev pub times : Way → List Way → ℕ
times way [] = 0
times way (went ∷ earlier) = if eq_by_cmp way_cmp way went then times way earlier + 1 else times way earlier

-- at least eight of these messages went a way, and none came back
abbrev pub goes_alone : Way → List Way → Bool
goes_alone way went = nat_le 8 (times way went) && (times (back way) went == 0)

-- this is a way of which that holds, with how many messages went it
abbrev pub IsOneWay : OneWay → List Way → Type 0
IsOneWay one went = (goes_alone one.way went ≡ true) × (times one.way went ≡ one.messages)

-- it is told
abbrev pub IsAmong : OneWay → List OneWay → Type 0
IsAmong one [] = ⊥
IsAmong one (told ∷ others) = (told ≡ one) ⊎ IsAmong one others

-- what a book keeps of a way that so many went
abbrev pub kept_of : ℕ → Option ℕ
kept_of zero = None
kept_of (suc n) = Some (suc n)

-- the book once these messages came
abbrev pub book_of : ℕ → List Way → Ways
book_of limit [] = record { limit = limit; numbers = finite.empty; told_full = false }
book_of limit (way ∷ earlier) = after_message way (book_of limit earlier)

-- ---- two nodes

-- 192.168.0.n:40000
abbrev pub node : ℕ → SocketAddrV4
node n = record { ip = record { octets = 192 ∷ 168 ∷ 0 ∷ n ∷ [] }; port = 40000 }

abbrev pub way : ℕ → ℕ → Way
way from to = record { from = node from; to = node to }

-- so many messages went a way, after these
abbrev pub went : ℕ → ℕ → ℕ → List Way → List Way
went zero from to earlier = earlier
went (suc n) from to earlier = way from to ∷ went n from to earlier
