-- How many findings of each group came, without a table. A list has the newest first.
use Rattle.std.specs.Prelude.{◌≡◌, ◌⊎◌, ℕ, zero, suc, ◌+◌, List, [], ◌∷◌, None, Some, if◌then◌else◌}
use Rattle.std.specs.Ordering.{eq_by_cmp}
use Rattle.std.specs.FinMap as finite
use Rattle.std.specs.declared.net.socket_addr.SocketAddrV4.{SocketAddrV4}
use Rattle.someip_audit.specs.declared.groups.group_key.GroupKey.{GroupKey}
use Rattle.someip_audit.specs.declared.groups.group_key.Grouped.{Grouped}
use Rattle.someip_audit.specs.groups.GroupKeys.{group_cmp}
use Rattle.someip_audit.specs.groups.GroupTables.{Groups, after_one}

-- how many of these are of a group
abbrev pub times : GroupKey → List GroupKey → ℕ
times key [] = 0
times key (came ∷ earlier) = if eq_by_cmp group_cmp key came then times key earlier + 1 else times key earlier

-- the book once these came
abbrev pub book_of : ℕ → List GroupKey → Groups
book_of limit [] = record { limit = limit; numbers = finite.empty }
book_of limit (key ∷ earlier) = after_one key (book_of limit earlier)

-- it is told
abbrev pub IsAmong : Grouped → List Grouped → Type 0
IsAmong one [] = ⊥
IsAmong one (told ∷ others) = (told ≡ one) ⊎ IsAmong one others

-- ---- two groups

-- 192.168.0.n:40000
abbrev pub node : ℕ → SocketAddrV4
node n = record { ip = record { octets = 192 ∷ 168 ∷ 0 ∷ n ∷ [] }; port = 40000 }

-- of calls from node 1 to node 2, and of their answers, of two kinds
abbrev pub unanswered : GroupKey
unanswered = record { kind = 6; service = Some 0x1234; method = Some 0x0421; from = node 1; to = node 2 }

abbrev pub late : GroupKey
late = record { kind = 7; service = Some 0x1234; method = Some 0x0421; from = node 2; to = node 1 }

-- so many of a group came, after these
abbrev pub came : ℕ → GroupKey → List GroupKey → List GroupKey
came zero key earlier = earlier
came (suc n) key earlier = key ∷ came n key earlier
