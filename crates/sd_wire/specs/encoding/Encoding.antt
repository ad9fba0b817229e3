-- The bytes of a message as a function of it, beside the relation `WritesSd` (SOME/IP Service Discovery, "Referencing Options from Entries").
use Rattle.std.specs.Prelude.{ℕ, suc, Bool, true, ◌&&◌, nat_eq, nat_lt, if◌then◌else◌, List, [], ◌∷◌, ◌++◌, length, Option, Some, None}
use Rattle.std.specs.Cmp.Lexicographic.{pointwise}
use Rattle.std.specs.List.{starts_with}
use Rattle.std.specs.Option.{option_map}
use Rattle.std.specs.Net.Addr.{ipv4_octets}
use Rattle.std.specs.Net.Socket.{v4_ip, v4_port}
use Rattle.sd_wire.specs.declared.endpoint.Ipv4Endpoint.{Ipv4Endpoint}
use Rattle.sd_wire.specs.declared.endpoint.Ipv6Endpoint.{Ipv6Endpoint}
use Rattle.sd_wire.specs.declared.option.SdOption.{SdOption}
use Rattle.sd_wire.specs.declared.option.SdOption.TheVariants.{LoadBalancing, Endpoint4, Multicast4, SdEndpoint4, Endpoint6, Multicast6, SdEndpoint6, Raw}
use Rattle.sd_wire.specs.layout.Fields.{flags_byte}
use Rattle.sd_wire.specs.contents.Values.{EntryValue, SdMessageValue}
use Rattle.sd_wire.specs.layout.Spelling.{Runs, entry_bytes, sd_bytes}
use Rattle.sd_wire.specs.encoding.Writing.{pool_bytes}

abbrev pub ipv4_numbers : Ipv4Endpoint → List ℕ
ipv4_numbers e = e.protocol.0 ∷ v4_port e.socket ∷ ipv4_octets (v4_ip e.socket)

abbrev pub ipv6_numbers : Ipv6Endpoint → List ℕ
ipv6_numbers e = e.protocol.0 ∷ e.port ∷ e.address.segments

-- the numbers that an option holds, in front of them its type, or 0 where that has no layout
abbrev pub option_numbers : SdOption → List ℕ
option_numbers (LoadBalancing priority weight) = 0x02 ∷ priority ∷ weight ∷ []
option_numbers (Endpoint4 e) = 0x04 ∷ ipv4_numbers e
option_numbers (Multicast4 e) = 0x14 ∷ ipv4_numbers e
option_numbers (SdEndpoint4 e) = 0x24 ∷ ipv4_numbers e
option_numbers (Endpoint6 e) = 0x06 ∷ ipv6_numbers e
option_numbers (Multicast6 e) = 0x16 ∷ ipv6_numbers e
option_numbers (SdEndpoint6 e) = 0x26 ∷ ipv6_numbers e
option_numbers (Raw o) = 0 ∷ o.kind ∷ o.bytes

-- two options are the same
abbrev pub same_option : SdOption → SdOption → Bool
same_option a b = pointwise nat_eq (option_numbers a) (option_numbers b)

-- the least index at which the pool holds the run in one piece
abbrev pub index_of_run : List SdOption → List SdOption → Option ℕ
index_of_run [] run = None
index_of_run (o ∷ pool) run = if starts_with same_option (o ∷ pool) run then Some 0 else option_map suc (index_of_run pool run)

-- where a run stands, and the pool with it
pub record Place : Type 0 where
  pub index : ℕ
  pub pool : List SdOption

abbrev pub place_at : List SdOption → List SdOption → Option ℕ → Place
place_at pool run (Some index) = record { index = index; pool = pool }
place_at pool run None = record { index = length pool; pool = pool ++ run }

-- an empty run stands at 0, another where the pool holds it first, or else at the end of the pool, where it is added
abbrev pub place_for : List SdOption → List SdOption → Place
place_for pool [] = record { index = 0; pool = pool }
place_for pool (o ∷ run) = place_at pool (o ∷ run) (index_of_run pool (o ∷ run))

-- the runs of an entry, the first placed before the second, and the pool after both
abbrev pub runs_for : List SdOption → EntryValue → Runs
runs_for pool e = record {
  index1 = (place_for pool e.first).index;
  index2 = (place_for (place_for pool e.first).pool e.second).index;
  count1 = length e.first;
  count2 = length e.second;
}

abbrev pub pool_after : List SdOption → EntryValue → List SdOption
pool_after pool e = (place_for (place_for pool e.first).pool e.second).pool

-- indexes of at most 255, and at most 15 options in each run
abbrev pub runs_fit : Runs → Bool
runs_fit r = nat_lt r.index1 256 && (nat_lt r.index2 256 && (nat_lt r.count1 16 && nat_lt r.count2 16))

-- entries one after the other: whether their runs fit, their bytes, and the pool after them
abbrev pub all_runs_fit : List SdOption → List EntryValue → Bool
all_runs_fit pool [] = true
all_runs_fit pool (e ∷ entries) = runs_fit (runs_for pool e) && all_runs_fit (pool_after pool e) entries

abbrev pub entries_bytes : List SdOption → List EntryValue → List ℕ
entries_bytes pool [] = []
entries_bytes pool (e ∷ entries) = entry_bytes 0 (runs_for pool e) e.head ++ entries_bytes (pool_after pool e) entries

abbrev pub pool_after_all : List SdOption → List EntryValue → List SdOption
pool_after_all pool [] = pool
pool_after_all pool (e ∷ entries) = pool_after_all (pool_after pool e) entries

-- the bytes of a message, or none where an entry is refused
unfoldable pub message_bytes : SdMessageValue → Option (List ℕ)
message_bytes m =
    if all_runs_fit [] m.entries
    then Some (sd_bytes (flags_byte m.flags) 0 0 0 (entries_bytes [] m.entries) (pool_bytes (pool_after_all [] m.entries)))
    else None
