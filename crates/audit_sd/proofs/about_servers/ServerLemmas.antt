-- How many servers are known.
use Rattle.std.proofs.Common.{◌≡◌, ℕ, ◌+◌, ◌<◌, ◌≤◌, nat_lt, Bool, true, false, cond, ◌||◌, Option, None, Some, is_some, Result, Ok, Err, refl, arith}
use Rattle.std.specs.Result.{OnOk, OnErr}
use Rattle.std.proofs.lemmas.Bool.{ltb-true}
use Rattle.std.specs.FinMap as finite
use Rattle.someip_tables.proofs.MapLaws.{len-insert_known}
use Rattle.someip_tables.specs.hashed.Rooms.{may_hold}
use Rattle.audit_sd.specs.declared.servers.key.ServerKey.{ServerKey}
use Rattle.audit_sd.specs.declared.servers.server.Server.{Server}
use Rattle.audit_sd.specs.servers.ServerKeys.{server_cmp}
use Rattle.audit_sd.specs.servers.ServerOrder.{servers_total, exact_servers}
use Rattle.audit_sd.specs.servers.ServerTables.{Servers, changed_if}

-- none are known
pub none_within : (servers : Servers) (limit : ℕ) → servers ≡ finite.empty → finite.len servers ≤ limit
none_within servers limit none = rw (none, finite.len-empty server_cmp Server) (omega arith)

-- a change of one makes no more
pub changed_within : (test : Server → Bool) (change : Server → Server) (key : ServerKey) (limit : ℕ) (old new : Servers) → finite.len old ≤ limit
    → new ≡ changed_if test change key (finite.get old key) old → finite.len new ≤ limit
changed_within test change key limit old new few is = rw is (by (finite.get old key) refl)
  where
    cases : (server : Server) (b : Bool) → finite.get old key ≡ Some server → finite.len (cond b (finite.insert old key (change server)) old) ≤ limit
    cases server true has = rw (len-insert_known servers_total exact_servers old key (change server) server has) few
    cases server false has = few

    by : (v : Option Server) → finite.get old key ≡ v → finite.len (changed_if test change key v old) ≤ limit
    by None has = few
    by (Some server) has = cases server (test server) has

-- an Offer makes one more where there is room
pub offered_within : {T E : Type 0} (key : ServerKey) (server : Server) (limit : ℕ) (old new : Servers) (result : Result T E) → finite.len old ≤ limit → may_hold limit old key ≡ true
    → OnOk result (new ≡ finite.insert old key server) → OnErr result (new ≡ old) → finite.len new ≤ limit
offered_within key server limit old new (Ok told) few may after err = rw (after, finite.len-insert servers_total old key server) (cases (is_some (finite.get old key)) may)
  where
    cases : (b : Bool) → (b || nat_lt (finite.len old) limit) ≡ true → cond b (finite.len old) (finite.len old + 1) ≤ limit
    cases true m = few
    cases false m = let below : finite.len old < limit = ltb-true (finite.len old) limit m in omega (arith, below)
offered_within key server limit old new (Err e) few may after err = rw err few

pub on_err_map : {T E P Q : Type 0} (result : Result T E) → (P → Q) → OnErr result P → OnErr result Q
on_err_map (Ok value) by is = tt
on_err_map (Err error) by is = by is
