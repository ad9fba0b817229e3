use Rattle.std.proofs.Common.{◌≡◌, true, ap}
use Rattle.someip_tables.specs.Tables.{map_of}
use Rattle.someip_tables.specs.hashed.Rooms.{may_hold}
use Rattle.audit_sd.specs.servers.ServerKeys.{server_cmp}
use Rattle.audit_sd.proofs.about_servers.ServerLemmas.{offered_within, on_err_map}
use Rattle.audit_sd.proofs.servers.server_book.ServerBook.offered.Goals as goal

pub invariant_of-self-2 : goal.invariant_of-self-2
invariant_of-self-2 c =
    let may : may_hold c.self.inside.room.limit (map_of server_cmp c.self.inside.known) c.args.offer.server ≡ true = rw (← c.get.ensures, ← c.is_some-is_held.ensures, ← c.len.ensures, ← c.may_hold.ensures) c.if-not-may_hold.false in
    offered_within c.args.offer.server c.offered_at.result c.self.inside.room.limit (map_of server_cmp c.self.inside.known) (map_of server_cmp c.insert.new.self) c.insert.result c.self.invariant may
    c.insert.ensures.ok (on_err_map c.insert.result (ap (map_of server_cmp)) c.insert.ensures.err)
