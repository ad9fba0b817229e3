use Rattle.someip_tables.specs.Tables.{map_of}
use Rattle.audit_sd.specs.servers.ServerKeys.{server_cmp}
use Rattle.audit_sd.specs.servers.ServerRules.{ended, is_same_served}
use Rattle.audit_sd.proofs.about_servers.ServerLemmas.{changed_within}
use Rattle.audit_sd.proofs.servers.server_book.ServerBook.stopped.Goals as goal

pub invariant_of-self : goal.invariant_of-self
invariant_of-self c =
    changed_within (is_same_served c.args.served) ended c.args.key.now c.self.inside.room.limit (map_of server_cmp c.self.inside.known) (map_of server_cmp c.stop.new.known) c.self.invariant c.stop.ensures
