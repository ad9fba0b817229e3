use Rattle.someip_tables.specs.Tables.{map_of}
use Rattle.audit_sd.specs.servers.ServerKeys.{server_cmp}
use Rattle.audit_sd.specs.servers.ServerRules.{is_not_offered, was_told}
use Rattle.audit_sd.proofs.about_servers.ServerLemmas.{changed_within}
use Rattle.audit_sd.proofs.servers.server_book.ServerBook.heard.Goals as goal

pub invariant_of-self : goal.invariant_of-self
invariant_of-self c =
    changed_within (is_not_offered c.args.now c.args.message.now) was_told c.args.message.now.server c.self.inside.room.limit (map_of server_cmp c.self.inside.known) (map_of server_cmp c.hear.new.known)
    c.self.invariant c.hear.ensures.after
