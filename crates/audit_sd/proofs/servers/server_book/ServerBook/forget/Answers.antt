use Rattle.std.proofs.Common.{not, arith}
use Rattle.someip_tables.specs.Tables.{map_of}
use Rattle.someip_tables.proofs.Entries.{len-retain-≤}
use Rattle.audit_sd.specs.servers.ServerKeys.{server_cmp}
use Rattle.audit_sd.specs.servers.ServerOrder.{servers_total, exact_servers}
use Rattle.audit_sd.specs.servers.ServerRules.{is_of}
use Rattle.audit_sd.proofs.servers.server_book.ServerBook.forget.Goals as goal

pub invariant_of-self : goal.invariant_of-self
invariant_of-self c =
    let less = len-retain-≤ servers_total exact_servers (map_of server_cmp c.self.inside.known) (λ _ server. not (is_of c.args.sender server)) in
    rw c.forget.ensures (omega (arith, less, c.self.invariant))
