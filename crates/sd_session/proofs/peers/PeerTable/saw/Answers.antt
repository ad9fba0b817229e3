use Rattle.someip_tables.specs.Endpoints.{address_cmp}
use Rattle.someip_tables.specs.Tables.{map_of}
use Rattle.sd_session.proofs.PeerLemmas.{saw_within}
use Rattle.sd_session.proofs.peers.PeerTable.saw.Goals as goal

pub invariant_of-self : goal.invariant_of-self
invariant_of-self c =
    saw_within c.self.inside.limit c.args.peer c.args.channel _ (map_of address_cmp c.self.inside.peers.entries) c.enter.result (map_of address_cmp c.enter.new.peers.entries) c.self.invariant c.enter.ensures
