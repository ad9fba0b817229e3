use Rattle.std.proofs.Common.{rules}
use Rattle.sd_wire.proofs.decoding.EndpointLemmas.{first_of_both}
use Rattle.sd_wire.proofs.entry.Entry.udp_endpoint.Goals as goal

pub returns-in-Some : goal.returns-in-Some
returns-in-Some c = let both = first_of_both c.args.self.now.run1.items c.args.self.now.run2.items in rw both (search rules)

pub returns-in-None : goal.returns-in-None
returns-in-None c = let both = first_of_both c.args.self.now.run1.items c.args.self.now.run2.items in rw both (search rules)
