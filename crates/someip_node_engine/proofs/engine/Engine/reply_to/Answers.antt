use Rattle.std.proofs.Common.{map, refl}
use Rattle.sd_wire.specs.contents.Values.{view_entry}
use Rattle.someip_node_rules.specs.rules.Announcing.{replies_to}
use Rattle.someip_node_engine.proofs.WorkLemmas.{done}
use Rattle.someip_node_engine.proofs.engine.Engine.reply_to.Goals as goal

pub returns-clause-work : goal.returns-clause-work
returns-clause-work g c =
    done (replies_to c.args.peer (map view_entry c.args.entries.now)) c.args.self.now c.next_stamp.new.self c.args.giving.now.outputs.items c.push.new.self.items _
    c.in_ok-stamp.ensures.counts (rw (c.in_ok-push.ensures.items, c.new-to.ensures.ip, c.new-to.ensures.port, c.discovery_endpoint-from.ensures, c.in_ok-bytes.ensures, c.in_ok-stamp.ensures.stamp, c.in_ok-stamp.ensures.counts) refl) refl
