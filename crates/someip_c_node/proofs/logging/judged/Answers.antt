use Rattle.std.proofs.Common.{refl, map, string_bytes, subst}
use Rattle.someip_c_node.specs.LogSetups.{HasMadeRows}
use Rattle.someip_c_node.proofs.LogLemmas.{is_log}
use Rattle.someip_c_node.proofs.logging.judged.Goals as goal

pub returns-then-has_rows : goal.returns-then-has_rows
returns-then-has_rows c =
    is_log c.in-Ok.setup c.args.log.now c.args.name.now c.args.delay (map string_bytes c.args.names.now) c.args.peers.now c.args.config.now c.in-Ok.ensures.said
    (subst (HasMadeRows c.args.name.now c.args.delay (map string_bytes c.args.names.now) c.args.peers.now c.args.config.now) c.nodes.ensures.nodes (c.if-has_rows.ensures refl))
