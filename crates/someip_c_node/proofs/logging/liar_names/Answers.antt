use Rattle.std.proofs.Common.{length, map, string_bytes, ◌+◌}
use Rattle.someip_c_node.specs.LogSetups.{liar_names}
use Rattle.someip_c_node.proofs.LogLemmas.{names_kept}
use Rattle.someip_c_node.proofs.logging.liar_names.Goals as goal

pub loop-number-preserved : goal.loop-number-preserved
loop-number-preserved c =
    names_kept c.args.name.now (string_bytes c.in_ok-liar.liar) c.loop-number.number-counter (length c.args.peers.now + 2) (map string_bytes c.loop-number.names.items)
    (map string_bytes c.push_other.new.names.items) (liar_names c.args.name.now (length c.args.peers.now)) c.loop-number-test.true c.in_ok-liar.ensures.ok c.loop-number.invariant c.in_ok-push_other.ensures
