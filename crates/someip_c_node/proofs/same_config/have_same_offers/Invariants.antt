use Rattle.std.proofs.Common.{◌≡◌}
use Rattle.someip_world_setup_keys.specs.Made.{plain_entries, offered_view}
use Rattle.someip_c_node.proofs.same_config.have_same_offers.Given as goal

-- all are the same where those that are left are
abbrev pub invariant-loop-instance : goal.invariant-loop-instance
invariant-loop-instance l =
    plain_entries offered_view l.instance-iterator ≡ plain_entries offered_view l.others
    → plain_entries offered_view l.a.entries ≡ plain_entries offered_view l.b.entries
