use Rattle.std.proofs.Common.{None, Some}
use Rattle.toml.specs.View.{view}
use Rattle.someip_world_setup_keys.proofs.KeyLemmas.{first_decides}
use Rattle.someip_world_setup_keys.proofs.unknown.first_unknown.Goals as goal

pub returns-in-Some-unknown_member : goal.returns-in-Some-unknown_member
returns-in-Some-unknown_member c =
    first_decides c.args.subject (view c.args.table.now) c.in-Some.members.now (Some c.in-Some-unknown_member.key.now) c.in-Some.ensures c.in-Some-unknown_member.ensures

pub returns-in-None : goal.returns-in-None
returns-in-None c =
    first_decides c.args.subject (view c.args.table.now) c.in-Some.members.now None c.in-Some.ensures c.in-None.ensures
