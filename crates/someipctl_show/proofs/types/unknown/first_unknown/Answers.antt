use Rattle.std.proofs.Common.{map}
use Rattle.toml.specs.View.{view}
use Rattle.someipctl_show.proofs.about_types.UnknownLemmas.{first_decides, first_is}
use Rattle.someipctl_show.proofs.types.unknown.first_unknown.Goals as goal

pub returns-in-Some-unknown_member : goal.returns-in-Some-unknown_member
returns-in-Some-unknown_member c =
    rw c.as_str.ensures.value
    (first_is (map (λ k. k.now) c.args.known.now) (view c.args.table.now) c.in-Some.members.now c.in-Some-unknown_member.key.now c.in-Some.ensures c.in-Some-unknown_member.ensures)

pub returns-in-None : goal.returns-in-None
returns-in-None c = first_decides (map (λ k. k.now) c.args.known.now) (view c.args.table.now) c.in-Some.members.now c.in-Some.ensures c.in-None.ensures
