use Rattle.std.proofs.Common.{sym, ◌∙◌}
use Rattle.someipctl_show.proofs.about_types.ValueTokenLemmas.{members-named-some}
use Rattle.someipctl_show.proofs.types.value_object.are_members_named.Goals as goal

pub returns-then-not-is_empty : goal.returns-then-not-is_empty
returns-then-not-is_empty c = members-named-some c.args.members.now c.members_have_names.result (sym c.is_empty.ensures ∙ c.if-not-is_empty.true) c.members_have_names.ensures
