use Rattle.someip_explore.specs.GoalViews.{goal_of}
use Rattle.someipctl_explore.specs.Noting.{Noted}
use Rattle.someipctl_explore.proofs.CommandLemmas.{noted_at_the_end, partly}
use Rattle.someipctl_explore.proofs.exploring.explore_schedules.Goals as goal

pub returns-clause-refused : goal.returns-clause-refused
returns-clause-refused g c =
    let wrote = rw c.deref.ensures.value at c.in-Err.ensures.err in
    partly c.args.setup.now.nodes c.args.text.now c.args.moves.now (goal_of c.args.goal.now) c.args.limits (Noted g.N.Write.contents c.args.notes.now c.explored.new.notes) c.in_ok-told.told.outcome c.in_ok-told.told.text.items (g.W.Write.contents c.args.writer.now) (g.W.Write.contents c.write_text.new.writer) c.in_ok-told.ensures.told wrote

pub returns-clause-noted : goal.returns-clause-noted
returns-clause-noted g c =
    noted_at_the_end c.args.setup.now.nodes c.args.text.now c.args.moves.now (goal_of c.args.goal.now) c.args.limits (Noted g.N.Write.contents c.args.notes.now c.explored.new.notes) c.in_ok-told.told.outcome c.in_ok-told.told.text.items c.in_ok-told.ensures.told
