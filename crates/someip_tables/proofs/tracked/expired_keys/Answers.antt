use Rattle.std.proofs.Common.{◌≡◌, ◌≤◌, nat_le, true, cond, ap, ◌∙◌, arith}
use Rattle.std.specs.List.{list_any}
use Rattle.std.specs.Ordering.{eq_by_cmp}
use Rattle.std.specs.Cmp.{eq_by_cmp_equiv}
use Rattle.std.proofs.lemmas.Bool.Decides.{nat_tests}
use Rattle.someip_tables.proofs.Members.{one_moved}
use Rattle.someip_tables.proofs.RunLemmas.{next_run}
use Rattle.someip_tables.proofs.tracked.expired_keys.Goals as goal

pub loop-due-preserved : goal.loop-due-preserved
loop-due-preserved g c =
    let le : c.in-Some.due.now.at ≤ c.args.now = omega (arith, c.if-as_millis-due.false, c.as_millis.ensures.value) in
    let passed : nat_le c.in-Some.due.now.at c.args.now ≡ true = grind (arith, nat_tests) in
    let run = next_run (λ due. nat_le due.at c.args.now) c.in-Some.due.now c.next.new.self c.loop-due.due-iterator c.in-Some.ensures.steps passed in (
      c.insert.ensures.ordered,
      λ q. one_moved _ _ _ _ (c.in_ok-insert.ensures.updates.0 q ∙ ap (λ b. cond b true (list_any (eq_by_cmp g.K.Ord.cmp q) c.loop-due.keys.keys)) ((eq_by_cmp_equiv g.met.K.Ord.total).symm c.in-Some.due.now.key q))
          ∙ rw run at (c.loop-due.invariant.1 q),
    )
