use Rattle.std.proofs.Common.{◌≡◌, ◌≤◌, ◌+◌, ◌-◌, nat_le, true, length, take, reverse, append_assoc, arith}
use Rattle.std.proofs.lemmas.Bool.Decides.{nat_tests}
use Rattle.someip_tables.proofs.AgendaKeys.{last_first}
use Rattle.someip_tables.proofs.RunLemmas.{next_run}
use Rattle.someip_tables.proofs.agenda.last_keys.Goals as goal

pub loop-rest-preserved : goal.loop-rest-preserved
loop-rest-preserved g c =
    let rest = c.loop-rest.rest.now in
    let le : c.due-item.result.at ≤ c.args.now = omega (arith, c.if-as_millis-due.false, c.as_millis.ensures.value) in
    let passed : nat_le c.due-item.result.at c.args.now ≡ true = grind (arith, nat_tests) in
    let whole : length rest - 1 + 1 ≡ length rest = omega (arith, c.in-len1-up.len_at_least) in
    let last = last_first rest (length rest - 1) c.due-item.result whole c.due-item.is in
    let run = next_run (λ due. nat_le due.at c.args.now) c.due-item.result (reverse (take (length rest - 1) rest)) (reverse rest) last passed in
    let all = rw run at c.loop-rest.invariant in
    rw (c.in_ok-push.ensures.items, append_assoc) all
