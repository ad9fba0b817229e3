use Rattle.std.proofs.Common.{◌≡◌, true, sym, ◌∙◌, arith}
use Rattle.std.specs.Option.{is_some}
use Rattle.std.specs.BTreeMap.{get}
use Rattle.someip_tables.specs.Lastings.{until_of}
use Rattle.someip_tables.specs.Dues.{is_due}
use Rattle.someip_tables.proofs.Expiry.{due_is_there, due_has_passed, none_has_passed, unexpired-taken, unexpired-none}
use Rattle.someip_tables.proofs.DueLemmas.{test_is_true, true_is_test}
use Rattle.someip_tables.proofs.tracked.drop_expired.Goals as goal

pub loop-due-smaller-in-Some : goal.loop-due-smaller-in-Some
loop-due-smaller-in-Some g c =
    let due : is_due c.in-Some.due.at (until_of (get g.K.Ord.cmp c.loop-due.held c.in-Some.due.key)) ≡ true = sym (c.loop-due.invariant.0 c.in-Some.due) ∙ test_is_true c.in-Some.ensures.found in
    let there : is_some c.take_out.result ≡ true = rw c.take_out.ensures.value (due_is_there c.in-Some.due.at _ due) in
    let len = rw there at c.take_out.ensures.len in
    omega (arith, len)

pub loop-due-preserved-in-Some : goal.loop-due-preserved-in-Some
loop-due-preserved-in-Some g c =
    let due : is_due c.in-Some.due.at (until_of (get g.K.Ord.cmp c.loop-due.held c.in-Some.due.key)) ≡ true = sym (c.loop-due.invariant.0 c.in-Some.due) ∙ test_is_true c.in-Some.ensures.found in (
      c.take_out.ensures.tracks,
      unexpired-taken g.met.K.Ord.total g.met.K.Key.exact c.args.now c.loop-due.held.entries c.take_out.new.held.entries c.in-Some.due.key c.take_out.ensures.held
          (due_has_passed c.in-Some.due.at c.args.now _ due c.in-Some.ensures.passed)
          ∙ c.loop-due.invariant.1,
    )

pub returns-clause-left : goal.returns-clause-left
returns-clause-left g c =
    unexpired-none g.met.K.Ord.total g.met.K.Key.exact c.args.now c.loop-due.held.entries (λ q.
    none_has_passed c.args.now (get g.K.Ord.cmp c.loop-due.held q) (λ at is. c.in_default.ensures.none (record { at = at; key = q }) (true_is_test (c.loop-due.invariant.0 (record { at = at; key = q }) ∙ is))))
    ∙ c.loop-due.invariant.1
