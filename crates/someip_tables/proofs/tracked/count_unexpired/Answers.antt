use Rattle.std.proofs.Common.{◌≡◌, true, false, not, ◌&&◌, refl, sym, ap, ◌∙◌, length, arith}
use Rattle.someip_tables.specs.Deadlines.{has_passed}
use Rattle.someip_tables.proofs.tracked.count_unexpired.Goals as goal
use Rattle.someip_tables.proofs.tracked.count_unexpired.Goals.{else-not-has_passed-via-then-not-has_passed+else-of, else-not-has_passed-via-else-not-has_passed}

pub loop-key-init : goal.loop-key-init
loop-key-init g c = (
  λ p answers. rw (c.into_iter-key-iterator.ensures.into_iter_gives, c.iter-key-items.ensures.rest) (omega arith),
  rw (c.into_iter-key-iterator.ensures.into_iter_gives, c.iter-key-items.ensures.rest) (omega (arith, c.iter-key-items.ensures.fits)),
)

pub loop-key-preserved-then-of : goal.loop-key-preserved-then-of
loop-key-preserved-then-of g c = (
  λ p answers.
      let lasts : has_passed c.args.now c.in-Some.lasting.now.until ≡ false = sym c.has_passed.ensures ∙ c.if-not-has_passed.true in
      let yes : p c.in-Some.key.now ≡ true = sym (answers _ _ c.of.ensures) ∙ c.if-of.true in
      let all = rw (c.in-Some.ensures.steps, lasts, yes) at (c.loop-key.invariant.0 p answers) in
      omega (arith, all),
  omega (arith, c.loop-key.invariant.1, ap length c.in-Some.ensures.steps),
)

pub loop-key-preserved : goal.loop-key-preserved
loop-key-preserved g c = (
  λ p answers.
      let no : (not (has_passed c.args.now c.in-Some.lasting.now.until) && p c.in-Some.key.now) ≡ false = elim c.else-not-has_passed.branch [
        | else-not-has_passed-via-then-not-has_passed+else-of w ↦ rw (sym c.has_passed.ensures ∙ w.if-not-has_passed.true, sym (answers _ _ w.of.ensures) ∙ w.if-of.false) refl
        | else-not-has_passed-via-else-not-has_passed w ↦ rw (sym c.has_passed.ensures ∙ w.if-not-has_passed.false) refl
      ] in
      rw (c.in-Some.ensures.steps, no) at (c.loop-key.invariant.0 p answers),
  omega (arith, c.loop-key.invariant.1, ap length c.in-Some.ensures.steps),
)

pub returns-clause-counted : goal.returns-clause-counted
returns-clause-counted g c = λ p answers.
    let all = rw c.in-None.ensures.steps.0 at (c.loop-key.invariant.0 p answers) in
    omega (arith, all)
