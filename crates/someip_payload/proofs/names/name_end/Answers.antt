use Rattle.std.proofs.Common.{◌≡◌, ◌-◌, ◌<◌, ◌≤◌, true, drop, sym, arith}
use Rattle.someip_payload.specs.ShapeText.{begins_name}
use Rattle.someip_payload.proofs.NameBytes.{begun, goes_on, name_is, no_longer}
use Rattle.someip_payload.proofs.names.name_end.Goals as goal

pub loop-end-init : goal.loop-end-init
loop-end-init c =
    let begins : begins_name (drop c.args.at c.args.text.now) ≡ true = grind arith in
    let name = begun c.args.text.now c.args.at begins in
    (omega arith, omega (arith, name.0), omega arith, name.1)

pub loop-end-preserved : goal.loop-end-preserved
loop-end-preserved c =
    let held = c.loop-end.invariant in
    let short : c.loop-end.end - c.args.at < 64 = c.if-end-at-lt-MAX_NAME_LEN.true in
    (omega (arith, held.0), omega (arith, c.loop-end-test.true), omega (arith, short, held.0), goes_on c.args.text.now c.args.at c.loop-end.end held.0 c.loop-end-test.true short held.3 (sym c.if-is_later.ensures))

pub returns-else-is_later-clause-only : goal.returns-else-is_later-clause-only
returns-else-is_later-clause-only c = λ n rest is name ends.
    let held = c.loop-end.invariant in
    name_is c.args.text.now n rest c.args.at c.loop-end.end is name held.0 held.1 ends held.3 (λ _ _. sym c.if-is_later.ensures)

pub returns-else-end-at-lt-MAX_NAME_LEN-clause-only : goal.returns-else-end-at-lt-MAX_NAME_LEN-clause-only
returns-else-end-at-lt-MAX_NAME_LEN-clause-only c = λ n rest is name ends.
    let held = c.loop-end.invariant in
    let long : 64 ≤ c.loop-end.end - c.args.at = c.if-end-at-lt-MAX_NAME_LEN.false in
    name_is c.args.text.now n rest c.args.at c.loop-end.end is name held.0 held.1 ends held.3 (λ _ less. absurd (omega (arith, long, less)))

pub returns-else-is_later-clause-longest : goal.returns-else-is_later-clause-longest
returns-else-is_later-clause-longest c = λ n rest is name.
    let held = c.loop-end.invariant in
    no_longer c.args.text.now n rest c.args.at c.loop-end.end is name held.0 held.1 (λ _ _. sym c.if-is_later.ensures)

pub returns-else-end-at-lt-MAX_NAME_LEN-clause-longest : goal.returns-else-end-at-lt-MAX_NAME_LEN-clause-longest
returns-else-end-at-lt-MAX_NAME_LEN-clause-longest c = λ n rest is name.
    let held = c.loop-end.invariant in
    let long : 64 ≤ c.loop-end.end - c.args.at = c.if-end-at-lt-MAX_NAME_LEN.false in
    no_longer c.args.text.now n rest c.args.at c.loop-end.end is name held.0 held.1 (λ _ less. absurd (omega (arith, long, less)))
