use Rattle.std.proofs.Common.{◌≡◌, ◌||◌, Bool, true, false, refl}
use Rattle.someipctl_audit.proofs.audits.watch_of.Goals as goal

or_false : (b : Bool) → b ≡ (b || false)
or_false true = refl
or_false false = refl

or_true : (b : Bool) → true ≡ (b || true)
or_true true = refl
or_true false = refl

pub returns-in-Some-clause-learns : goal.returns-in-Some-clause-learns
returns-in-Some-clause-learns c = rw c.in-Some.is (or_false c.args.wanted.now.learned)

pub returns-in-None-clause-learns : goal.returns-in-None-clause-learns
returns-in-None-clause-learns c = rw c.in-None.is (or_true c.args.wanted.now.learned)
