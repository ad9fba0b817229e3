use Rattle.std.proofs.Common.{◌≡◌, ℕ, ◌<◌, false, get_or}
use Rattle.someip_reassembly.specs.Keys.{same_key}
use Rattle.someip_reassembly.specs.Partials.{Entry}
use Rattle.someip_reassembly.proofs.partials.position.Given as goal

-- no part so far is that of the key
abbrev pub invariant-loop-i : goal.invariant-loop-i
invariant-loop-i l = (k : ℕ) (d : Entry) → k < l.i → same_key l.key (get_or l.partials k d).0 ≡ false
