-- What has not passed after some milliseconds.
use Rattle.std.proofs.Common.{◌≡◌, ◌≢◌, ◌↔◌, ℕ, ◌+◌, ◌*◌, ◌<◌, ◌==◌, nat_le, Bool, true, false, not, cond, refl, ap, sym, ◌∙◌, arith}
use Rattle.std.proofs.lemmas.Bool.Decides.{nat_tests}
use Rattle.someip_tables.specs.declared.deadline.Deadline.TheVariants.{At, Never}
use Rattle.someip_tables.specs.Deadlines.{deadline_after, has_passed}

-- a time from a moment on
pub within : (now span ms : ℕ) → (not (has_passed (now + ms) (At (now + span))) ≡ true) ↔ (ms < span)
within now span ms = (before_it, not_yet)
  where
    before_it : not (nat_le (now + span) (now + ms)) ≡ true → ms < span
    before_it e = grind (arith, nat_tests)

    not_yet : ms < span → not (nat_le (now + span) (now + ms)) ≡ true
    not_yet lt = grind (arith, nat_tests)

-- a TTL in seconds from a moment on
pub within_ttl : (now ttl ms : ℕ) → ttl ≢ 0xFFFFFF → (not (has_passed (now + ms) (deadline_after now ttl)) ≡ true) ↔ (ms < 1000 * ttl)
within_ttl now ttl ms timed = cases (ttl == 0xFFFFFF) refl
  where
    cases : (b : Bool) → (ttl == 0xFFFFFF) ≡ b → (not (has_passed (now + ms) (deadline_after now ttl)) ≡ true) ↔ (ms < 1000 * ttl)
    cases true b = absurd (timed (grind (arith, nat_tests)))
    cases false b =
        let at : not (has_passed (now + ms) (deadline_after now ttl)) ≡ not (has_passed (now + ms) (At (now + 1000 * ttl))) =
        ap (λ f. not (has_passed (now + ms) (cond f Never (At (now + 1000 * ttl))))) b in
        ((λ t. (within now (1000 * ttl) ms).0 (sym at ∙ t)), (λ lt. at ∙ (within now (1000 * ttl) ms).1 lt))
