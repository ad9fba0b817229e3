use Rattle.std.proofs.Common.{◌≡◌, ◌∙◌, ap, sym, ◌||◌, nat_lt, true, false, arith}
use Rattle.std.proofs.lemmas.Bool.Decides.{nat_tests}
use Rattle.recording_packets.specs.declared.copies.TheConstants.{BUDGET}
use Rattle.recording_packets.proofs.about_copies.Costs.{goes_old}
use Rattle.recording_packets.proofs.copies.tables.must_go.Goals as goal

pub returns-then-saturating_sub-window : goal.returns-then-saturating_sub-window
returns-then-saturating_sub-window c =
    let old : nat_lt c.args.window c.saturating_sub.result ≡ true = grind (arith, nat_tests, c.if-saturating_sub-window.true) in
    old ∙ sym (ap (λ b. b || nat_lt BUDGET c.args.cost) old)
    ∙ goes_old c.args.window c.args.now c.saturating_sub.result c.args.cost c.args.sightings.now.entries _ c.in-Some.ensures c.saturating_sub.ensures c.requires

pub returns-else-saturating_sub-window : goal.returns-else-saturating_sub-window
returns-else-saturating_sub-window c =
    let young : nat_lt c.args.window c.saturating_sub.result ≡ false = grind (arith, nat_tests, c.if-saturating_sub-window.false) in
    sym (ap (λ b. b || nat_lt BUDGET c.args.cost) young)
    ∙ goes_old c.args.window c.args.now c.saturating_sub.result c.args.cost c.args.sightings.now.entries _ c.in-Some.ensures c.saturating_sub.ensures c.requires
