use Rattle.std.proofs.Common.{◌≡◌, Some, arith, length, map, option_map, ◌∙◌}
use Rattle.std.proofs.lemmas.List.{length-set}
use Rattle.toml.specs.View.{view}
use Rattle.someipctl_rules.specs.Treating.{each_treated}
use Rattle.someipctl_rules.proofs.TreatingLemmas.{so_many, treated_all, treated_more}
use Rattle.someipctl_rules.proofs.treatments.treatments_of.Goals as goal

pub loop-i-preserved : goal.loop-i-preserved
loop-i-preserved c =
    let long : length c.loop-i.treatments ≡ 28 = c.loop-i.invariant.1 in
    let many : length c.kinds.result ≡ 28 = so_many c.kinds.result c.kinds.ensures in (
      treated_more (map view c.args.allowed.now) (option_map (λ b. view b.now) c.args.bounds) c.kinds.result c.loop-i.i _ c.loop-i.treatments c.in_ok-treatments.field-0 (omega (arith, many, c.loop-i-test.true)) (omega (arith, long, c.loop-i-test.true)) c.in_ok-treatments.ensures c.loop-i.invariant.0,
      length-set c.loop-i.treatments c.loop-i.i c.in_ok-treatments.field-0 ∙ long,
    )

pub returns : goal.returns
returns c =
    let long : length c.loop-i.treatments ≡ 28 = c.loop-i.invariant.1 in
    let many : length c.kinds.result ≡ 28 = so_many c.kinds.result c.kinds.ensures in
    let all : each_treated (map view c.args.allowed.now) (option_map (λ b. view b.now) c.args.bounds) c.kinds.result ≡ Some c.loop-i.treatments =
    treated_all (map view c.args.allowed.now) (option_map (λ b. view b.now) c.args.bounds) c.kinds.result c.loop-i.i c.loop-i.treatments (omega (arith, many, c.loop-i-test.false)) (omega (arith, long, c.loop-i-test.false)) c.loop-i.invariant.0 in
    rw c.kinds.ensures at all
