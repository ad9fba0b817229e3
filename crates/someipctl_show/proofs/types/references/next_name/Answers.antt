use Rattle.std.proofs.Common.{sym, ap, ◌∙◌, arith, ◌∷◌, drop, List, ℕ}
use Rattle.someipctl_show.specs.types.References.{references}
use Rattle.someipctl_show.proofs.about_types.ReferenceLemmas.{named_next, unnamed_next, no_next}
use Rattle.someipctl_show.proofs.types.references.next_name.Goals as goal

pub returns-in-Some-name_between-clause-found : goal.returns-in-Some-name_between-clause-found
returns-in-Some-name_between-clause-found c =
    let e = c.in-Some.ensures in
    let f = c.in-Some-name_between.ensures.found in
    c.loop-sign.invariant.2
    ∙ named_next c.args.text.now c.loop-sign.at c.in-Some.sign c.in-Some.end e.sign.0 e.sign.1 e.sign.2 e.first e.name e.end.0 e.end.1 f.0
    ∙ ap (λ (t : List ℕ). t ∷ references (drop c.in-Some.end c.args.text.now)) (sym f.1)

pub loop-sign-preserved : goal.loop-sign-preserved
loop-sign-preserved c =
    let e = c.in-Some.ensures in
    let held = c.loop-sign.invariant in (
      omega (arith, held.0, e.sign.0, e.end.0),
      e.end.1,
      held.2 ∙ unnamed_next c.args.text.now c.loop-sign.at c.in-Some.sign c.in-Some.end e.sign.0 e.sign.1 e.sign.2 e.first e.name e.end.0 e.end.1 c.in_default-name_between.ensures.none,
    )

pub returns-clause-none : goal.returns-clause-none
returns-clause-none c = c.loop-sign.invariant.2 ∙ no_next c.args.text.now c.loop-sign.at c.in_default.ensures.none
