use Rattle.std.proofs.Common.{subst}
use Rattle.std.proofs.KnownBytes.{Keeps-refl}
use Rattle.someipctl_run.specs.Expected.{IsExpected}
use Rattle.someipctl_run.proofs.ExpectedLemmas.{trace_is}
use Rattle.someipctl_run.proofs.comparing.compare_text.Goals as goal

pub returns-in-None-clause-compared : goal.returns-in-None-clause-compared
returns-in-None-clause-compared g c =
    let same = rw (c.deref.ensures.value, c.nodes.ensures.nodes, c.deref-2.ensures.value, c.in_ok-ran.ensures.lines) at (rw c.in-None.is at c.in_ok-found.ensures.found) in
    let whole = trace_is c.args.form c.args.text.now c.args.setup.now.nodes c.in_ok-ran.ran.trace.lines.items c.in_ok-ran.ran.trace.verdict in
    (c.in_ok-ran.ran.trace.lines.items, c.in_ok-ran.ran.trace.verdict, c.in_ok-ran.ensures.ok, (subst (IsExpected c.args.extent c.args.expected.now) whole same, Keeps-refl _))
