use Rattle.std.proofs.Common.{◌≡◌, ap, sym, ◌∙◌}
use Rattle.someip_tables.proofs.Entries.{same_by_test, own_test}
use Rattle.someip_tables.proofs.DueLemmas.{test_is_true, true_is_test}
use Rattle.std.specs.Ordering.{eq_by_cmp}
use Rattle.someip_tables.proofs.key.is_same_key.Goals as goal

pub returns-clause-same : goal.returns-clause-same
returns-clause-same g c =
    let is : c.is_eq.result ≡ eq_by_cmp g.K.Ord.cmp c.args.a.now c.args.b.now = rw (c.is_eq.ensures, c.cmp.ensures) (λ _. eq_by_cmp g.K.Ord.cmp c.args.a.now c.args.b.now) in
    (λ t. same_by_test g.met.K.Key.exact c.args.a.now c.args.b.now (sym is ∙ test_is_true t), λ same. true_is_test (is ∙ (ap (eq_by_cmp g.K.Ord.cmp c.args.a.now) (sym same) ∙ own_test g.met.K.Ord.total c.args.a.now)))
