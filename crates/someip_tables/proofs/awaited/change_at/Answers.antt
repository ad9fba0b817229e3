use Rattle.std.proofs.Common.{◌≡◌, Some, None, ap, ◌∙◌, rules}
use Rattle.std.specs.BTreeMap as tree
use Rattle.std.specs.FinMap as finite
use Rattle.std.specs.Option.{is_some}
use Rattle.someip_tables.specs.Tables.{map_of}
use Rattle.someip_tables.proofs.ChangedLemmas.{insert-changed, absent-changed}
use Rattle.someip_tables.proofs.Trees.{get-map_of}
use Rattle.someip_tables.proofs.awaited.change_at.Goals as goal

pub renew-requires-clause-there : goal.renew-requires-clause-there
renew-requires-clause-there g c =
    let found : tree.get g.K.Ord.cmp c.args.held.now c.args.key ≡ Some c.in-Some.value.now = search rules in
    ap (λ v. is_some v) (get-map_of g.met.K.Ord.total c.args.held.now.entries c.args.key ∙ found)

pub returns-in-Some-clause-changed : goal.returns-in-Some-clause-changed
returns-in-Some-clause-changed g c = λ f answers.
    let found : tree.get g.K.Ord.cmp c.args.held.now c.args.key ≡ Some c.in-Some.value.now = search rules in
    let is : c.change-value.result ≡ f c.args.key c.in-Some.value.now = answers _ _ _ c.change-value.ensures in
    c.renew.ensures.changed ∙ ap (finite.insert (map_of g.K.Ord.cmp c.args.held.now.entries) c.args.key) is
    ∙ insert-changed g.met.K.Ord.total g.met.K.Key.exact (f c.args.key) (map_of g.K.Ord.cmp c.args.held.now.entries) c.args.key c.in-Some.value.now
    (get-map_of g.met.K.Ord.total c.args.held.now.entries c.args.key ∙ found)

pub returns-in_default-clause-changed : goal.returns-in_default-clause-changed
returns-in_default-clause-changed g c = λ f answers.
    let none : tree.get g.K.Ord.cmp c.args.held.now c.args.key ≡ None = search rules in
    absent-changed g.met.K.Ord.total g.met.K.Key.exact (f c.args.key) (map_of g.K.Ord.cmp c.args.held.now.entries) c.args.key (get-map_of g.met.K.Ord.total c.args.held.now.entries c.args.key ∙ none)
