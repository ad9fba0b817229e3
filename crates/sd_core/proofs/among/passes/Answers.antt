use Rattle.std.proofs.Common.{◌≡◌, Some, None, false, sym, ap, ◌∙◌, rules}
use Rattle.std.specs.Option.{option_map_or}
use Rattle.std.specs.BTreeMap as tree
use Rattle.someip_tables.proofs.Trees.{get-map_of}
use Rattle.sd_core.proofs.among.passes.Goals as goal

pub returns-in-Some : goal.returns-in-Some
returns-in-Some g c = λ p answers.
    let some : tree.get g.K.Ord.cmp c.args.table.now c.args.key.now ≡ Some c.in-Some.value.now = search rules in
    answers c.args.key c.in-Some.value c.test.result c.test.ensures
    ∙ sym (ap (λ v. option_map_or (p c.args.key.now) v false) (get-map_of g.met.K.Ord.total c.args.table.now.entries c.args.key.now ∙ some))

pub returns-in-None : goal.returns-in-None
returns-in-None g c = λ p answers.
    let none : tree.get g.K.Ord.cmp c.args.table.now c.args.key.now ≡ None = search rules in
    sym (ap (λ v. option_map_or (p c.args.key.now) v false) (get-map_of g.met.K.Ord.total c.args.table.now.entries c.args.key.now ∙ none))
