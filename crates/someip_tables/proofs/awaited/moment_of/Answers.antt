use Rattle.std.proofs.Common.{◌≡◌, Some, None, sym, ap, ◌∙◌, rules}
use Rattle.std.specs.Option.{option_and_then}
use Rattle.std.specs.BTreeMap as tree
use Rattle.someip_tables.proofs.Trees.{get-map_of}
use Rattle.someip_tables.proofs.awaited.moment_of.Goals as goal

pub returns-in_err-get : goal.returns-in_err-get
returns-in_err-get g c =
    let none : tree.get g.K.Ord.cmp c.args.held.now c.args.key.now ≡ None = search rules in
    rw c.from_residual.ensures (ap (option_and_then g.V.Waits.moment) (sym none ∙ sym (get-map_of g.met.K.Ord.total c.args.held.now.entries c.args.key.now)))

pub returns : goal.returns
returns g c =
    let found : tree.get g.K.Ord.cmp c.args.held.now c.args.key.now ≡ Some c.in_ok-get.field-0.now = search rules in
    c.waits_for.ensures ∙ ap (option_and_then g.V.Waits.moment) (sym found ∙ sym (get-map_of g.met.K.Ord.total c.args.held.now.entries c.args.key.now))
