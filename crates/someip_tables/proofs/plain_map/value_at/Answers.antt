use Rattle.std.proofs.Common.{◌∙◌, sym, rules, ◌≡◌}
use Rattle.std.specs.BTreeMap as tree
use Rattle.someip_tables.proofs.Trees.{get-map_of}
use Rattle.someip_tables.proofs.plain_map.value_at.Goals as goal

pub returns : goal.returns
returns g c =
    let known : c.copied.result ≡ tree.get g.K.Ord.cmp c.args.map.now c.args.key = search rules in
    known ∙ sym (get-map_of g.met.K.Ord.total c.args.map.now.entries c.args.key)
