use Rattle.std.proofs.Common.{rules, ◌≡◌, true, None}
use Rattle.someipctl_show.proofs.about_types.IndexLemmas.{has_place, empty_index, met_again, met_first, all_met}
use Rattle.std.specs.BTreeMap as tree
use Rattle.someipctl_show.specs.types.Views.{key_cmp, key_of}
use Rattle.someipctl_show.proofs.types.index.index_of.Goals as goal

pub loop-i-init : goal.loop-i-init
loop-i-init c = empty_index c.new-places.result c.args.tables.now c.new-places.ensures.empty

pub returns-then-is_some-clause-clash : goal.returns-then-is_some-clause-clash
returns-then-is_some-clause-clash c =
    let found : has_place c.loop-i.places c.loop-i.i c.args.tables.now c.index-tables-i.result ≡ true = search rules in
    met_again c.loop-i.places c.loop-i.i c.args.tables.now c.index-tables-i.result c.loop-i-test.true c.index-tables-i.is found c.loop-i.invariant

pub loop-i-preserved : goal.loop-i-preserved
loop-i-preserved c =
    let absent : tree.get key_cmp c.loop-i.places (key_of c.index-tables-i.result) ≡ None = search rules in
    let grows = rw c.key_by-key.ensures at c.in_ok-insert.ensures.updates.0 in
    met_first c.loop-i.places c.insert.new.self c.loop-i.i c.args.tables.now c.index-tables-i.result grows c.loop-i-test.true c.index-tables-i.is absent c.loop-i.invariant

pub returns-clause-apart : goal.returns-clause-apart
returns-clause-apart c = all_met c.loop-i.places c.loop-i.i c.args.tables.now c.loop-i-test.false c.loop-i.invariant
