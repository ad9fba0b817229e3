use Rattle.std.proofs.Common.{List, ap, sym, ◌∙◌, bytes_eq, string_bytes, ℕ}
use Rattle.someip_world_setup_keys.specs.Values.{NodeValue, node_view}
use Rattle.someip_world_setup_keys.specs.declared.parts.NodeParts.{NodeParts}
use Rattle.std.proofs.Common.{◌+◌}
use Rattle.std.proofs.lemmas.List.{take_rest}
use Rattle.someip_world_setup_keys.specs.Clashes.{has_repeat}
use Rattle.someip_world_setup_keys.proofs.RepeatLemmas.{stands_again, stands_alone, none_again}
use Rattle.someip_world_setup_keys.proofs.MakingLemmas.{map_after}
use Rattle.someip_world_setup_keys.proofs.clashes.has_equal_names.Goals as goal

abbrev name_of : NodeParts → List ℕ
name_of n = string_bytes n.name

pub returns-then-is_named : goal.returns-then-is_named
returns-then-is_named c =
    let found = rw (c.as_str.ensures.value, take_rest c.args.nodes.now (c.loop-i.i + 1)) at (sym c.is_named.ensures ∙ c.if-is_named.true) in
    stands_again bytes_eq name_of c.loop-i.i c.args.nodes.now c.index-nodes-i.result c.loop-i-test.true found c.loop-i.invariant
    ∙ ap (has_repeat bytes_eq) (map_after (λ (n : NodeValue). n.name) node_view c.args.nodes.now)

pub loop-i-preserved : goal.loop-i-preserved
loop-i-preserved c =
    let absent = rw (c.as_str.ensures.value, take_rest c.args.nodes.now (c.loop-i.i + 1)) at (sym c.is_named.ensures ∙ c.if-is_named.false) in
    stands_alone bytes_eq name_of c.loop-i.i c.args.nodes.now c.index-nodes-i.result c.loop-i-test.true absent c.loop-i.invariant

pub returns : goal.returns
returns c =
    none_again bytes_eq name_of c.loop-i.i c.args.nodes.now c.loop-i-test.false c.loop-i.invariant
    ∙ ap (has_repeat bytes_eq) (map_after (λ (n : NodeValue). n.name) node_view c.args.nodes.now)
