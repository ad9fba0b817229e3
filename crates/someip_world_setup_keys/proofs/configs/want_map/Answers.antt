use Rattle.std.proofs.Common.{[], ap, ◌∙◌}
use Rattle.sd_core.specs.Keys.{instance_cmp}
use Rattle.someip_world_setup_keys.specs.declared.parts.WantParts.{WantParts}
use Rattle.someip_world_setup_keys.specs.Values.{want_view}
use Rattle.someip_world_setup_keys.specs.Made.{wanted_view, keyed_want, want_made, with_entries}
use Rattle.someip_world_setup_keys.proofs.MakingLemmas.{one_entry, all_entries, map_after}
use Rattle.someip_world_setup_keys.proofs.configs.want_map.Goals as goal

pub loop-want-preserved : goal.loop-want-preserved
loop-want-preserved c =
    one_entry instance_cmp wanted_view (λ x. keyed_want (want_view x)) c.loop-want.map.entries _ c.loop-want.want-index c.args.wants.now _ _ _ c.loop-want-test.true c.in_ok-insert.ensures.entries
    (ap (λ (x : WantParts). (keyed_want (want_view x)).0) c.want-item.is)
    (c.in_ok-wanted.ensures ∙ ap (λ (x : WantParts). want_made (want_view x)) c.want-item.is)
    c.loop-want.invariant

pub returns : goal.returns
returns c =
    all_entries instance_cmp wanted_view (λ x. keyed_want (want_view x)) c.loop-want.map.entries c.loop-want.want-index c.args.wants.now c.loop-want-test.false c.loop-want.invariant
    ∙ ap (with_entries instance_cmp []) (map_after (keyed_want) want_view c.args.wants.now)
