use Rattle.std.proofs.Common.{◌∙◌, rules}
use Rattle.std.proofs.lemmas.Iterator.{YieldsList-from_slice}
use Rattle.std.proofs.lemmas.Iterator.Search.{any_from_yields_List}
use Rattle.someip_tables.specs.Tables.{map_of}
use Rattle.sd_core.specs.Eventgroups.{eventgroup_cmp}
use Rattle.sd_core.specs.WishTables.{any_begun, is_of}
use Rattle.sd_core.proofs.WishLemmas.{begun_at_any}
use Rattle.sd_core.proofs.ending.has_any_begun.Goals as goal

pub returns : goal.returns
returns c =
    let m = map_of eventgroup_cmp c.args.table.now in
    any_from_yields_List (λ instance. any_begun (λ eventgroup _. is_of instance eventgroup) m) _ _ c.any.result c.any.ensures.ran (YieldsList-from_slice c.args.instances.now c.iter.ensures.rest) (λ x b q k. search rules)
    ∙ begun_at_any c.args.instances.now m
