use Rattle.std.proofs.Common.{not, ap, sym, ◌∙◌, rules}
use Rattle.std.proofs.lemmas.Iterator.Consumers.{YieldsList-from_rest}
use Rattle.std.proofs.lemmas.Iterator.Search.{find_from_yields_List}
use Rattle.std.specs.FinMap.{entries}
use Rattle.std.specs.Map.Iter.{deref_pair}
use Rattle.std.specs.Option.{option_map}
use Rattle.std.specs.Ordering.{eq_by_cmp, is_le}
use Rattle.someip_tables.specs.Tables.{map_of}
use Rattle.sd_core.specs.SubscriptionKeys.{subscription_cmp}
use Rattle.sd_core.proofs.PeerLemmas.{first_key}
use Rattle.sd_core.proofs.subscriber_table.first_beside.Goals as goal

pub returns : goal.returns
returns c =
    let m = map_of subscription_cmp c.args.table.now in
    let one = c.args.one.now in
    let found = find_from_yields_List (λ e. not (eq_by_cmp subscription_cmp e.0 one)) _ _ c.find.result c.find.ensures.ran (YieldsList-from_rest _ c.iter_from.ensures.rest) (λ x b q k. search rules) in
    ap (λ r. option_map (λ e. e.0) (option_map deref_pair r)) (sym c.in_ok-other.was)
    ∙ ap (option_map (λ e. e.0)) found
    ∙ first_key (λ k. is_le (subscription_cmp c.args.place k)) (λ k. not (eq_by_cmp subscription_cmp k one)) (entries m)

pub returns-in_err-other : goal.returns-in_err-other
returns-in_err-other c =
    let m = map_of subscription_cmp c.args.table.now in
    let one = c.args.one.now in
    let found = find_from_yields_List (λ e. not (eq_by_cmp subscription_cmp e.0 one)) _ _ c.find.result c.find.ensures.ran (YieldsList-from_rest _ c.iter_from.ensures.rest) (λ x b q k. search rules) in
    c.from_residual.ensures
    ∙ ap (λ r. option_map (λ e. e.0) (option_map deref_pair r)) (sym c.in_err-other.was)
    ∙ ap (option_map (λ e. e.0)) found
    ∙ first_key (λ k. is_le (subscription_cmp c.args.place k)) (λ k. not (eq_by_cmp subscription_cmp k one)) (entries m)
