use Rattle.std.proofs.Common.{ap, ◌∙◌, sym, rules, true, nat_le, arith, ◌<◌, ◌≡◌}
use Rattle.std.specs.FinMap as finite
use Rattle.someip_tables.specs.Lastings.{unexpired}
use Rattle.someip_tables.specs.Tables.{map_of}
use Rattle.someip_rpc.specs.Ids.{call_cmp}
use Rattle.someip_rpc.specs.IdOrder.{calls_total, exact_calls}
use Rattle.someip_rpc.specs.Calls.{is_full}
use Rattle.someip_rpc.proofs.PendingLemmas.{all_keys, not_full, fewer_live}
use Rattle.someip_rpc.proofs.pending.is_full.Goals as goal

pub returns-then-len-ge-MOST_PENDING : goal.returns-then-len-ge-MOST_PENDING
returns-then-len-ge-MOST_PENDING c =
    let live = unexpired c.args.now (map_of call_cmp c.args.pending.now) in
    ap (nat_le 1024) (c.count_unexpired.ensures (λ _. true) (λ k answer said. search rules) ∙ ap finite.len (all_keys calls_total exact_calls live))
    ∙ ap (λ kind. is_full kind live) (sym c.in-Request.is)

pub returns-else-len-ge-MOST_PENDING : goal.returns-else-len-ge-MOST_PENDING
returns-else-len-ge-MOST_PENDING c =
    let live = unexpired c.args.now (map_of call_cmp c.args.pending.now) in
    let size : c.len.result ≡ finite.len (map_of call_cmp c.args.pending.now) = c.len.ensures in
    let below : finite.len (map_of call_cmp c.args.pending.now) < 1024 = omega arith in
    ap (nat_le 1024) size ∙ not_full _ _ (fewer_live c.args.now (map_of call_cmp c.args.pending.now)) below ∙ ap (λ kind. is_full kind live) (sym c.in-Request.is)
