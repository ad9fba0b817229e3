use Rattle.std.proofs.Common.{◌∙◌, sym, ◌≡◌, ◌≤◌, true, arith}
use Rattle.std.specs.FinMap as finite
use Rattle.someip_tables.specs.Lastings.{unexpired}
use Rattle.someip_tables.specs.Tables.{map_of}
use Rattle.someip_rpc.specs.Ids.{call_cmp}
use Rattle.someip_rpc.specs.Calls.{is_pending}
use Rattle.someip_rpc.proofs.PendingLemmas.{fewer_live, passed_few}
use Rattle.someip_rpc.proofs.pending.first_free.Goals as goal

pub overflow_add-passed : goal.overflow_add-passed
overflow_add-passed c =
    let live = unexpired c.args.now (map_of call_cmp c.args.pending.now) in
    let few : finite.len live ≤ 1024 = omega (arith, fewer_live c.args.now (map_of call_cmp c.args.pending.now)) in
    let high : c.args.first ≤ 65535 = omega arith in
    let here : is_pending live c.args.message c.loop-message.session ≡ true = sym c.is_pending.ensures ∙ c.loop-message-test.true in
    let below = passed_few live c.args.message c.args.first c.loop-message.passed c.loop-message.session high few c.loop-message.invariant.steps c.loop-message.invariant.waiting here in
    omega arith

pub loop-message-smaller : goal.loop-message-smaller
loop-message-smaller c =
    let live = unexpired c.args.now (map_of call_cmp c.args.pending.now) in
    let few : finite.len live ≤ 1024 = omega (arith, fewer_live c.args.now (map_of call_cmp c.args.pending.now)) in
    let high : c.args.first ≤ 65535 = omega arith in
    let here : is_pending live c.args.message c.loop-message.session ≡ true = sym c.is_pending.ensures ∙ c.loop-message-test.true in
    let below = passed_few live c.args.message c.args.first c.loop-message.passed c.loop-message.session high few c.loop-message.invariant.steps c.loop-message.invariant.waiting here in
    omega arith
