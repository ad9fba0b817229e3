use Rattle.std.proofs.Common.{ap, ◌∙◌, sym, ◌≡◌, ◌&&◌, Bool, true, false, nat_eq}
use Rattle.std.specs.Ordering.{eq_by_cmp}
use Rattle.someip_tables.specs.Endpoints.{endpoint_cmp}
use Rattle.someip_tables.specs.Tables.{map_of}
use Rattle.someip_rpc.specs.Ids.{call_cmp}
use Rattle.someip_rpc.specs.Answers.{is_awaited}
use Rattle.someip_rpc.proofs.PendingLemmas.{shown}
use Rattle.someip_rpc.proofs.pending.is_awaited.Goals as goal

pub returns-in-None : goal.returns-in-None
returns-in-None c = ap (is_awaited c.args.from c.args.interface) (shown c.args.now (map_of call_cmp c.args.pending.now) c.args.key _ c.in-None.ensures)

pub returns-then-is_same_key : goal.returns-then-is_same_key
returns-then-is_same_key c =
    let lasting = c.in-Some.lasting.now in
    let same : eq_by_cmp endpoint_cmp lasting.value.peer c.args.from ≡ true = sym c.is_same_key.ensures.test ∙ c.if-is_same_key.true in
    ap (λ (b : Bool). b && nat_eq lasting.value.interface c.args.interface) (sym same)
    ∙ ap (is_awaited c.args.from c.args.interface) (shown c.args.now (map_of call_cmp c.args.pending.now) c.args.key _ c.in-Some.ensures)

pub returns-else-is_same_key : goal.returns-else-is_same_key
returns-else-is_same_key c =
    let lasting = c.in-Some.lasting.now in
    let other : eq_by_cmp endpoint_cmp lasting.value.peer c.args.from ≡ false = sym c.is_same_key.ensures.test ∙ c.if-is_same_key.false in
    c.if-is_same_key.false ∙ ap (λ (b : Bool). b && nat_eq lasting.value.interface c.args.interface) (sym other)
    ∙ ap (is_awaited c.args.from c.args.interface) (shown c.args.now (map_of call_cmp c.args.pending.now) c.args.key _ c.in-Some.ensures)
