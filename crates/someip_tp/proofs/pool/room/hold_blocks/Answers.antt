use Rattle.std.proofs.Common.{sym, ap, subst, ◌∙◌, ◌||◌, ◌&&◌, nat_le, nat_lt, length, arith}
use Rattle.someip_tp.specs.Blocks.{is_held, other_end, AreTied, AreUpTo}
use Rattle.someip_tp.proofs.reserved_memory.BlockLemmas.{blank_held, blank_other, blank_up_to, tied_alike, whole_again}
use Rattle.someip_tp.proofs.pool.room.hold_blocks.Goals as goal

pub hold_all-requires-clause-tied : goal.hold_all-requires-clause-tied
hold_all-requires-clause-tied c =
    let m = c.args.message in
    let items = c.deref_mut.ensures.value ∙ c.lengthen.ensures.items in
    subst (λ bs. AreTied (is_held m bs) (other_end bs)) (sym items)
    (tied_alike (is_held m c.args.blocks.now.items) _ (other_end c.args.blocks.now.items) _ (λ j. blank_held m _ c.args.blocks.now.items j c.requires.numbered) (λ j. blank_other _ c.args.blocks.now.items j) c.requires.tied)

pub returns-clause-held : goal.returns-clause-held
returns-clause-held c j =
    let m = c.args.message in
    let items = c.deref_mut.ensures.value ∙ c.lengthen.ensures.items in
    let whole = whole_again c.lengthen.new.items.len c.hold_all.new.blocks c.lengthen.new.items.items (c.hold_all.ensures.len ∙ ap length c.deref_mut.ensures.value) (sym c.deref_mut.ensures.len ∙ ap length c.deref_mut.ensures.value) in
    ap (λ bs. is_held m bs j) whole
    ∙ (c.hold_all.ensures.held j ∙ ap (λ b. (nat_le c.args.from j && nat_lt j c.args.to) || b) (ap (λ bs. is_held m bs j) items ∙ blank_held m _ c.args.blocks.now.items j c.requires.numbered))

pub returns-clause-tied : goal.returns-clause-tied
returns-clause-tied c =
    let m = c.args.message in
    let whole = whole_again c.lengthen.new.items.len c.hold_all.new.blocks c.lengthen.new.items.items (c.hold_all.ensures.len ∙ ap length c.deref_mut.ensures.value) (sym c.deref_mut.ensures.len ∙ ap length c.deref_mut.ensures.value) in
    subst (λ bs. AreTied (is_held m bs) (other_end bs)) (sym whole) c.hold_all.ensures.tied

pub returns-clause-earlier : goal.returns-clause-earlier
returns-clause-earlier c =
    let m = c.args.message in
    let items = c.deref_mut.ensures.value ∙ c.lengthen.ensures.items in
    let whole = whole_again c.lengthen.new.items.len c.hold_all.new.blocks c.lengthen.new.items.items (c.hold_all.ensures.len ∙ ap length c.deref_mut.ensures.value) (sym c.deref_mut.ensures.len ∙ ap length c.deref_mut.ensures.value) in
    subst (AreUpTo m) (sym whole) (c.hold_all.ensures.numbers m (omega arith) (subst (AreUpTo m) (sym items) (blank_up_to m _ c.args.blocks.now.items c.requires.earlier)))
