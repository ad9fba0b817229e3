use Rattle.std.proofs.Common.{◌≡◌, sym, ap, ◌∙◌, false, true}
use Rattle.std.specs.Option.{is_some}
use Rattle.someip_reassembly.specs.SegmentOffers.{message_at}
use Rattle.someip_reassembly.specs.Stores.{parts_of_entries}
use Rattle.someip_reassembly.proofs.StoreLemmas.{removed_distinct, parts_less_whole, parts_less_none}
use Rattle.someip_reassembly.proofs.partials.take_from.Goals as goal

pub returns-then-taken-clause-distinct : goal.returns-then-taken-clause-distinct
returns-then-taken-clause-distinct c = rw c.drop_key.ensures (removed_distinct c.args.key.now c.args.partials.now.items c.requires)

pub returns-then-taken-clause-parts : goal.returns-then-taken-clause-parts
returns-then-taken-clause-parts c =
    let whole : is_some (message_at (parts_of_entries c.args.partials.now.items) c.args.key.now) ≡ true =
    ap (λ es. is_some (message_at (parts_of_entries es) c.args.key.now)) (sym c.deref.ensures.value) ∙ (sym c.in_ok-taken.ensures.taken ∙ c.if-taken.true) in
    rw c.drop_key.ensures (parts_less_whole c.args.key.now c.args.partials.now.items c.requires whole)

pub returns-else-taken-clause-parts : goal.returns-else-taken-clause-parts
returns-else-taken-clause-parts c =
    let none : is_some (message_at (parts_of_entries c.args.partials.now.items) c.args.key.now) ≡ false =
    ap (λ es. is_some (message_at (parts_of_entries es) c.args.key.now)) (sym c.deref.ensures.value) ∙ (sym c.in_ok-taken.ensures.taken ∙ c.if-taken.false) in
    parts_less_none c.args.key.now (parts_of_entries c.args.partials.now.items) none
