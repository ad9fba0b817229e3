use Rattle.std.proofs.Common.{ap, ◌∙◌}
use Rattle.someip_reassembly.specs.SegmentOffers.{conflicts, with_offer, no_part}
use Rattle.someip_reassembly.specs.Stores.{segment_arrived}
use Rattle.someip_reassembly.proofs.StoreLemmas.{nothing_conflicts, pushed_distinct, pushed_parts}
use Rattle.someip_reassembly.proofs.partials.offer_new.Goals as goal

pub accept-requires : goal.accept-requires
accept-requires c = ap (λ e. conflicts e.1 (segment_arrived c.args.arrived)) c.new-partial.ensures ∙ nothing_conflicts (segment_arrived c.args.arrived)

pub returns-clause-distinct : goal.returns-clause-distinct
returns-clause-distinct c =
    rw c.in_ok-push.ensures.items
    (pushed_distinct c.args.arrived.key c.args.partials.now.items c.accept.new.partial c.requires.distinct c.requires.new (c.accept.ensures.key ∙ ap (λ e. e.0) c.new-partial.ensures))

pub returns-clause-ok : goal.returns-clause-ok
returns-clause-ok c =
    rw c.in_ok-push.ensures.items
    (pushed_parts c.args.arrived.key (with_offer no_part c.args.arrived.now (segment_arrived c.args.arrived)) c.args.partials.now.items c.accept.new.partial c.requires.new
    (c.in_ok-offered.ensures.ok ∙ ap (λ e. (e.0, with_offer e.1 c.args.arrived.now (segment_arrived c.args.arrived))) c.new-partial.ensures))
