use Rattle.std.proofs.Common.{◌≡◌, IfOk, sym, ap, subst, ◌∙◌}
use Rattle.std.proofs.lemmas.Result.{on_ok_weaker}
use Rattle.someip_reassembly.specs.SegmentOffers.{conflicts, part_or_whole, with_offer}
use Rattle.someip_reassembly.specs.Stores.{segment_arrived}
use Rattle.someip_reassembly.proofs.StoreLemmas.{entry_under, changed_distinct, changed_parts}
use Rattle.someip_reassembly.proofs.partials.accept_at.Goals as goal

pub accept-requires : goal.accept-requires
accept-requires c =
    ap (λ p. conflicts p (segment_arrived c.args.arrived)) (sym (entry_under c.args.arrived.key c.args.partials.now.items c.args.i c.index_mut-partial.result.now c.requires.distinct c.requires.there c.index_mut-partial.ensures.value))
    ∙ c.requires.fits

pub returns-clause-distinct : goal.returns-clause-distinct
returns-clause-distinct c =
    changed_distinct c.args.partials.now.items c.args.i c.index_mut-partial.result.now c.accept.new.partial c.requires.distinct c.requires.there.0 c.index_mut-partial.ensures.value c.accept.ensures.key

pub returns-clause-ok : goal.returns-clause-ok
returns-clause-ok c =
    on_ok_weaker c.accept.result
    (changed_parts c.args.arrived.key c.args.arrived.now (segment_arrived c.args.arrived) c.args.partials.now.items c.args.i c.index_mut-partial.result.now c.accept.new.partial c.requires.distinct c.requires.there c.index_mut-partial.ensures.value)
    c.accept.ensures.ok

pub returns-clause-offered : goal.returns-clause-offered
returns-clause-offered c =
    subst (λ p. IfOk c.accept.result (λ offered. offered ≡ part_or_whole (with_offer p c.args.arrived.now (segment_arrived c.args.arrived))))
    (sym (entry_under c.args.arrived.key c.args.partials.now.items c.args.i c.index_mut-partial.result.now c.requires.distinct c.requires.there c.index_mut-partial.ensures.value))
    c.accept.ensures.offered
