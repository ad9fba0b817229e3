use Rattle.std.proofs.Common.{sym, ap, ◌∙◌}
use Rattle.someip_reassembly.specs.SegmentOffers.{conflicts}
use Rattle.someip_reassembly.specs.Stores.{segment_arrived}
use Rattle.someip_reassembly.proofs.StoreLemmas.{entry_under}
use Rattle.someip_reassembly.proofs.partials.contradicts.Goals as goal

pub returns : goal.returns
returns c =
    c.contradicts.ensures
    ∙ ap (λ p. conflicts p (segment_arrived c.args.arrived)) (sym (entry_under c.args.arrived.key c.args.partials.now c.args.i c.index-partials-i.result c.requires.distinct c.requires.there c.index-partials-i.is))
