use Rattle.std.proofs.Common.{◌≡◌, sym, ap, ◌∙◌, Ok, Err, false, true}
use Rattle.std.proofs.lemmas.Result.{err_from_is_err_and}
use Rattle.someip_reassembly.specs.Partials.{Entry}
use Rattle.someip_reassembly.specs.Stores.{segment_arrived, parts_of_entries}
use Rattle.someip_reassembly.specs.SegmentOffers.{judged_among, no_part, conflicts, part_under}
use Rattle.someip_reassembly.proofs.StoreLemmas.{removed_distinct, removed_parts, part_there, judged_conflict, judged_fit, wanting_acts}
use Rattle.someip_reassembly.proofs.partials.offer_at.Goals as goal

pub returns-then-contradicts-clause-distinct : goal.returns-then-contradicts-clause-distinct
returns-then-contradicts-clause-distinct c = rw c.drop_key.ensures (removed_distinct c.args.arrived.key c.args.partials.now.items c.requires.distinct)

pub returns-then-contradicts-clause-offers : goal.returns-then-contradicts-clause-offers
returns-then-contradicts-clause-offers c slots =
    let es = c.args.partials.now.items in
    let d : Entry = (c.args.arrived.key, no_part) in
    let clash : conflicts (part_under (parts_of_entries es) c.args.arrived.key) (segment_arrived c.args.arrived) ≡ true =
    ap (λ xs. conflicts (part_under (parts_of_entries xs) c.args.arrived.key) (segment_arrived c.args.arrived)) (sym c.deref.ensures.value) ∙ (sym c.contradicts.ensures ∙ c.if-contradicts.true) in (
      judged_conflict slots c.args.arrived.now (segment_arrived c.args.arrived) (parts_of_entries es) _ (part_there c.args.arrived.key es c.args.i d c.requires.distinct c.requires.there) clash,
      ap parts_of_entries c.drop_key.ensures ∙ removed_parts c.args.arrived.key es c.requires.distinct,
    )

pub returns-in_err-offered-clause-offers : goal.returns-in_err-offered-clause-offers
returns-in_err-offered-clause-offers c slots =
    let es = c.args.partials.now.items in
    let d : Entry = (c.args.arrived.key, no_part) in
    let fits : conflicts (part_under (parts_of_entries es) c.args.arrived.key) (segment_arrived c.args.arrived) ≡ false =
    ap (λ xs. conflicts (part_under (parts_of_entries xs) c.args.arrived.key) (segment_arrived c.args.arrived)) (sym c.deref.ensures.value) ∙ (sym c.contradicts.ensures ∙ c.if-contradicts.false) in
    let p = err_from_is_err_and c.from_residual.result c.from_residual.ensures.1 in
    wanting_acts (judged_among slots c.args.arrived.now (segment_arrived c.args.arrived) (parts_of_entries es)) c.args.arrived.now (segment_arrived c.args.arrived) (parts_of_entries es) (parts_of_entries c.accept_at.new.partials.items) c.from_residual.result _
    (p.1 ∙ ap Err p.2)
    (judged_fit slots c.args.arrived.now (segment_arrived c.args.arrived) (parts_of_entries es) _ (part_there c.args.arrived.key es c.args.i d c.requires.distinct c.requires.there) fits)
    (ap parts_of_entries c.in_err-offered.ensures.err)

pub returns-clause-offers : goal.returns-clause-offers
returns-clause-offers c slots =
    let es = c.args.partials.now.items in
    let d : Entry = (c.args.arrived.key, no_part) in
    let fits : conflicts (part_under (parts_of_entries es) c.args.arrived.key) (segment_arrived c.args.arrived) ≡ false =
    ap (λ xs. conflicts (part_under (parts_of_entries xs) c.args.arrived.key) (segment_arrived c.args.arrived)) (sym c.deref.ensures.value) ∙ (sym c.contradicts.ensures ∙ c.if-contradicts.false) in (
      ap Ok c.in_ok-offered.ensures.offered ∙ judged_fit slots c.args.arrived.now (segment_arrived c.args.arrived) (parts_of_entries es) _ (part_there c.args.arrived.key es c.args.i d c.requires.distinct c.requires.there) fits,
      c.in_ok-offered.ensures.ok,
    )
