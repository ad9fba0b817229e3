use Rattle.std.proofs.Common.{◌≡◌, nat_le, sym, ap, subst, ◌∙◌, Ok, Err, refl, false, true, None, arith, length}
use Rattle.std.proofs.lemmas.Bool.Decides.{nat_tests}
use Rattle.std.specs.FinMap.{get, len}
use Rattle.std.proofs.lemmas.Result.{err_from_is_err_and}
use Rattle.someip_reassembly.specs.Stores.{StandsAt, segment_arrived, parts_of_entries}
use Rattle.someip_reassembly.specs.SegmentOffers.{judged_among}
use Rattle.someip_reassembly.proofs.StoreLemmas.{no_part_there, count_is, judged_full, judged_new, wanting_acts, no_part_under}
use Rattle.someip_reassembly.proofs.partials.offer_among.Goals as goal

pub returns-then-len-slots-clause-offers : goal.returns-then-len-slots-clause-offers
returns-then-len-slots-clause-offers c =
    let es = c.args.partials.now.items in
    let none : get (parts_of_entries es) c.args.arrived.key ≡ None = no_part_there c.args.arrived.key es (subst (λ xs. StandsAt c.args.arrived.key xs None) c.deref.ensures.value c.in-None.ensures) in
    let held : len (parts_of_entries es) ≡ c.len.result = count_is es c.requires ∙ (ap length (sym c.deref.ensures.value) ∙ (c.deref.ensures.len ∙ sym c.len.ensures)) in
    let full : nat_le c.args.slots (len (parts_of_entries es)) ≡ true = rw held (grind (arith, nat_tests, c.if-len-slots.true)) in
    (judged_full c.args.slots c.args.arrived.now (segment_arrived c.args.arrived) (parts_of_entries es) none full, refl)

pub returns-in_err-offered-in-None-clause-offers : goal.returns-in_err-offered-in-None-clause-offers
returns-in_err-offered-in-None-clause-offers c =
    let es = c.args.partials.now.items in
    let none : get (parts_of_entries es) c.args.arrived.key ≡ None = no_part_there c.args.arrived.key es (subst (λ xs. StandsAt c.args.arrived.key xs None) c.deref.ensures.value c.in-None.ensures) in
    let held : len (parts_of_entries es) ≡ c.len.result = count_is es c.requires ∙ (ap length (sym c.deref.ensures.value) ∙ (c.deref.ensures.len ∙ sym c.len.ensures)) in
    let room : nat_le c.args.slots (len (parts_of_entries es)) ≡ false = rw held (grind (arith, nat_tests, c.if-len-slots.false)) in
    let p = err_from_is_err_and c.from_residual.result c.from_residual.ensures.1 in
    wanting_acts (judged_among c.args.slots c.args.arrived.now (segment_arrived c.args.arrived) (parts_of_entries es)) c.args.arrived.now (segment_arrived c.args.arrived) (parts_of_entries es) (parts_of_entries c.offer_new.new.partials.items) c.from_residual.result _
    (p.1 ∙ ap Err p.2)
    (judged_new c.args.slots c.args.arrived.now (segment_arrived c.args.arrived) (parts_of_entries es) none room)
    (ap parts_of_entries c.in_err-offered-in-None.ensures.err)

pub returns-in_ok-offered-in-None-clause-offers : goal.returns-in_ok-offered-in-None-clause-offers
returns-in_ok-offered-in-None-clause-offers c =
    let es = c.args.partials.now.items in
    let none : get (parts_of_entries es) c.args.arrived.key ≡ None = no_part_there c.args.arrived.key es (subst (λ xs. StandsAt c.args.arrived.key xs None) c.deref.ensures.value c.in-None.ensures) in
    let held : len (parts_of_entries es) ≡ c.len.result = count_is es c.requires ∙ (ap length (sym c.deref.ensures.value) ∙ (c.deref.ensures.len ∙ sym c.len.ensures)) in
    let room : nat_le c.args.slots (len (parts_of_entries es)) ≡ false = rw held (grind (arith, nat_tests, c.if-len-slots.false)) in (
      ap Ok c.in_ok-offered-in-None.ensures.offered ∙ judged_new c.args.slots c.args.arrived.now (segment_arrived c.args.arrived) (parts_of_entries es) none room,
      c.in_ok-offered-in-None.ensures.ok ∙ no_part_under c.args.arrived.key c.args.arrived.now (segment_arrived c.args.arrived) (parts_of_entries es) none,
    )
