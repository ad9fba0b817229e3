-- When the parts had their last segments.
use Rattle.std.proofs.Common.{◌≡◌, ◌≢◌, ℕ, ◌≤◌, Bool, true, false, cond, not, Option, None, Some, Result, Ok, Err, sym, ap, ◌∙◌, arith}
use Rattle.std.specs.Option.{is_some}
use Rattle.std.specs.Ordering.{eq_by_cmp}
use Rattle.std.specs.FinMap.{get, insert, remove, empty, get-insert, get-remove, get-empty}
use Rattle.someip_reassembly.specs.declared.key.ReassemblyKey.{ReassemblyKey}
use Rattle.someip_reassembly.specs.declared.reassembly.Offered.{Offered}
use Rattle.someip_reassembly.specs.declared.error.TpError.{TpError}
use Rattle.someip_reassembly.specs.declared.error.TpError.TheVariants.{Unaligned, TooLong, Conflict, NoSlot, OutOfMemory, NoHeader}
use Rattle.someip_reassembly.specs.Keys.{key_cmp}
use Rattle.someip_tables.specs.Retained.{kept_if as passed}
use Rattle.someip_reassembly.specs.Parts.{Part, Parts, Limits, NoneAfter, is_gone, parts_at}
use Rattle.someip_reassembly.specs.SegmentOffers.{SegmentOffer, judged, kept, parts_after, part_under, with_offer, message_at, parts_less}
use Rattle.someip_tables.proofs.Entries.{get-retain}
use Rattle.someip_reassembly.proofs.KeyOrder.{keys_total, exact_keys}
use Rattle.someip_reassembly.proofs.OfferLemmas.{offered_by}

-- ---- what a change leaves

none_is : (now : ℕ) (part : Part) → None ≡ Some part → part.last ≤ now
none_is now part h = absurd (cc)

pub none_in_empty : (now : ℕ) → NoneAfter now empty
none_in_empty now key part h = none_is now part (sym (get-empty key_cmp key) ∙ h)

pub later : (now next : ℕ) (parts : Parts) → now ≤ next → NoneAfter now parts → NoneAfter next parts
later now next parts le none key part h = omega (arith, le, none key part h)

pub none_after-parts_at : (now : ℕ) (limits : Limits) (at : ℕ) (parts : Parts) → NoneAfter now parts → NoneAfter now (parts_at limits at parts)
unfolding parts_at
none_after-parts_at now limits at parts none key part h =
    left (get parts key) (none key) (sym (get-retain keys_total exact_keys parts (λ key part. not (is_gone limits.timeout at part)) key) ∙ h)
  where
    left : (v : Option Part) → ((p : Part) → v ≡ Some p → p.last ≤ now) → passed (λ p. not (is_gone limits.timeout at p)) v ≡ Some part → part.last ≤ now
    left None all h = none_is now part h
    left (Some p) all h = cases (not (is_gone limits.timeout at p)) h
      where
        cases : (b : Bool) → cond b (Some p) None ≡ Some part → part.last ≤ now
        cases true h = all part h
        cases false h = none_is now part h

none_after-insert : (now : ℕ) (key : ReassemblyKey) (new : Part) (parts : Parts) → new.last ≤ now → NoneAfter now parts → NoneAfter now (insert parts key new)
none_after-insert now key new parts le none q part h = cases (eq_by_cmp key_cmp q key) (sym (get-insert keys_total parts key new q) ∙ h)
  where
    some : (p : Part) → Some new ≡ Some p → p.last ≤ now
    some p h =
        let same : new ≡ p = cc in
        let last : new.last ≡ p.last = ap (λ (x : Part). x.last) same in
        omega (arith, last, le)

    cases : (t : Bool) → cond t (Some new) (get parts q) ≡ Some part → part.last ≤ now
    cases true h = some part h
    cases false h = none q part h

none_after-remove : (now : ℕ) (key : ReassemblyKey) (parts : Parts) → NoneAfter now parts → NoneAfter now (remove parts key)
none_after-remove now key parts none q part h = cases (eq_by_cmp key_cmp q key) (sym (get-remove keys_total parts key q) ∙ h)
  where
    cases : (t : Bool) → cond t None (get parts q) ≡ Some part → part.last ≤ now
    cases true h = none_is now part h
    cases false h = none q part h

none_after-kept : (r : Result Offered TpError) (at now : ℕ) (o : SegmentOffer) (parts : Parts) → now ≤ at → NoneAfter at parts → NoneAfter at (kept r now o parts)
none_after-kept (Ok offered) at now o parts le none = none_after-insert at o.key (with_offer (part_under parts o.key) now o) parts le none
none_after-kept (Err Conflict) at now o parts le none = none_after-remove at o.key parts none
none_after-kept (Err Unaligned) at now o parts le none = none
none_after-kept (Err TooLong) at now o parts le none = none
none_after-kept (Err NoSlot) at now o parts le none = none
none_after-kept (Err OutOfMemory) at now o parts le none = none
none_after-kept (Err NoHeader) at now o parts le none = none

-- an offer at a moment, or before it
none_after-offer_by : (at now : ℕ) (limits : Limits) (o : SegmentOffer) (parts : Parts) → now ≤ at → NoneAfter at parts → NoneAfter at (parts_after limits now o parts)
unfolding parts_after
none_after-offer_by at now limits o parts le none =
    let left = parts_at limits now parts in
    none_after-kept (judged limits now o left) at now o left le (none_after-parts_at at limits now parts none)

pub none_after-offer : (now : ℕ) (limits : Limits) (o : SegmentOffer) (parts : Parts) → NoneAfter now parts → NoneAfter now (parts_after limits now o parts)
none_after-offer now limits o parts none = none_after-offer_by now now limits o parts (omega arith) none

pub none_after-take : (now : ℕ) (key : ReassemblyKey) (parts : Parts) → NoneAfter now parts → NoneAfter now (parts_less parts key)
unfolding parts_less
none_after-take now key parts none = cases (is_some (message_at parts key))
  where
    cases : (t : Bool) → NoneAfter now (cond t (remove parts key) parts)
    cases true = none_after-remove now key parts none
    cases false = none

-- ---- an offer that was made

-- whether memory was wanting or not
pub none_after-offered_by : (at now : ℕ) (limits : Limits) (o : SegmentOffer) (parts left : Parts) (r : Result Offered TpError) → (r ≢ Err OutOfMemory → left ≡ parts_after limits now o parts)
    → (r ≡ Err OutOfMemory → left ≡ parts_at limits now parts) → now ≤ at → NoneAfter at parts → NoneAfter at left
none_after-offered_by at now limits o parts left r after gone le none =
    offered_by (NoneAfter at) limits now o parts left r after gone (none_after-offer_by at now limits o parts le none) (none_after-parts_at at limits now parts none)

pub none_after-offered : (now : ℕ) (limits : Limits) (o : SegmentOffer) (parts left : Parts) (r : Result Offered TpError) → (r ≢ Err OutOfMemory → left ≡ parts_after limits now o parts)
    → (r ≡ Err OutOfMemory → left ≡ parts_at limits now parts) → NoneAfter now parts → NoneAfter now left
none_after-offered now limits o parts left r after gone none = none_after-offered_by now now limits o parts left r after gone (omega arith) none
