-- How many offers stand.
use Rattle.std.proofs.Common.{◌≡◌, ℕ, ◌+◌, ◌<◌, ◌≤◌, nat_lt, Bool, true, false, cond, ◌||◌, is_some, Result, Ok, Err, arith}
use Rattle.std.specs.Result.{IfOk, OnErr}
use Rattle.std.proofs.lemmas.Bool.{ltb-true}
use Rattle.std.specs.FinMap as finite
use Rattle.someip_tables.proofs.MapLaws.{len-remove-≤}
use Rattle.someip_tables.specs.hashed.Rooms.{may_hold}
use Rattle.audit_sd.specs.declared.offers.entry.OfferEntry.{OfferEntry}
use Rattle.audit_sd.specs.declared.offers.entry.Standing.{Standing}
use Rattle.audit_sd.specs.declared.offers.key.OfferKey.{OfferKey}
use Rattle.audit_sd.specs.offers.OfferKeys.{offer_cmp}
use Rattle.audit_sd.specs.offers.OfferOrder.{offers_total, exact_offers}
use Rattle.audit_sd.specs.offers.OfferRules.{sender_of}
use Rattle.audit_sd.specs.offers.OfferTables.{Offers, is_offered_by, stopped}

-- none stand
pub none_within : (offers : Offers) (limit : ℕ) → offers ≡ finite.empty → finite.len offers ≤ limit
none_within offers limit none = rw (none, finite.len-empty offer_cmp Standing) (omega arith)

-- a StopOffer makes no more
pub stopped_within : (entry : OfferEntry) (limit : ℕ) (old new : Offers) → finite.len old ≤ limit → new ≡ stopped entry old → finite.len new ≤ limit
stopped_within entry limit old new few is = rw is (cases (is_offered_by (sender_of entry) (finite.get old entry.key)))
  where
    cases : (b : Bool) → finite.len (cond b (finite.remove old entry.key) old) ≤ limit
    cases true = let less = len-remove-≤ offers_total exact_offers old entry.key in omega (arith, less, few)
    cases false = few

-- an Offer makes one more where there is room
pub offered_within : {T E : Type 0} (key : OfferKey) (offer : Standing) (limit : ℕ) (old new : Offers) (result : Result T E) → finite.len old ≤ limit → may_hold limit old key ≡ true
    → IfOk result (λ _. new ≡ finite.insert old key offer) → OnErr result (new ≡ old) → finite.len new ≤ limit
offered_within key offer limit old new (Ok told) few may after err = rw (after, finite.len-insert offers_total old key offer) (cases (is_some (finite.get old key)) may)
  where
    cases : (b : Bool) → (b || nat_lt (finite.len old) limit) ≡ true → cond b (finite.len old) (finite.len old + 1) ≤ limit
    cases true m = few
    cases false m = let below : finite.len old < limit = ltb-true (finite.len old) limit m in omega (arith, below)
offered_within key offer limit old new (Err e) few may after err = rw err few
