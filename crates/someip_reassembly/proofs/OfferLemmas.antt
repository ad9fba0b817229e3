-- What an offer leaves, whether memory was wanting for it or not, and whether it made a message whole.
use Rattle.std.proofs.Common.{◌≡◌, ◌≢◌, ℕ, Bool, true, false, cond, ◌&&◌, nat_le, if◌then◌else◌, List, Option, None, Some, Result, Ok, Err, refl, sym, ap, subst, ◌∙◌}
use Rattle.std.specs.Option.{is_some, is_none, option_and_then}
use Rattle.std.specs.FinMap.{get, insert, len, get-insert}
use Rattle.someip_reassembly.specs.declared.reassembly.Offered.{Offered}
use Rattle.someip_reassembly.specs.declared.reassembly.Offered.TheVariants.{Part as InPart, Whole}
use Rattle.someip_reassembly.specs.declared.error.TpError.{TpError}
use Rattle.someip_reassembly.specs.declared.error.TpError.TheVariants.{Unaligned, TooLong, Conflict, NoSlot, OutOfMemory, NoHeader}
use Rattle.someip_reassembly.specs.Parts.{Limits, Part, Parts, parts_at}
use Rattle.someip_reassembly.specs.SegmentOffers.{SegmentOffer, judgement, kept, parts_after, message_of, message_at, part_or_whole, with_offer, part_under, is_unaligned, is_too_long, conflicts}
use Rattle.someip_reassembly.proofs.KeyOrder.{keys_total, test_from_same}

-- what is true of the parts after the offer, and of those that are left at its moment, is true of what it leaves
pub offered_by : (P : Parts → Type 0) (limits : Limits) (now : ℕ) (o : SegmentOffer) (parts left : Parts) (r : Result Offered TpError) → (r ≢ Err OutOfMemory → left ≡ parts_after limits now o parts)
    → (r ≡ Err OutOfMemory → left ≡ parts_at limits now parts) → P (parts_after limits now o parts) → P (parts_at limits now parts) → P left
offered_by P limits now o parts left r after gone kept_so gone_so = cases r after gone
  where
    cases : (r : Result Offered TpError) → (r ≢ Err OutOfMemory → left ≡ parts_after limits now o parts) → (r ≡ Err OutOfMemory → left ≡ parts_at limits now parts) → P left
    cases (Ok x) after gone = subst P (sym (after (λ e. cc))) kept_so
    cases (Err Unaligned) after gone = subst P (sym (after (λ e. cc))) kept_so
    cases (Err TooLong) after gone = subst P (sym (after (λ e. cc))) kept_so
    cases (Err Conflict) after gone = subst P (sym (after (λ e. cc))) kept_so
    cases (Err NoSlot) after gone = subst P (sym (after (λ e. cc))) kept_so
    cases (Err NoHeader) after gone = subst P (sym (after (λ e. cc))) kept_so
    cases (Err OutOfMemory) after gone = subst P (sym (gone refl)) gone_so

-- ---- whole

there : (left : Parts) (o : SegmentOffer) (p : Part) → get (insert left o.key p) o.key ≡ Some p
there left o p = get-insert keys_total left o.key p o.key ∙ ap (λ t. cond t (Some p) (get left o.key)) (test_from_same o.key o.key refl)

-- the judgement, by its four tests
abbrev pub judged_by : (unaligned long full clash : Bool) → ℕ → SegmentOffer → Parts → Result Offered TpError
judged_by unaligned long full clash now o left =
    if unaligned then Err Unaligned else (if long then Err TooLong else (if full then Err NoSlot else (if clash then Err Conflict else Ok (part_or_whole (with_offer (part_under left o.key) now o)))))

-- an accepted segment is in its part
accepted_by : (unaligned long full clash : Bool) (now : ℕ) (o : SegmentOffer) (left : Parts) (offered : Offered) → judged_by unaligned long full clash now o left ≡ Ok offered
    → (option_and_then message_of (get (kept (judged_by unaligned long full clash now o left) now o left) o.key) ≡ message_of (with_offer (part_under left o.key) now o))
    × (part_or_whole (with_offer (part_under left o.key) now o) ≡ offered)
accepted_by true long full clash now o left offered h = absurd cc
accepted_by false true full clash now o left offered h = absurd cc
accepted_by false false true clash now o left offered h = absurd cc
accepted_by false false false true now o left offered h = absurd cc
accepted_by false false false false now o left offered h = (ap (option_and_then message_of) (there left o (with_offer (part_under left o.key) now o)), cc)

accepted : (limits : Limits) (now : ℕ) (o : SegmentOffer) (parts : Parts) (offered : Offered) → judgement limits now o parts ≡ Ok offered
    → (message_at (parts_after limits now o parts) o.key ≡ message_of (with_offer (part_under (parts_at limits now parts) o.key) now o))
    × (part_or_whole (with_offer (part_under (parts_at limits now parts) o.key) now o) ≡ offered)
unfolding judgement parts_after message_at
accepted limits now o parts offered h =
    let left = parts_at limits now parts in
    accepted_by (is_unaligned o) (is_too_long limits.limit o) (is_none (get left o.key) && nat_le limits.slots (len left)) (conflicts (part_under left o.key) o) now o left offered h

told_whole : (m : Option (List ℕ)) → (if is_some m then Whole else InPart) ≡ Whole → is_some m ≡ true
told_whole (Some message) h = refl
told_whole None h = absurd cc

told_part : (m : Option (List ℕ)) → (if is_some m then Whole else InPart) ≡ InPart → m ≡ None
told_part (Some message) h = absurd cc
told_part None h = refl

pub whole_is_there : (limits : Limits) (now : ℕ) (o : SegmentOffer) (parts : Parts) → judgement limits now o parts ≡ Ok Whole → is_some (message_at (parts_after limits now o parts) o.key) ≡ true
whole_is_there limits now o parts h =
    let a = accepted limits now o parts Whole h in
    ap is_some a.0 ∙ told_whole (message_of (with_offer (part_under (parts_at limits now parts) o.key) now o)) a.1

pub part_is_none : (limits : Limits) (now : ℕ) (o : SegmentOffer) (parts : Parts) → judgement limits now o parts ≡ Ok InPart → message_at (parts_after limits now o parts) o.key ≡ None
part_is_none limits now o parts h =
    let a = accepted limits now o parts InPart h in
    a.0 ∙ told_part (message_of (with_offer (part_under (parts_at limits now parts) o.key) now o)) a.1
