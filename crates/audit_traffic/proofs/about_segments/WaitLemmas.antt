-- The table of timeouts, by the parts of the store.
use Rattle.std.proofs.Common.{◌≡◌, ℕ, ◌+◌, ◌≤◌, nat_le, Bool, true, false, cond, not, Option, None, Some, Result, Ok, Err, refl, sym, ap, subst, ◌∙◌, arith}
use Rattle.std.specs.Option.{is_some}
use Rattle.std.specs.Ordering.{eq_by_cmp}
use Rattle.std.specs.FinMap.{get, insert, remove, empty, get-empty, get-insert, get-remove}
use Rattle.std.proofs.lemmas.Bool.Decides.{nat_tests}
use Rattle.someip_reassembly.specs.declared.error.TpError.{TpError}
use Rattle.someip_reassembly.specs.declared.error.TpError.TheVariants.{Unaligned, TooLong, Conflict, NoSlot, OutOfMemory, NoHeader}
use Rattle.someip_tables.specs.declared.hashed.origin.Numbers.{Numbers}
use Rattle.someip_tables.specs.Retained.{kept_if}
use Rattle.someip_tables.proofs.Entries.{get-retain, same_by_test}
use Rattle.someip_reassembly.specs.declared.key.ReassemblyKey.{ReassemblyKey}
use Rattle.someip_reassembly.specs.declared.reassembly.Offered.{Offered}
use Rattle.someip_reassembly.specs.declared.reassembly.Offered.TheVariants as offered
use Rattle.someip_reassembly.specs.Keys.{key_cmp}
use Rattle.someip_reassembly.specs.Parts.{Limits, Part, Parts, is_gone, parts_at}
use Rattle.someip_reassembly.specs.SegmentOffers.{SegmentOffer, judged, judgement, kept, parts_after, parts_less, message_at, part_under, with_offer}
use Rattle.someip_reassembly.proofs.KeyOrder.{keys_total, exact_keys}
use Rattle.someip_reassembly.proofs.OfferLemmas.{whole_is_there}
use Rattle.audit_traffic.specs.declared.segments.waiting.Waiting.{Waiting}
use Rattle.audit_traffic.specs.segments.MessageKeys.{message_key, message_cmp, messages_total}
use Rattle.audit_traffic.specs.segments.SegmentBooks.{parts_by, waiting_by}
use Rattle.audit_traffic.specs.segments.SegmentWaits.{Agrees, WaitTable, part_until, still_until}

-- what stands of a part at a moment
pub get-parts_at : (limits : Limits) (now : ℕ) (parts : Parts) (key : ReassemblyKey) → get (parts_at limits now parts) key ≡ kept_if (λ part. not (is_gone limits.timeout now part)) (get parts key)
unfolding parts_at
get-parts_at limits now parts key = get-retain keys_total exact_keys parts (λ _ part. not (is_gone limits.timeout now part)) key

-- a moment, unless it has come
abbrev still : ℕ → Option ℕ → Option ℕ
still now None = None
still now (Some at) = cond (nat_le at now) None (Some at)

part_still : (timeout now : ℕ) (v : Option Part) → part_until timeout (kept_if (λ part. not (is_gone timeout now part)) v) ≡ still now (part_until timeout v)
part_still timeout now None = refl
part_still timeout now (Some part) = cases (nat_le (part.last + timeout) now)
  where
    cases : (b : Bool) → part_until timeout (cond (not b) (Some part) None) ≡ cond b None (Some (part.last + timeout))
    cases true = refl
    cases false = refl

still_later : (latest now : ℕ) (v : Option ℕ) → latest ≤ now → still now (still latest v) ≡ still now v
still_later latest now None le = refl
still_later latest now (Some at) le = cases (nat_le at latest) refl
  where
    cases : (b : Bool) → nat_le at latest ≡ b → still now (cond b None (Some at)) ≡ still now (Some at)
    cases true is = let past : nat_le at now ≡ true = grind (arith, nat_tests) in rw past refl
    cases false is = refl

still_waiting_later : (latest now : ℕ) (v : Option Waiting) → latest ≤ now → still now (still_until latest v) ≡ still_until now v
still_waiting_later latest now None le = refl
still_waiting_later latest now (Some waiting) le = still_later latest now (Some waiting.until) le

pub agrees_later : (limits : Limits) (latest now : ℕ) (parts : Parts) (waiting : WaitTable) → latest ≤ now → Agrees limits latest parts waiting → Agrees limits now parts waiting
agrees_later limits latest now parts waiting le agrees key =
    ap (part_until limits.timeout) (get-parts_at limits now parts key)
    ∙ part_still limits.timeout now (get parts key)
    ∙ sym (still_later latest now (part_until limits.timeout (get parts key)) le)
    ∙ ap (still now) (sym (part_still limits.timeout latest (get parts key)) ∙ ap (part_until limits.timeout) (sym (get-parts_at limits latest parts key)) ∙ agrees key)
    ∙ still_waiting_later latest now (get waiting (message_key key)) le

pub agrees_empty : (limits : Limits) (now : ℕ) → Agrees limits now empty empty
agrees_empty limits now key =
    ap (part_until limits.timeout) (get-parts_at limits now empty key ∙ ap (kept_if (λ part. not (is_gone limits.timeout now part))) (get-empty key_cmp key))
    ∙ ap (still_until now) (sym (get-empty message_cmp (message_key key)))

-- ---- one message's part and timeout change

-- a message that is there is taken
less_is : (parts : Parts) (key : ReassemblyKey) → is_some (message_at parts key) ≡ true → parts_less parts key ≡ remove parts key
unfolding parts_less
less_is parts key there = ap (λ b. cond b (remove parts key) parts) there

module _ (limits : Limits) (now : ℕ) (parts : Parts) (waiting : WaitTable) (agrees : Agrees limits now parts waiting) where
  abbrev left : Parts
  left = parts_at limits now parts

  -- what stands once stands twice
  kept_still : (q : ReassemblyKey) → part_until limits.timeout (kept_if (λ part. not (is_gone limits.timeout now part)) (get left q)) ≡ still_until now (get waiting (message_key q))
  kept_still q =
      part_still limits.timeout now (get left q) ∙ ap (still now) (agrees q)
      ∙ still_waiting_later now now (get waiting (message_key q)) (omega arith)

  put_agrees : (key : ReassemblyKey) (part : Part) (new : Waiting) → new.until ≡ part.last + limits.timeout
      → Agrees limits now (insert left key part) (insert waiting (message_key key) new)
  put_agrees key part new until q =
      ap (part_until limits.timeout) (get-parts_at limits now (insert left key part) q)
      ∙ rw (get-insert keys_total left key part q, get-insert messages_total waiting (message_key key) new (message_key q)) (at (eq_by_cmp key_cmp q key))
    where
      at : (t : Bool) → part_until limits.timeout (kept_if (λ p. not (is_gone limits.timeout now p)) (cond t (Some part) (get left q)))
          ≡ still_until now (cond t (Some new) (get waiting (message_key q)))
      at true = part_still limits.timeout now (Some part) ∙ ap (λ n. still now (Some n)) (sym until)
      at false = kept_still q

  take_agrees : (key : ReassemblyKey) → Agrees limits now (remove left key) (remove waiting (message_key key))
  take_agrees key q =
      ap (part_until limits.timeout) (get-parts_at limits now (remove left key) q)
      ∙ rw (get-remove keys_total left key q, get-remove messages_total waiting (message_key key) (message_key q)) (at (eq_by_cmp key_cmp q key))
    where
      at : (t : Bool) → part_until limits.timeout (kept_if (λ p. not (is_gone limits.timeout now p)) (cond t None (get left q)))
          ≡ still_until now (cond t None (get waiting (message_key q)))
      at true = refl
      at false = kept_still q

  put_and_take_agrees : (key : ReassemblyKey) (part : Part) → Agrees limits now (remove (insert left key part) key) (remove waiting (message_key key))
  put_and_take_agrees key part q =
      ap (part_until limits.timeout) (get-parts_at limits now (remove (insert left key part) key) q)
      ∙ rw (get-remove keys_total (insert left key part) key q, get-insert keys_total left key part q, get-remove messages_total waiting (message_key key) (message_key q)) (at (eq_by_cmp key_cmp q key))
    where
      at : (t : Bool) → part_until limits.timeout (kept_if (λ p. not (is_gone limits.timeout now p)) (cond t None (cond t (Some part) (get left q))))
          ≡ still_until now (cond t None (get waiting (message_key q)))
      at true = refl
      at false = kept_still q

  left_agrees : Agrees limits now left waiting
  left_agrees q = ap (part_until limits.timeout) (get-parts_at limits now left q) ∙ kept_still q

  -- a timeout that has come is forgotten
  pub forget_agrees : (key : ReassemblyKey) (gone : Waiting) → get waiting (message_key key) ≡ Some gone → gone.until ≤ now → Agrees limits now parts (remove waiting (message_key key))
  forget_agrees key gone there over q = agrees q ∙ rw (get-remove messages_total waiting (message_key key) (message_key q)) (at (eq_by_cmp key_cmp q key) refl)
    where
      at : (t : Bool) → eq_by_cmp key_cmp q key ≡ t → still_until now (get waiting (message_key q)) ≡ still_until now (cond t None (get waiting (message_key q)))
      at true tie =
          let same : get waiting (message_key q) ≡ Some gone = ap (λ (j : ReassemblyKey). get waiting (message_key j)) (same_by_test exact_keys q key tie) ∙ there in
          let past : nat_le gone.until now ≡ true = grind (arith, nat_tests) in
          ap (still_until now) same ∙ ap (λ b. cond b None (Some gone.until)) past
      at false apart = refl

  after_is : (o : SegmentOffer) → parts_after limits now o parts ≡ kept (judged limits now o left) now o left
  unfolding parts_after
  after_is o = refl

  after_by : (o : SegmentOffer) (k : Numbers) (j : Result Offered TpError) → j ≡ judged limits now o left → judgement limits now o parts ≡ j
      → Agrees limits now (parts_by j o.key (kept j now o left)) (waiting_by j limits.timeout now k o.key waiting)
  after_by o k (Ok offered.Part) is was = put_agrees o.key (with_offer (part_under left o.key) now o) _ refl
  after_by o k (Ok offered.Whole) is was =
      let whole = kept (Ok offered.Whole) now o left in
      let after : parts_after limits now o parts ≡ whole = after_is o ∙ ap (λ r. kept r now o left) (sym is) in
      let there : is_some (message_at whole o.key) ≡ true = ap (λ m. is_some (message_at m o.key)) (sym after) ∙ whole_is_there limits now o parts was in
      let P : Parts → Type 0 = λ m. Agrees limits now m (remove waiting (message_key o.key)) in
      subst P (sym (less_is whole o.key there)) (put_and_take_agrees o.key (with_offer (part_under left o.key) now o))
  after_by o k (Err Conflict) is was = take_agrees o.key
  after_by o k (Err Unaligned) is was = left_agrees
  after_by o k (Err TooLong) is was = left_agrees
  after_by o k (Err NoSlot) is was = left_agrees
  after_by o k (Err OutOfMemory) is was = left_agrees
  after_by o k (Err NoHeader) is was = left_agrees

  pub after_agrees : (o : SegmentOffer) (k : Numbers)
      → Agrees limits now (parts_by (judgement limits now o parts) o.key (parts_after limits now o parts)) (waiting_by (judgement limits now o parts) limits.timeout now k o.key waiting)
  unfolding judgement parts_after
  after_agrees o k = after_by o k (judged limits now o left) refl refl

-- the same of a store and a table that are these
pub after_agrees_as : (limits limits_then : Limits) (latest now timeout : ℕ) (parts parts_then : Parts) (waiting waiting_then : WaitTable) (o : SegmentOffer) (k : Numbers) → limits.timeout ≡ timeout
    → limits_then ≡ limits → latest ≤ now → Agrees limits latest parts waiting
    → parts_then ≡ parts_by (judgement limits now o parts) o.key (parts_after limits now o parts)
    → waiting_then ≡ waiting_by (judgement limits now o parts) timeout now k o.key waiting → Agrees limits_then now parts_then waiting_then
after_agrees_as limits limits_then latest now timeout parts parts_then waiting waiting_then o k same limits_is le agrees parts_is waiting_is =
    let P : Limits → Type 0 = λ l. Agrees l now parts_then waiting_then in
    let Q : Parts → Type 0 = λ p. Agrees limits now p waiting_then in
    let R : WaitTable → Type 0 = λ w. Agrees limits now (parts_by (judgement limits now o parts) o.key (parts_after limits now o parts)) w in
    let waiting_as : waiting_then ≡ waiting_by (judgement limits now o parts) limits.timeout now k o.key waiting =
    waiting_is ∙ ap (λ n. waiting_by (judgement limits now o parts) n now k o.key waiting) (sym same) in
    subst P (sym limits_is) (subst Q (sym parts_is) (subst R (sym waiting_as) (after_agrees limits now parts waiting (agrees_later limits latest now parts waiting le agrees) o k)))
