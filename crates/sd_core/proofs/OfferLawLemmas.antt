-- What a tick at each millisecond makes of the offers of a node.
use Rattle.std.proofs.Common.{◌≡◌, ◌↔◌, ℕ, zero, suc, ◌+◌, ◌≤◌, Bool, true, false, cond, Option, None, Some, refl, ap, sym, ◌∙◌}
use Rattle.std.specs.Option.{option_and_then, option_map, option_map_or, is_some}
use Rattle.std.specs.FinMap as finite
use Rattle.someip_tables.specs.Retained.{kept_if}
use Rattle.someip_tables.proofs.Entries.{get-retain}
use Rattle.sd_core.specs.declared.keys.InstanceId.{InstanceId}
use Rattle.sd_core.specs.declared.version.Version.{Version}
use Rattle.sd_core.specs.declared.phases.Phases.{Phases}
use Rattle.sd_core.specs.declared.sending.Sending.{Sending}
use Rattle.sd_core.specs.Keys.{instance_cmp}
use Rattle.sd_core.specs.KeyOrder.{instances_total, exact_instances}
use Rattle.sd_core.specs.Sendings.{first_at, goes_out, sent_if_due, due_at}
use Rattle.sd_core.specs.OfferTables.{OfferTable, started, after_tick}
use Rattle.sd_core.specs.OfferMoments.{offer_moment, offers_after, sends_offer}
use Rattle.sd_core.proofs.ShownLemmas.{get-shown}
use Rattle.sd_core.proofs.MomentLemmas.{ticked_from, offers_sent, not_due_again}

-- an instance is due where its sending is
pub due_is : (now : ℕ) (m : finite.FinMap instance_cmp Sending) (q : InstanceId) → is_some (finite.get (due_at now m) q) ≡ option_map_or (goes_out now) (finite.get m q) false
due_is now m q = ap is_some (get-retain instances_total exact_instances m (λ _ s. goes_out now s) q) ∙ at (finite.get m q)
  where
    passes : (s : Sending) (b : Bool) → is_some (cond b (Some s) None) ≡ b
    passes s true = refl
    passes s false = refl

    at : (v : Option Sending) → is_some (kept_if (goes_out now) v) ≡ option_map_or (goes_out now) v false
    at None = refl
    at (Some s) = passes s (goes_out now s)

-- none is due where none of a map is
pub due_nowhere : (now : ℕ) (m : finite.FinMap instance_cmp Sending) → ((q : InstanceId) → option_map_or (goes_out now) (finite.get m q) false ≡ false) → due_at now m ≡ finite.empty
due_nowhere now m none =
    finite.same_map instances_total exact_instances _ _ (λ q. get-retain instances_total exact_instances m (λ _ s. goes_out now s) q ∙ at (finite.get m q) (none q) ∙ sym (finite.get-empty instance_cmp q))
  where
    at : (v : Option Sending) → option_map_or (goes_out now) v false ≡ false → kept_if (goes_out now) v ≡ None
    at None no_one = refl
    at (Some s) no_one = rw no_one refl

-- what an instance is to send after a tick at each of n milliseconds
up_is : (phases : Phases) (from n : ℕ) (offers : OfferTable) (q : InstanceId)
    → finite.get (offers_after phases from n offers).up q ≡ option_map (ticked_from phases from n) (finite.get offers.up q)
up_is phases from zero offers q = same (finite.get offers.up q)
  where
    same : (v : Option Sending) → v ≡ option_map (λ s. s) v
    same None = refl
    same (Some s) = refl
up_is phases from (suc n) offers q =
    get-shown instances_total exact_instances (λ s. Some (sent_if_due phases (from + n) s)) (offers_after phases from n offers).up q
    ∙ ap (option_and_then (λ s. Some (sent_if_due phases (from + n) s))) (up_is phases from n offers q) ∙ next (finite.get offers.up q)
  where
    next : (v : Option Sending) → option_and_then (λ s. Some (sent_if_due phases (from + n) s)) (option_map (ticked_from phases from n) v) ≡ option_map (ticked_from phases from (suc n)) v
    next None = refl
    next (Some s) = refl

started_is : (delay : ℕ) (offers : OfferTable) (q : InstanceId) (v : Option Version) → finite.get offers.versions q ≡ v
    → finite.get (started delay offers).up q ≡ option_and_then (λ _. Some (first_at delay)) v
started_is delay offers q v is = get-shown instances_total exact_instances (λ (_ : Version). Some (first_at delay)) offers.versions q ∙ ap (option_and_then (λ _. Some (first_at delay))) is

sends_is : (phases : Phases) (delay from n : ℕ) (offers : OfferTable) (q : InstanceId) (v : Option Version) → finite.get offers.versions q ≡ v
    → sends_offer phases from n (started delay offers) q ≡ option_map_or (goes_out (from + n)) (option_map (ticked_from phases from n) (option_and_then (λ _. Some (first_at delay)) v)) false
sends_is phases delay from n offers q v is =
    due_is (from + n) (offers_after phases from n (started delay offers)).up q
    ∙ ap (λ x. option_map_or (goes_out (from + n)) x false) (up_is phases from n (started delay offers) q ∙ ap (option_map (ticked_from phases from n)) (started_is delay offers q v is))

pub offers_go_out : (phases : Phases) (delay from n : ℕ) (offers : OfferTable) (q : InstanceId) → from ≤ delay → is_some (finite.get offers.versions q) ≡ true
    → (sends_offer phases from n (started delay offers) q ≡ true) ↔ ((k : ℕ) × (from + n ≡ offer_moment phases delay k))
offers_go_out phases delay from n offers q le there = at (finite.get offers.versions q) refl there
  where
    sent : (goes_out (from + n) (ticked_from phases from n (first_at delay)) ≡ true) ↔ ((k : ℕ) × (from + n ≡ offer_moment phases delay k))
    sent = offers_sent phases delay from n le

    at : (v : Option Version) → finite.get offers.versions q ≡ v → is_some v ≡ true
        → (sends_offer phases from n (started delay offers) q ≡ true) ↔ ((k : ℕ) × (from + n ≡ offer_moment phases delay k))
    at None is there = absurd (cc)
    at (Some version) is there =
        let same = sends_is phases delay from n offers q (Some version) is in
        ((λ goes. sent.0 (sym same ∙ goes)), (λ moment. same ∙ sent.1 moment))

pub no_offers_go_out : (phases : Phases) (delay from n : ℕ) (offers : OfferTable) (q : InstanceId) → finite.get offers.versions q ≡ None
    → sends_offer phases from n (started delay offers) q ≡ false
no_offers_go_out phases delay from n offers q none = sends_is phases delay from n offers q None none

-- one tick sends what is due once
pub none_due_again : (phases : Phases) (now : ℕ) (offers : OfferTable) → due_at now (after_tick phases now offers).up ≡ finite.empty
none_due_again phases now offers =
    due_nowhere now (after_tick phases now offers).up (λ q.
    ap (λ v. option_map_or (goes_out now) v false) (get-shown instances_total exact_instances (λ s. Some (sent_if_due phases now s)) offers.up q) ∙ at (finite.get offers.up q))
  where
    at : (v : Option Sending) → option_map_or (goes_out now) (option_and_then (λ s. Some (sent_if_due phases now s)) v) false ≡ false
    at None = refl
    at (Some s) = not_due_again phases now s
