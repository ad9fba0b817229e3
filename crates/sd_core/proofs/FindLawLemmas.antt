-- What a tick at each millisecond makes of the instances that a node searches for.
use Rattle.std.proofs.Common.{◌≡◌, ◌↔◌, ℕ, zero, suc, ◌+◌, ◌≤◌, true, false, Option, None, Some, refl, ap, sym, ◌∙◌}
use Rattle.std.specs.Option.{option_and_then, option_map_or, is_some}
use Rattle.std.specs.FinMap as finite
use Rattle.std.specs.declared.net.socket_addr.SocketAddrV4.{SocketAddrV4}
use Rattle.someip_tables.proofs.MapLaws.{get-remove_own}
use Rattle.sd_core.specs.declared.keys.InstanceId.{InstanceId}
use Rattle.sd_core.specs.declared.phases.Phases.{Phases}
use Rattle.sd_core.specs.declared.received.ReceivedOffer.{ReceivedOffer}
use Rattle.sd_core.specs.declared.sending.Sending.{Sending}
use Rattle.sd_core.specs.KeyOrder.{instances_total, exact_instances}
use Rattle.sd_core.specs.Sendings.{first_at, goes_out, after_find, due_at}
use Rattle.sd_core.specs.SeekTables.{SeekTable, searching, seek_after_tick, learned}
use Rattle.sd_core.specs.OfferMoments.{offer_moment, seek_after, sends_find}
use Rattle.sd_core.proofs.ShownLemmas.{get-shown}
use Rattle.sd_core.proofs.MomentLemmas.{found_from, finds_sent, none_found, no_find_again}
use Rattle.sd_core.proofs.OfferLawLemmas.{due_is, due_nowhere}

-- what is left of the Finds of an instance after a tick at each of n milliseconds
finding_is : (phases : Phases) (from n : ℕ) (table : SeekTable) (q : InstanceId) → finite.get (seek_after phases from n table).finding q ≡ found_from phases from n (finite.get table.finding q)
finding_is phases from zero table q = refl
finding_is phases from (suc n) table q =
    get-shown instances_total exact_instances (after_find phases (from + n)) (seek_after phases from n table).finding q
    ∙ ap (option_and_then (after_find phases (from + n))) (finding_is phases from n table q)

sends_is : (phases : Phases) (from n : ℕ) (table : SeekTable) (q : InstanceId) (v : Option Sending) → finite.get table.finding q ≡ v
    → sends_find phases from n table q ≡ option_map_or (goes_out (from + n)) (found_from phases from n v) false
sends_is phases from n table q v is =
    due_is (from + n) (seek_after phases from n table).finding q
    ∙ ap (λ x. option_map_or (goes_out (from + n)) x false) (finding_is phases from n table q ∙ ap (found_from phases from n) is)

searching_is : (delay : ℕ) (table : SeekTable) (q : InstanceId) (v : Option ℕ) → finite.get table.wanted q ≡ v
    → finite.get (searching delay table).finding q ≡ option_and_then (λ _. Some (first_at delay)) v
searching_is delay table q v is = get-shown instances_total exact_instances (λ (_ : ℕ). Some (first_at delay)) table.wanted q ∙ ap (option_and_then (λ _. Some (first_at delay))) is

pub finds_go_out : (phases : Phases) (delay from n : ℕ) (table : SeekTable) (q : InstanceId) → from ≤ delay → is_some (finite.get table.wanted q) ≡ true
    → (sends_find phases from n (searching delay table) q ≡ true) ↔ ((k : ℕ) × (k ≤ phases.repetitions) × (from + n ≡ offer_moment phases delay k))
finds_go_out phases delay from n table q le there = at (finite.get table.wanted q) refl there
  where
    sent : (option_map_or (goes_out (from + n)) (found_from phases from n (Some (first_at delay))) false ≡ true) ↔ ((k : ℕ) × (k ≤ phases.repetitions) × (from + n ≡ offer_moment phases delay k))
    sent = finds_sent phases delay from n le

    at : (v : Option ℕ) → finite.get table.wanted q ≡ v → is_some v ≡ true
        → (sends_find phases from n (searching delay table) q ≡ true) ↔ ((k : ℕ) × (k ≤ phases.repetitions) × (from + n ≡ offer_moment phases delay k))
    at None is there = absurd (cc)
    at (Some major) is there =
        let same = sends_is phases from n (searching delay table) q (Some (first_at delay)) (searching_is delay table q (Some major) is) in
        ((λ goes. sent.0 (sym same ∙ goes)), (λ moment. same ∙ sent.1 moment))

-- what is searched for no longer sends no Find
pub no_find_left : (phases : Phases) (from n : ℕ) (table : SeekTable) (q : InstanceId) → finite.get table.finding q ≡ None → sends_find phases from n table q ≡ false
no_find_left phases from n table q none = sends_is phases from n table q None none ∙ ap (λ v. option_map_or (goes_out (from + n)) v false) (none_found phases from n)

pub no_finds_go_out : (phases : Phases) (delay from n : ℕ) (table : SeekTable) (q : InstanceId) → finite.get table.wanted q ≡ None → sends_find phases from n (searching delay table) q ≡ false
no_finds_go_out phases delay from n table q none = no_find_left phases from n (searching delay table) q (searching_is delay table q None none)

pub no_find_of_known : (phases : Phases) (from n : ℕ) (offer : ReceivedOffer) (endpoint : SocketAddrV4) (now : ℕ) (table : SeekTable)
    → sends_find phases from n (learned offer endpoint now table) offer.instance ≡ false
no_find_of_known phases from n offer endpoint now table =
    no_find_left phases from n (learned offer endpoint now table) offer.instance (get-remove_own instances_total exact_instances table.finding offer.instance)

-- one tick sends what is due once
pub no_find_due_again : (phases : Phases) (now : ℕ) (table : SeekTable) → due_at now (seek_after_tick phases now table).finding ≡ finite.empty
no_find_due_again phases now table =
    due_nowhere now (seek_after_tick phases now table).finding (λ q.
    ap (λ v. option_map_or (goes_out now) v false) (get-shown instances_total exact_instances (after_find phases now) table.finding q) ∙ at (finite.get table.finding q))
  where
    at : (v : Option Sending) → option_map_or (goes_out now) (option_and_then (after_find phases now) v) false ≡ false
    at None = refl
    at (Some s) = no_find_again phases now s
