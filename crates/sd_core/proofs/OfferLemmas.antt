-- Offers as maps: what each change of their offerings shows.
use Rattle.std.proofs.Common.{◌≡◌, ℕ, Bool, true, false, if◌then◌else◌, ◌&&◌, Option, None, Some, refl, ap, sym, ◌∙◌}
use Rattle.std.specs.Option.{option_and_then, option_map, option_map_or}
use Rattle.std.specs.FinMap as finite
use Rattle.std.specs.FinMap.{FinMap}
use Rattle.someip_tables.specs.Changed.{each_changed}
use Rattle.someip_tables.specs.Retained.{retain}
use Rattle.someip_tables.specs.Waits.{is_due_by, due_by}
use Rattle.someip_tables.proofs.MapLaws.{remove_absent, insert_present}
use Rattle.someip_tables.proofs.SortedEntries.{keys-empty, no_keys}
use Rattle.sd_core.specs.declared.keys.InstanceId.{InstanceId}
use Rattle.sd_core.specs.declared.version.Version.{Version}
use Rattle.sd_core.specs.declared.version.Sought.{Sought}
use Rattle.sd_core.specs.declared.phases.Phases.{Phases}
use Rattle.sd_core.specs.declared.sending.Sending.{Sending}
use Rattle.sd_core.specs.declared.offers.Offering.{Offering}
use Rattle.sd_core.specs.Keys.{instance_cmp}
use Rattle.sd_core.specs.KeyOrder.{instances_total, exact_instances}
use Rattle.sd_core.specs.Sendings.{goes_out, has_sent, after_sending, sent_if_due, due_at}
use Rattle.sd_core.specs.OfferTables.{offers_of, started_at, after_tick, without, answering, is_sought}
use Rattle.sd_core.specs.Waiting.{offering_moment}
use Rattle.sd_core.proofs.ShownChanges.{shown-changed, shown-changed_same}
use Rattle.sd_core.proofs.ShownLemmas.{get-shown, shown-insert, shown-insert_none, shown-empty, keys-shown, none-shown}

abbrev Offerings : Type 0
Offerings = FinMap instance_cmp Offering

-- no offering
pub no_offerings : (offerings : Offerings) → offerings ≡ finite.empty → offers_of offerings ≡ record { versions = finite.empty; up = finite.empty }
no_offerings offerings is =
    ap offers_of is
    ∙ (λ i. record { versions = shown-empty instances_total exact_instances (λ (p : Offering). Some p.version) i; up = shown-empty instances_total exact_instances (λ (p : Offering). p.sending) i })

-- every offering sends first at this
pub all_started : (first : Sending) (offerings : Offerings)
    → offers_of (each_changed (λ _ p. record { version = p.version; sending = Some first }) offerings) ≡ started_at first (offers_of offerings)
all_started first offerings = λ i. record {
  versions = shown-changed_same instances_total exact_instances (λ _ p. record { version = p.version; sending = Some first }) (λ (p : Offering). Some p.version) offerings (λ q p. refl) i;
  up = shown-changed instances_total exact_instances (λ _ p. record { version = p.version; sending = Some first }) (λ (p : Offering). p.sending) (λ (_ : Version). Some first) (λ (p : Offering). Some p.version) offerings (λ q p. refl) i;
}

-- ---- a moment comes

abbrev pub offering_is_due : ℕ → InstanceId → Offering → Bool
offering_is_due now _ p = is_due_by now (offering_moment p)

-- its Offer went out
abbrev pub sent_offering : Phases → ℕ → Offering → Offering
sent_offering phases now p = record { version = p.version; sending = option_map (after_sending phases now) p.sending }

-- an offering is due where its Offer is
is_due : (now : ℕ) (p : Offering) → is_due_by now (offering_moment p) ≡ option_map_or (goes_out now) p.sending false
is_due now p = cases p.sending
  where
    cases : (v : Option Sending) → is_due_by now (option_map (λ s. s.due) v) ≡ option_map_or (goes_out now) v false
    cases None = refl
    cases (Some s) = refl

pub due_keys : (now : ℕ) (offerings : Offerings) → finite.keys (due_by offering_moment now offerings) ≡ finite.keys (due_at now (offers_of offerings).up)
due_keys now offerings = keys-shown instances_total exact_instances (λ (p : Offering). p.sending) offerings (offering_is_due now) (λ _ s. goes_out now s) (λ q p is. is_due now p)

pub none_due : (now : ℕ) (offerings : Offerings) → due_at now (offers_of offerings).up ≡ finite.empty → due_by offering_moment now offerings ≡ finite.empty
none_due now offerings = none-shown instances_total exact_instances (λ (p : Offering). p.sending) offerings (offering_is_due now) (λ _ s. goes_out now s) (λ q p is. is_due now p)

pub due_of_none : (now : ℕ) (offerings : Offerings) → due_by offering_moment now offerings ≡ finite.empty → due_at now (offers_of offerings).up ≡ finite.empty
due_of_none now offerings none = no_keys _ (sym (due_keys now offerings) ∙ ap finite.keys none ∙ keys-empty Offering instance_cmp)

-- those that are due sent
pub all_advanced : (phases : Phases) (now : ℕ) (offerings : Offerings)
    → offers_of (each_changed (λ q p. if offering_is_due now q p then sent_offering phases now p else p) offerings) ≡ after_tick phases now (offers_of offerings)
all_advanced phases now offerings = λ i. record {
  versions = shown-changed_same instances_total exact_instances changed (λ (p : Offering). Some p.version) offerings stays i;
  up = shown-changed instances_total exact_instances changed (λ (p : Offering). p.sending) (λ s. Some (sent_if_due phases now s)) (λ (p : Offering). p.sending) offerings sends i;
}
  where
    changed : InstanceId → Offering → Offering
    changed q p = if offering_is_due now q p then sent_offering phases now p else p

    stays : (q : InstanceId) (p : Offering) → Some (changed q p).version ≡ Some p.version
    stays q p = elim (offering_is_due now q p) as (λ b. Some (if b then sent_offering phases now p else p).version ≡ Some p.version) [ true ↦ refl | false ↦ refl ]

    sends : (q : InstanceId) (p : Offering) → (changed q p).sending ≡ option_and_then (λ s. Some (sent_if_due phases now s)) p.sending
    sends q p = shown_if (offering_is_due now q p) ∙ ap (λ (b : Bool). if b then option_map (after_sending phases now) p.sending else p.sending) (is_due now p) ∙ cases p.sending
      where
        shown_if : (b : Bool) → (if b then sent_offering phases now p else p).sending ≡ (if b then option_map (after_sending phases now) p.sending else p.sending)
        shown_if true = refl
        shown_if false = refl

        cases : (v : Option Sending) → (if option_map_or (goes_out now) v false then option_map (after_sending phases now) v else v) ≡ option_and_then (λ s. Some (sent_if_due phases now s)) v
        cases None = refl
        cases (Some s) = elim (goes_out now s) as (λ b. (if b then Some (after_sending phases now s) else Some s) ≡ Some (if b then after_sending phases now s else s)) [ true ↦ refl | false ↦ refl ]

-- ---- at one instance

-- an offering is put in that is down
pub put_down : (offerings : Offerings) (k : InstanceId) (version : Version) → offers_of (finite.insert offerings k (record { version = version; sending = None })) ≡ record {
  versions = finite.insert (offers_of offerings).versions k version;
  up = finite.remove (offers_of offerings).up k;
}
put_down offerings k version = λ i. record {
  versions = shown-insert instances_total exact_instances (λ (p : Offering). Some p.version) offerings k (record { version = version; sending = None }) version refl i;
  up = shown-insert_none instances_total exact_instances (λ (p : Offering). p.sending) offerings k (record { version = version; sending = None }) refl i;
}

-- the version and the next Offer of an instance
pub version_is : (offerings : Offerings) (q : InstanceId) (v : Option Offering) → finite.get offerings q ≡ v → finite.get (offers_of offerings).versions q ≡ option_and_then (λ p. Some p.version) v
version_is offerings q v is = get-shown instances_total exact_instances (λ (p : Offering). Some p.version) offerings q ∙ ap (option_and_then (λ p. Some p.version)) is

pub sending_is : (offerings : Offerings) (q : InstanceId) (v : Option Offering) → finite.get offerings q ≡ v → finite.get (offers_of offerings).up q ≡ option_and_then (λ p. p.sending) v
sending_is offerings q v is = get-shown instances_total exact_instances (λ (p : Offering). p.sending) offerings q ∙ ap (option_and_then (λ p. p.sending)) is

-- an instance is taken down
pub absent_without : (offerings : Offerings) (k : InstanceId) → finite.get offerings k ≡ None → offers_of offerings ≡ without k (offers_of offerings)
absent_without offerings k none = λ i. record {
  versions = (offers_of offerings).versions;
  up = sym (remove_absent instances_total exact_instances (offers_of offerings).up k (sending_is offerings k None none)) i;
}

pub taken_down : (offerings : Offerings) (k : InstanceId) (offering : Offering) → finite.get offerings k ≡ Some offering
    → offers_of (finite.insert offerings k (record { version = offering.version; sending = None })) ≡ without k (offers_of offerings)
taken_down offerings k offering found =
    put_down offerings k offering.version
    ∙ (λ i. record {
      versions = insert_present instances_total exact_instances (offers_of offerings).versions k offering.version (version_is offerings k (Some offering) found) i;
      up = finite.remove (offers_of offerings).up k;
    })

-- the instances that answer a Find
abbrev pub offering_answers : Sought → InstanceId → Offering → Bool
offering_answers sought instance p = is_sought sought instance p.version && option_map_or has_sent p.sending false

answers : (sought : Sought) (offerings : Offerings) (q : InstanceId) (p : Offering) → finite.get offerings q ≡ Some p
    → offering_answers sought q p ≡ option_map_or (λ s. option_map_or (is_sought sought q) (finite.get (offers_of offerings).versions q) false && has_sent s) p.sending false
answers sought offerings q p is =
    cases p.sending
    ∙ ap (λ v. option_map_or (λ s. option_map_or (is_sought sought q) v false && has_sent s) p.sending false)
    (sym (get-shown instances_total exact_instances (λ (x : Offering). Some x.version) offerings q ∙ ap (option_and_then (λ x. Some x.version)) is))
  where
    no : (b : Bool) → (b && false) ≡ false
    no true = refl
    no false = refl

    cases : (v : Option Sending) → (is_sought sought q p.version && option_map_or has_sent v false) ≡ option_map_or (λ s. is_sought sought q p.version && has_sent s) v false
    cases None = no (is_sought sought q p.version)
    cases (Some s) = refl

pub answering_keys : (sought : Sought) (offerings : Offerings) → finite.keys (retain offerings (offering_answers sought)) ≡ finite.keys (answering sought (offers_of offerings))
answering_keys sought offerings = keys-shown instances_total exact_instances (λ (p : Offering). p.sending) offerings (offering_answers sought) _ (answers sought offerings)

pub none_answers : (sought : Sought) (offerings : Offerings) → answering sought (offers_of offerings) ≡ finite.empty → retain offerings (offering_answers sought) ≡ finite.empty
none_answers sought offerings = none-shown instances_total exact_instances (λ (p : Offering). p.sending) offerings (offering_answers sought) _ (answers sought offerings)
