-- What is told of offers and of subscriptions is what their histories say.
use Rattle.std.proofs.Common.{◌≡◌, ◌≢◌, ◌⊎◌, inl, inr, ℕ, zero, suc, ◌<◌, ◌≤◌, ◌==◌, Bool, true, false, not, cond, List, [], ◌∷◌, ◌++◌, length, map, Option, None, Some, Result, Ok, Err, refl, sym, ap, subst, ◌∙◌, append_assoc, arith}
use Rattle.std.specs.Option.{option_map, option_to_list}
use Rattle.std.specs.declared.net.ipv4_addr.Ipv4Addr.{Ipv4Addr}
use Rattle.std.specs.declared.net.socket_addr.SocketAddrV4.{SocketAddrV4}
use Rattle.std.specs.declared.cmp.Ordering.{Ordering}
use Rattle.std.specs.FinMap.{empty, empty_of_len, entries, get, len, len-empty, len-entries}
use Rattle.std.proofs.lemmas.List.{append-nil}
use Rattle.sd_wire.specs.contents.Endpoints.{first_udp_endpoint, options_of}
use Rattle.sd_wire.specs.contents.Values.{ReadValue, SdValue, bad_run, good}
use Rattle.sd_wire.specs.declared.entry.EntryHead.{EntryHead}
use Rattle.sd_wire.specs.declared.entry.EntryHead.TheVariants.{Service, Eventgroup}
use Rattle.sd_wire.specs.declared.entry.EventgroupEntry.{EventgroupEntry}
use Rattle.sd_wire.specs.declared.entry.EventgroupKind.{EventgroupKind}
use Rattle.sd_wire.specs.declared.entry.EventgroupKind.TheVariants.{Ack, Subscribe}
use Rattle.sd_wire.specs.declared.entry.ServiceEntry.{ServiceEntry}
use Rattle.sd_wire.specs.declared.entry.ServiceKind.{ServiceKind}
use Rattle.sd_wire.specs.declared.entry.ServiceKind.TheVariants as service
use Rattle.sd_wire.specs.declared.error.SdError.{SdError}
use Rattle.sd_wire.specs.decoding.Program.{reading}
use Rattle.someip_tables.specs.Endpoints.{address_cmp}
use Rattle.someip_tables.specs.Deadlines.{has_passed}
use Rattle.someip_tables.specs.Lastings.{expired, unless_passed}
use Rattle.someip_tables.proofs.Entries.{get-retain}
use Rattle.someip_tables.specs.declared.hashed.origin.Origin.{Origin}
use Rattle.someip_wire.specs.Reading.{items_of}
use Rattle.someip_wire.specs.Spelling.{MessageValue}
use Rattle.someip_wire.specs.declared.error.WireError.{WireError}
use Rattle.audit_sd.specs.declared.sessions.finding.Finding.{Finding}
use Rattle.audit_sd.specs.declared.sessions.finding.Finding.TheVariants as sessions
use Rattle.audit_sd.specs.declared.sessions.message.SdMessage.{SdMessage}
use Rattle.audit_sd.specs.sessions.SessionBooks.{Sessions, sessions_after, told_by as told_by_session}
use Rattle.audit_services.specs.declared.offered.OfferTerms.{OfferTerms}
use Rattle.audit_services.specs.declared.offered.Offered.{Offered}
use Rattle.audit_services.specs.declared.shown.Shown.{Shown}
use Rattle.audit_services.specs.declared.shown.Shown.TheVariants.{KeyBegins, KeyEnds, Nothing, PlaceEnds, PlaceGoesOn}
use Rattle.audit_services.specs.declared.stay.Ended.{Ended}
use Rattle.audit_services.specs.declared.subscribed.NoTerms.{NoTerms}
use Rattle.audit_services.specs.declared.subscribed.Place.{Place}
use Rattle.audit_services.specs.declared.subscribed.Subscribed.{Subscribed}
use Rattle.audit_services.specs.declared.why.Why.TheVariants as why
use Rattle.audit_services.specs.Books.{Book, after_expired, told_expired}
use Rattle.audit_services.specs.Histories.{AreLasting, Expires, IsLasting, Tells, after_all, book_after, events_at, full_by, intervals_under, timeline, told_all, told_by}
use Rattle.audit_services.specs.OfferedKeys.{offered_cmp, places_of_offered, terms_cmp}
use Rattle.audit_services.specs.OfferedOrder.{offered}
use Rattle.audit_services.specs.Stays.{all_ended, ended_of, interval_of}
use Rattle.audit_services.specs.SubscribedKeys.{all_of, no_terms_cmp, place_cmp, places_of_subscribed, subscribed_cmp}
use Rattle.audit_services.specs.SubscribedOrder.{subscribed}
use Rattle.audit_services.specs.Timelines.{ended_in, ended_later, expired_by, intervals_of}
use Rattle.audit_services.proofs.DatagramLemmas.{datagram_told}
use Rattle.audit_services.proofs.HistoryLemmas.{a_book_tells_timelines, all_gone, under-append, under_all, unexpired_all}
use Rattle.audit_endpoints.specs.DiscoveryMessages.{is_sd}
use Rattle.someip_audit.specs.Audits.{Seen}
use Rattle.someip_audit.specs.SdEntries.{sd_message}
use Rattle.someip_services.specs.declared.told.FullBook.{FullBook}
use Rattle.someip_services.specs.declared.told.FullBook.TheVariants as full
use Rattle.someip_services.specs.declared.told.Told.{Told}
use Rattle.someip_services.specs.declared.told.Told.TheVariants.{Full, Offer, Subscription}
use Rattle.someip_services.specs.Entries.{OfferShown, SubscriptionShown, offered as offered_key, subscribed as subscribed_key, withdrawn, answered, answers, asks, group_by_kind, offer_begins, offer_by, offer_by_kind, offer_shown, subscription_by, subscription_shown, withdrawn_by_kind}
use Rattle.someip_services.specs.Services.{Ends, Expires as Expires_both, IsNextEnd, Known, OfferBook, SubscriptionBook, Takes, Work, begun_again, entries_taken, entry_taken, expired_taken, full_told, item_taken, items_taken, offers_changed, offers_changed_by, open_told, payload_taken, sd_taken, session_shown, session_taken, subscriptions_changed, subscriptions_changed_by, with_full}
use Rattle.someip_services.specs.ServiceTimelines.{Shows, TellsAll, TellsOf, entries_show, entry_shows, finding_shows, item_shows, items_show, offers_in, offers_of, payload_shows, reboot_shows, sd_shows, session_shows, sessions_of, shown_by, subscriptions_in, subscriptions_of}

-- ---- what is told, of offers and of subscriptions

offers_in-append : (a b : List Told) → offers_in (a ++ b) ≡ offers_in a ++ offers_in b
offers_in-append [] b = refl
offers_in-append (Offer e ∷ a) b = ap (λ (es : List (Ended Offered OfferTerms)). e ∷ es) (offers_in-append a b)
offers_in-append (Subscription e ∷ a) b = offers_in-append a b
offers_in-append (Full n ∷ a) b = offers_in-append a b

subscriptions_in-append : (a b : List Told) → subscriptions_in (a ++ b) ≡ subscriptions_in a ++ subscriptions_in b
subscriptions_in-append [] b = refl
subscriptions_in-append (Offer e ∷ a) b = subscriptions_in-append a b
subscriptions_in-append (Subscription e ∷ a) b = ap (λ (es : List (Ended Subscribed NoTerms)). e ∷ es) (subscriptions_in-append a b)
subscriptions_in-append (Full n ∷ a) b = subscriptions_in-append a b

offers_in-offers : (es : List (Ended Offered OfferTerms)) → offers_in (map Offer es) ≡ es
offers_in-offers [] = refl
offers_in-offers (e ∷ es) = ap (λ (l : List (Ended Offered OfferTerms)). e ∷ l) (offers_in-offers es)

offers_in-subscriptions : (es : List (Ended Subscribed NoTerms)) → offers_in (map Subscription es) ≡ []
offers_in-subscriptions [] = refl
offers_in-subscriptions (e ∷ es) = offers_in-subscriptions es

subscriptions_in-offers : (es : List (Ended Offered OfferTerms)) → subscriptions_in (map Offer es) ≡ []
subscriptions_in-offers [] = refl
subscriptions_in-offers (e ∷ es) = subscriptions_in-offers es

subscriptions_in-subscriptions : (es : List (Ended Subscribed NoTerms)) → subscriptions_in (map Subscription es) ≡ es
subscriptions_in-subscriptions [] = refl
subscriptions_in-subscriptions (e ∷ es) = ap (λ (l : List (Ended Subscribed NoTerms)). e ∷ l) (subscriptions_in-subscriptions es)

offers_in-full : (n : FullBook) (b : Bool) → offers_in (full_told n b) ≡ []
offers_in-full n true = refl
offers_in-full n false = refl

subscriptions_in-full : (n : FullBook) (b : Bool) → subscriptions_in (full_told n b) ≡ []
subscriptions_in-full n true = refl
subscriptions_in-full n false = refl

-- of what is told behind these, offers or none
offers_more : (t more : List Told) (es : List (Ended Offered OfferTerms)) → offers_in more ≡ es → offers_in (t ++ more) ≡ offers_in t ++ es
offers_more t more es is = offers_in-append t more ∙ ap (λ l. offers_in t ++ l) is

subscriptions_more : (t more : List Told) (es : List (Ended Subscribed NoTerms)) → subscriptions_in more ≡ es → subscriptions_in (t ++ more) ≡ subscriptions_in t ++ es
subscriptions_more t more es is = subscriptions_in-append t more ∙ ap (λ l. subscriptions_in t ++ l) is

offers_none : (t more : List Told) → offers_in more ≡ [] → offers_in (t ++ more) ≡ offers_in t
offers_none t more is = offers_more t more [] is ∙ append-nil (offers_in t)

subscriptions_none : (t more : List Told) → subscriptions_in more ≡ [] → subscriptions_in (t ++ more) ≡ subscriptions_in t
subscriptions_none t more is = subscriptions_more t more [] is ∙ append-nil (subscriptions_in t)

-- ---- what has expired

-- the deadlines of both, as those of each
pub record PassesOffers (now : ℕ) (w after : Work) : Type 0 where
  pub count : ℕ
  pub gone : List (Ended Offered OfferTerms)
  pub expires : Expires address_cmp offered_cmp terms_cmp places_of_offered now count w.known.offers gone after.known.offers
  pub told : offers_in after.told ≡ offers_in w.told ++ gone
  pub none : expired now after.known.offers.stays ≡ empty
  pub sessions : after.known.sessions ≡ w.known.sessions

pub record PassesSubscriptions (now : ℕ) (w after : Work) : Type 0 where
  pub count : ℕ
  pub gone : List (Ended Subscribed NoTerms)
  pub expires : Expires place_cmp subscribed_cmp no_terms_cmp places_of_subscribed now count w.known.subscriptions gone after.known.subscriptions
  pub told : subscriptions_in after.told ≡ subscriptions_in w.told ++ gone
  pub none : expired now after.known.subscriptions.stays ≡ empty

no_entries : {X : Type 0} (es : List X) → length es ≡ 0 → es ≡ []
no_entries [] none = refl
no_entries (e ∷ es) none = absurd (omega arith)

told_of_expired : (at : ℕ) (w : Work) → offers_in (expired_taken at w).told ≡ offers_in w.told ++ told_expired at w.known.offers
told_of_expired at w =
    offers_none (w.told ++ map Offer (told_expired at w.known.offers)) (map Subscription (told_expired at w.known.subscriptions)) (offers_in-subscriptions (told_expired at w.known.subscriptions))
    ∙ offers_more w.told (map Offer (told_expired at w.known.offers)) (told_expired at w.known.offers) (offers_in-offers (told_expired at w.known.offers))

asked_of_expired : (at : ℕ) (w : Work) → subscriptions_in (expired_taken at w).told ≡ subscriptions_in w.told ++ told_expired at w.known.subscriptions
asked_of_expired at w =
    subscriptions_more (w.told ++ map Offer (told_expired at w.known.offers)) (map Subscription (told_expired at w.known.subscriptions)) (told_expired at w.known.subscriptions) (subscriptions_in-subscriptions (told_expired at w.known.subscriptions))
    ∙ ap (λ l. l ++ told_expired at w.known.subscriptions) (subscriptions_none w.told (map Offer (told_expired at w.known.offers)) (subscriptions_in-offers (told_expired at w.known.offers)))

offers_pass_more : (now at : ℕ) (w after : Work) → at ≤ now → IsNextEnd at w.known → PassesOffers now (expired_taken at w) after → PassesOffers now w after
offers_pass_more now at w after le next later = cases (len (expired at w.known.offers.stays)) refl
  where
    cases : (n : ℕ) → len (expired at w.known.offers.stays) ≡ n → PassesOffers now w after
    cases zero is =
        let gone : expired at w.known.offers.stays ≡ empty = empty_of_len (expired at w.known.offers.stays) is in
        let same : after_expired at w.known.offers ≡ w.known.offers =
        ap (λ s. record { limit = w.known.offers.limit; stays = s; told_full = w.known.offers.told_full }) (unexpired_all offered.total offered.exact at w.known.offers.stays gone) in
        let nothing : told_expired at w.known.offers ≡ [] = ap (map (ended_of why.Expired at)) (no_entries (entries (expired at w.known.offers.stays)) (sym (len-entries (expired at w.known.offers.stays)) ∙ is)) in record {
          count = later.count;
          gone = later.gone;
          expires = subst (λ (b : OfferBook). Expires address_cmp offered_cmp terms_cmp places_of_offered now later.count b later.gone after.known.offers) same later.expires;
          told = later.told ∙ ap (λ l. l ++ later.gone) (told_of_expired at w ∙ ap (λ l. offers_in w.told ++ l) nothing ∙ append-nil (offers_in w.told));
          none = later.none;
          sessions = later.sessions;
        }
    cases (suc n) is = record {
      count = suc later.count;
      gone = told_expired at w.known.offers ++ later.gone;
      expires = (at, later.gone, le, (λ e. let none : len (expired at w.known.offers.stays) ≡ 0 = ap len e ∙ len-empty offered_cmp _ in absurd (omega (arith, none, is)), λ sooner less. (next.first sooner less).0), refl, later.expires);
      told = later.told ∙ ap (λ l. l ++ later.gone) (told_of_expired at w) ∙ append_assoc (offers_in w.told) (told_expired at w.known.offers) later.gone;
      none = later.none;
      sessions = later.sessions;
    }

offers_pass : (now : ℕ) (moments : List ℕ) (w after : Work) → Expires_both now moments w after → PassesOffers now w after
offers_pass now [] w after (none, same) = record {
  count = 0;
  gone = [];
  expires = (none.0, refl, ap (λ (x : Work). x.known.offers) same);
  told = ap (λ (x : Work). offers_in x.told) same ∙ sym (append-nil (offers_in w.told));
  none = ap (λ (x : Work). expired now x.known.offers.stays) same ∙ none.0;
  sessions = ap (λ (x : Work). x.known.sessions) same;
}
offers_pass now (at ∷ moments) w after (le, next, rest) = offers_pass_more now at w after le next (offers_pass now moments (expired_taken at w) after rest)

subscriptions_pass_more : (now at : ℕ) (w after : Work) → at ≤ now → IsNextEnd at w.known → PassesSubscriptions now (expired_taken at w) after → PassesSubscriptions now w after
subscriptions_pass_more now at w after le next later = cases (len (expired at w.known.subscriptions.stays)) refl
  where
    cases : (n : ℕ) → len (expired at w.known.subscriptions.stays) ≡ n → PassesSubscriptions now w after
    cases zero is =
        let gone : expired at w.known.subscriptions.stays ≡ empty = empty_of_len (expired at w.known.subscriptions.stays) is in
        let same : after_expired at w.known.subscriptions ≡ w.known.subscriptions =
        ap (λ s. record { limit = w.known.subscriptions.limit; stays = s; told_full = w.known.subscriptions.told_full }) (unexpired_all subscribed.total subscribed.exact at w.known.subscriptions.stays gone) in
        let nothing : told_expired at w.known.subscriptions ≡ [] = ap (map (ended_of why.Expired at)) (no_entries (entries (expired at w.known.subscriptions.stays)) (sym (len-entries (expired at w.known.subscriptions.stays)) ∙ is)) in record {
          count = later.count;
          gone = later.gone;
          expires = subst (λ (b : SubscriptionBook). Expires place_cmp subscribed_cmp no_terms_cmp places_of_subscribed now later.count b later.gone after.known.subscriptions) same later.expires;
          told = later.told ∙ ap (λ l. l ++ later.gone) (asked_of_expired at w ∙ ap (λ l. subscriptions_in w.told ++ l) nothing ∙ append-nil (subscriptions_in w.told));
          none = later.none;
        }
    cases (suc n) is = record {
      count = suc later.count;
      gone = told_expired at w.known.subscriptions ++ later.gone;
      expires = (at, later.gone, le, (λ e. let none : len (expired at w.known.subscriptions.stays) ≡ 0 = ap len e ∙ len-empty subscribed_cmp _ in absurd (omega (arith, none, is)), λ sooner less. (next.first sooner less).1), refl, later.expires);
      told = later.told ∙ ap (λ l. l ++ later.gone) (asked_of_expired at w) ∙ append_assoc (subscriptions_in w.told) (told_expired at w.known.subscriptions) later.gone;
      none = later.none;
    }

subscriptions_pass : (now : ℕ) (moments : List ℕ) (w after : Work) → Expires_both now moments w after → PassesSubscriptions now w after
subscriptions_pass now [] w after (none, same) = record {
  count = 0;
  gone = [];
  expires = (none.1, refl, ap (λ (x : Work). x.known.subscriptions) same);
  told = ap (λ (x : Work). subscriptions_in x.told) same ∙ sym (append-nil (subscriptions_in w.told));
  none = ap (λ (x : Work). expired now x.known.subscriptions.stays) same ∙ none.1;
}
subscriptions_pass now (at ∷ moments) w after (le, next, rest) = subscriptions_pass_more now at w after le next (subscriptions_pass now moments (expired_taken at w) after rest)

-- ---- the events of a datagram

-- a list of events and one more
after-more : {P K V : Type 0} {R : K → K → Ordering} (Q : P → P → Ordering) (C : V → V → Ordering) (places : K → (P × P) × (P × P)) (now : ℕ)
    (xs : List (Shown P K V)) (x : Shown P K V) (b : Book R V)
    → after_all Q R C places now (xs ++ x ∷ []) b ≡ book_after Q R C places now x (after_all Q R C places now xs b)
after-more {R = R} Q C places now [] x b = refl
after-more {R = R} Q C places now (y ∷ xs) x b = after-more Q C places now xs x (book_after Q R C places now y b)

told-more : {P K V : Type 0} {R : K → K → Ordering} (Q : P → P → Ordering) (C : V → V → Ordering) (places : K → (P × P) × (P × P)) (now : ℕ)
    (xs : List (Shown P K V)) (x : Shown P K V) (b : Book R V)
    → told_all Q R C places now (xs ++ x ∷ []) b ≡ told_all Q R C places now xs b ++ told_by Q R C places now x (after_all Q R C places now xs b)
told-more {R = R} Q C places now [] x b = append-nil (told_by Q R C places now x b)
told-more {R = R} Q C places now (y ∷ xs) x b =
    ap (λ l. told_by Q R C places now y b ++ l) (told-more Q C places now xs x (book_after Q R C places now y b))
    ∙ sym (append_assoc (told_by Q R C places now y b) (told_all Q R C places now xs (book_after Q R C places now y b)) (told_by Q R C places now x (after_all Q R C places now xs (book_after Q R C places now y b))))

lasting-more : {P K V : Type 0} (xs : List (Shown P K V)) (x : Shown P K V) → AreLasting xs → IsLasting x → AreLasting (xs ++ x ∷ [])
lasting-more [] x all one = (one, tt)
lasting-more (y ∷ xs) x all one = (all.0, lasting-more xs x all.1 one)

-- ---- what an entry shows is lasting

lasts_as : {P K V : Type 0} (x y : Shown P K V) → Some x ≡ Some y → IsLasting x → IsLasting y
lasts_as {P} {K} {V} x y is lasts = let same : x ≡ y = cc in subst (λ (z : Shown P K V). IsLasting z) same lasts

nonzero : (n : ℕ) → (n == 0) ≡ false → 0 < n
nonzero zero is = absurd (cc)
nonzero (suc n) is = omega arith

offer_kind_lasts : (kind : ServiceKind) (origin : Origin) (entry : ServiceEntry) (endpoint : Option SocketAddrV4) (x : OfferShown) → offer_by_kind kind origin entry endpoint ≡ Some x → IsLasting x
offer_kind_lasts service.Find origin entry endpoint x is = absurd (cc)
offer_kind_lasts service.Offer origin entry endpoint x is = pick (entry.ttl == 0) refl is
  where
    begins : (e : Option SocketAddrV4) → (entry.ttl == 0) ≡ false → offer_begins origin entry e ≡ Some x → IsLasting x
    begins None more is = absurd (cc)
    begins (Some e) more is = lasts_as _ x is (nonzero entry.ttl more)

    pick : (b : Bool) → (entry.ttl == 0) ≡ b → cond b (Some (KeyEnds (offered_key origin entry) why.Stopped)) (offer_begins origin entry endpoint) ≡ Some x → IsLasting x
    pick true none is = lasts_as _ x is tt
    pick false more is = begins endpoint more is

offer_head_lasts : (origin : Origin) (head : EntryHead) (endpoint : Option SocketAddrV4) (x : OfferShown) → offer_by origin head endpoint ≡ Some x → IsLasting x
offer_head_lasts origin (Service entry) endpoint x is = offer_kind_lasts entry.kind origin entry endpoint x is
offer_head_lasts origin (Eventgroup entry) endpoint x is = absurd (cc)

offer_lasts : (origin : Origin) (entry : ReadValue) (x : OfferShown) → offer_shown origin entry ≡ Some x → IsLasting x
offer_lasts origin (good entry) x is = offer_head_lasts origin entry.head (first_udp_endpoint (options_of entry)) x is
offer_lasts origin (bad_run head) x is = offer_head_lasts origin head None x is

withdrawn_lasts : (kind : ServiceKind) (origin : Origin) (entry : ServiceEntry) (x : SubscriptionShown) → withdrawn_by_kind kind origin entry ≡ Some x → IsLasting x
withdrawn_lasts service.Find origin entry x is = absurd (cc)
withdrawn_lasts service.Offer origin entry x is = pick (entry.ttl == 0) is
  where
    pick : (b : Bool) → cond b (Some (withdrawn origin entry)) None ≡ Some x → IsLasting x
    pick true is = lasts_as _ x is tt
    pick false is = absurd (cc)

answers_last : (origin : Origin) (entry : EventgroupEntry) (b : Bool) → (entry.ttl == 0) ≡ b
    → IsLasting {P = Place} {K = Subscribed} {V = NoTerms} (cond b (PlaceEnds (answered origin entry) why.Refused) (PlaceGoesOn (answered origin entry) entry.ttl))
answers_last origin entry true none = tt
answers_last origin entry false more = nonzero entry.ttl more

group_lasts : (kind : EventgroupKind) (origin : Origin) (entry : EventgroupEntry) (endpoint : Option SocketAddrV4) (x : SubscriptionShown) → group_by_kind kind origin entry endpoint ≡ Some x → IsLasting x
group_lasts Subscribe origin entry endpoint x is = by endpoint is
  where
    by : (e : Option SocketAddrV4) → asks origin entry e ≡ Some x → IsLasting x
    by None is = absurd (cc)
    by (Some e) is = pick (entry.ttl == 0) refl is
      where
        pick : (b : Bool) → (entry.ttl == 0) ≡ b
            → cond b (Some (KeyEnds (subscribed_key origin entry e) why.Stopped)) (Some (KeyBegins (subscribed_key origin entry e) (record {}) entry.ttl)) ≡ Some x → IsLasting x
        pick true none is = lasts_as _ x is tt
        pick false more is = lasts_as _ x is (nonzero entry.ttl more)
group_lasts Ack origin entry endpoint x is = lasts_as (answers origin entry) x is (answers_last origin entry (entry.ttl == 0) refl)

subscription_head_lasts : (origin : Origin) (head : EntryHead) (endpoint : Option SocketAddrV4) (x : SubscriptionShown) → subscription_by origin head endpoint ≡ Some x → IsLasting x
subscription_head_lasts origin (Service entry) endpoint x is = withdrawn_lasts entry.kind origin entry x is
subscription_head_lasts origin (Eventgroup entry) endpoint x is = group_lasts entry.kind origin entry endpoint x is

subscription_lasts : (origin : Origin) (entry : ReadValue) (x : SubscriptionShown) → subscription_shown origin entry ≡ Some x → IsLasting x
subscription_lasts origin (good entry) x is = subscription_head_lasts origin entry.head (first_udp_endpoint (options_of entry)) x is
subscription_lasts origin (bad_run head) x is = subscription_head_lasts origin head None x is

-- ---- what is known follows what is shown

-- since this was known at a moment, what is shown became known
pub record Agrees (now : ℕ) (from w : Work) (s : Shows) : Type 0 where
  pub sessions : w.known.sessions ≡ s.sessions
  pub offers : w.known.offers ≡ after_all address_cmp offered_cmp terms_cmp places_of_offered now s.offers from.known.offers
  pub offers_told : offers_in w.told ≡ offers_in from.told ++ told_all address_cmp offered_cmp terms_cmp places_of_offered now s.offers from.known.offers
  pub offers_last : AreLasting s.offers
  pub asks : w.known.subscriptions ≡ after_all place_cmp subscribed_cmp no_terms_cmp places_of_subscribed now s.subscriptions from.known.subscriptions
  pub asks_told : subscriptions_in w.told ≡ subscriptions_in from.told ++ told_all place_cmp subscribed_cmp no_terms_cmp places_of_subscribed now s.subscriptions from.known.subscriptions
  pub asks_last : AreLasting s.subscriptions

module _ (now : ℕ) (from : Work) where
  offers_step : (x : OfferShown) (w : Work) (s : Shows) → Agrees now from w s → IsLasting x
      → Agrees now from (offers_changed now x w) (record { sessions = s.sessions; offers = s.offers ++ x ∷ []; subscriptions = s.subscriptions })
  offers_step x w s a lasts =
      let e : List (Ended Offered OfferTerms) = told_by address_cmp offered_cmp terms_cmp places_of_offered now x w.known.offers in
      let filled = full_told full.Offers (full_by address_cmp offered_cmp terms_cmp places_of_offered x w.known.offers) in
      let is : Bool = full_by address_cmp offered_cmp terms_cmp places_of_offered x w.known.offers in record {
        sessions = a.sessions;
        offers = ap (book_after address_cmp offered_cmp terms_cmp places_of_offered now x) a.offers ∙ sym (after-more address_cmp terms_cmp places_of_offered now s.offers x from.known.offers);
        offers_told = offers_none (w.told ++ map Offer e) filled (offers_in-full full.Offers is) ∙ offers_more w.told (map Offer e) e (offers_in-offers e)
            ∙ ap (λ l. l ++ e) a.offers_told ∙ append_assoc (offers_in from.told) (told_all address_cmp offered_cmp terms_cmp places_of_offered now s.offers from.known.offers) e
            ∙ ap (λ l. offers_in from.told ++ l)
            (ap (λ b. told_all address_cmp offered_cmp terms_cmp places_of_offered now s.offers from.known.offers ++ told_by address_cmp offered_cmp terms_cmp places_of_offered now x b) a.offers
            ∙ sym (told-more address_cmp terms_cmp places_of_offered now s.offers x from.known.offers));
        offers_last = lasting-more s.offers x a.offers_last lasts;
        asks = a.asks;
        asks_told = subscriptions_none (w.told ++ map Offer e) filled (subscriptions_in-full full.Offers is) ∙ subscriptions_none w.told (map Offer e) (subscriptions_in-offers e) ∙ a.asks_told;
        asks_last = a.asks_last;
      }

  asks_step : (x : SubscriptionShown) (w : Work) (s : Shows) → Agrees now from w s → IsLasting x
      → Agrees now from (subscriptions_changed now x w) (record { sessions = s.sessions; offers = s.offers; subscriptions = s.subscriptions ++ x ∷ [] })
  asks_step x w s a lasts =
      let e : List (Ended Subscribed NoTerms) = told_by place_cmp subscribed_cmp no_terms_cmp places_of_subscribed now x w.known.subscriptions in
      let filled = full_told full.Subscriptions (full_by place_cmp subscribed_cmp no_terms_cmp places_of_subscribed x w.known.subscriptions) in
      let is : Bool = full_by place_cmp subscribed_cmp no_terms_cmp places_of_subscribed x w.known.subscriptions in record {
        sessions = a.sessions;
        offers = a.offers;
        offers_told = offers_none (w.told ++ map Subscription e) filled (offers_in-full full.Subscriptions is) ∙ offers_none w.told (map Subscription e) (offers_in-subscriptions e) ∙ a.offers_told;
        offers_last = a.offers_last;
        asks = ap (book_after place_cmp subscribed_cmp no_terms_cmp places_of_subscribed now x) a.asks ∙ sym (after-more place_cmp no_terms_cmp places_of_subscribed now s.subscriptions x from.known.subscriptions);
        asks_told = subscriptions_none (w.told ++ map Subscription e) filled (subscriptions_in-full full.Subscriptions is) ∙ subscriptions_more w.told (map Subscription e) e (subscriptions_in-subscriptions e)
            ∙ ap (λ l. l ++ e) a.asks_told ∙ append_assoc (subscriptions_in from.told) (told_all place_cmp subscribed_cmp no_terms_cmp places_of_subscribed now s.subscriptions from.known.subscriptions) e
            ∙ ap (λ l. subscriptions_in from.told ++ l)
            (ap (λ b. told_all place_cmp subscribed_cmp no_terms_cmp places_of_subscribed now s.subscriptions from.known.subscriptions ++ told_by place_cmp subscribed_cmp no_terms_cmp places_of_subscribed now x b) a.asks
            ∙ sym (told-more place_cmp no_terms_cmp places_of_subscribed now s.subscriptions x from.known.subscriptions));
        asks_last = lasting-more s.subscriptions x a.asks_last lasts;
      }

  offers_by : (x : Option OfferShown) (w : Work) (s : Shows) → Agrees now from w s → ((y : OfferShown) → x ≡ Some y → IsLasting y)
      → Agrees now from (offers_changed_by now x w) (record { sessions = s.sessions; offers = s.offers ++ option_to_list x; subscriptions = s.subscriptions })
  offers_by None w s a lasts = subst (λ (l : List OfferShown). Agrees now from w (record { sessions = s.sessions; offers = l; subscriptions = s.subscriptions })) (sym (append-nil s.offers)) a
  offers_by (Some x) w s a lasts = offers_step x w s a (lasts x refl)

  asks_by : (x : Option SubscriptionShown) (w : Work) (s : Shows) → Agrees now from w s → ((y : SubscriptionShown) → x ≡ Some y → IsLasting y)
      → Agrees now from (subscriptions_changed_by now x w) (record { sessions = s.sessions; offers = s.offers; subscriptions = s.subscriptions ++ option_to_list x })
  asks_by None w s a lasts = subst (λ (l : List SubscriptionShown). Agrees now from w (record { sessions = s.sessions; offers = s.offers; subscriptions = l })) (sym (append-nil s.subscriptions)) a
  asks_by (Some x) w s a lasts = asks_step x w s a (lasts x refl)

  module _ (origin : Origin) where
    entry_agrees : (entry : ReadValue) (w : Work) (s : Shows) → Agrees now from w s → Agrees now from (entry_taken now origin entry w) (entry_shows origin entry s)
    entry_agrees entry w s a =
        asks_by (subscription_shown origin entry) (offers_changed_by now (offer_shown origin entry) w) (record { sessions = s.sessions; offers = s.offers ++ option_to_list (offer_shown origin entry); subscriptions = s.subscriptions })
        (offers_by (offer_shown origin entry) w s a (λ y is. offer_lasts origin entry y is)) (λ y is. subscription_lasts origin entry y is)

    entries_agree : (entries : List ReadValue) (w : Work) (s : Shows) → Agrees now from w s → Agrees now from (entries_taken now origin entries w) (entries_show origin entries s)
    entries_agree [] w s a = a
    entries_agree (entry ∷ entries) w s a = entries_agree entries (entry_taken now origin entry w) (entry_shows origin entry s) (entry_agrees entry w s a)

  finding_agrees : (sender : Ipv4Addr) (f : Option Finding) (w : Work) (s : Shows) → Agrees now from w s → Agrees now from (session_shown now sender f w) (finding_shows sender f s)
  finding_agrees sender None w s a = a
  finding_agrees sender (Some sessions.Reboot) w s a =
      asks_step (PlaceEnds (all_of sender) why.Reboot) (offers_changed now (PlaceEnds sender why.Reboot) w) (record { sessions = s.sessions; offers = s.offers ++ PlaceEnds sender why.Reboot ∷ []; subscriptions = s.subscriptions })
      (offers_step (PlaceEnds sender why.Reboot) w s a tt) tt
  finding_agrees sender (Some (sessions.NotNext stamp expected)) w s a = a
  finding_agrees sender (Some (sessions.Overtaken stamp)) w s a = a
  finding_agrees sender (Some sessions.Full) w s a = record {
    sessions = a.sessions;
    offers = a.offers;
    offers_told = offers_none w.told (full_told full.Sessions true) refl ∙ a.offers_told;
    offers_last = a.offers_last;
    asks = a.asks;
    asks_told = subscriptions_none w.told (full_told full.Sessions true) refl ∙ a.asks_told;
    asks_last = a.asks_last;
  }

  session_agrees : (message : SdMessage) (w : Work) (s : Shows) → Agrees now from w s → Agrees now from (session_taken now message w) (session_shows message s)
  session_agrees message w s a =
      let w1 : Work = record { known = record { sessions = sessions_after message w.known.sessions; offers = w.known.offers; subscriptions = w.known.subscriptions }; told = w.told } in
      let s1 : Shows = record { sessions = sessions_after message s.sessions; offers = s.offers; subscriptions = s.subscriptions } in
      let a1 : Agrees now from w1 s1 = record { sessions = ap (sessions_after message) a.sessions; offers = a.offers; offers_told = a.offers_told; offers_last = a.offers_last; asks = a.asks; asks_told = a.asks_told; asks_last = a.asks_last } in
      subst (λ (f : Option Finding). Agrees now from (session_shown now message.from f w1) (finding_shows message.from (told_by_session message s.sessions) s1)) (sym (ap (told_by_session message) a.sessions))
      (finding_agrees message.from (told_by_session message s.sessions) w1 s1 a1)

  module _ (origin : Origin) where
    payload_agrees : (session : ℕ) (read : Result SdValue SdError) (w : Work) (s : Shows) → Agrees now from w s → Agrees now from (payload_taken now origin session read w) (payload_shows now origin session read s)
    payload_agrees session (Ok sd) w s a =
        entries_agree origin sd.entries (session_taken now (sd_message now origin session sd.flags) w) (session_shows (sd_message now origin session sd.flags) s) (session_agrees (sd_message now origin session sd.flags) w s a)
    payload_agrees session (Err fault) w s a = a

    item_agrees : (item : Result MessageValue WireError) (w : Work) (s : Shows) → Agrees now from w s → Agrees now from (item_taken now origin item w) (item_shows now origin item s)
    item_agrees (Ok message) w s a = pick (is_sd origin message.header)
      where
        pick : (b : Bool) → Agrees now from (cond b (payload_taken now origin message.header.session (reading message.payload) w) w) (cond b (payload_shows now origin message.header.session (reading message.payload) s) s)
        pick true = payload_agrees message.header.session (reading message.payload) w s a
        pick false = a
    item_agrees (Err fault) w s a = a

    items_agree : (items : List (Result MessageValue WireError)) (w : Work) (s : Shows) → Agrees now from w s → Agrees now from (items_taken now origin items w) (items_show now origin items s)
    items_agree [] w s a = a
    items_agree (item ∷ items) w s a = items_agree items (item_taken now origin item w) (item_shows now origin item s) (item_agrees item w s a)

-- ---- the history

-- what was told of datagrams, and is known then, is what the histories of offers and of subscriptions say
pub record Follows (limit overtake : ℕ) (seens : List Seen) (told : List Told) (known : Known) : Type 0 where
  pub sessions : known.sessions ≡ sessions_of limit overtake seens
  pub offers : Tells address_cmp offered_cmp terms_cmp places_of_offered limit (offers_of limit overtake seens) (offers_in told) known.offers
  pub asks : Tells place_cmp subscribed_cmp no_terms_cmp places_of_subscribed limit (subscriptions_of limit overtake seens) (subscriptions_in told) known.subscriptions

follows_more : (limit overtake : ℕ) (seen : Seen) (earlier : List Seen) (before own told : List Told) (was known : Known) → Follows limit overtake earlier before was → Takes seen was own known → told ≡ before ++ own
    → Follows limit overtake (seen ∷ earlier) told known
follows_more limit overtake seen earlier before own told was known so_far takes is = record {
  sessions = ap (λ (w : Work). w.known.sessions) takes.takes ∙ agreed.sessions ∙ ap (λ (n : Sessions). (shown_by seen n).sessions) same;
  offers = subst (λ (n : Sessions). Tells address_cmp offered_cmp terms_cmp places_of_offered limit (events_at seen.now (Nothing ∷ (shown_by seen n).offers) (offers_of limit overtake earlier)) (offers_in told) known.offers) same
      (subst (λ (b : OfferBook). Tells address_cmp offered_cmp terms_cmp places_of_offered limit (events_at seen.now (Nothing ∷ shows.offers) (offers_of limit overtake earlier)) (offers_in told) b) (sym (ap (λ (w : Work). w.known.offers) takes.takes ∙ agreed.offers))
      (subst (λ (t : List (Ended Offered OfferTerms)). Tells address_cmp offered_cmp terms_cmp places_of_offered limit (events_at seen.now (Nothing ∷ shows.offers) (offers_of limit overtake earlier)) t (after_all address_cmp offered_cmp terms_cmp places_of_offered seen.now shows.offers between.known.offers))
      (sym (ap offers_in is ∙ offers_in-append before own ∙ ap (λ l. offers_in before ++ l) (ap (λ (w : Work). offers_in w.told) takes.takes ∙ agreed.offers_told ∙ ap (λ l. l ++ told_all address_cmp offered_cmp terms_cmp places_of_offered seen.now shows.offers between.known.offers) p.told)))
      (datagram_told offered.total offered.exact address_cmp terms_cmp places_of_offered limit seen.now p.count shows.offers (offers_of limit overtake earlier) (offers_in before) p.gone was.offers between.known.offers agreed.offers_last p.none p.expires so_far.offers)));
  asks = subst (λ (n : Sessions). Tells place_cmp subscribed_cmp no_terms_cmp places_of_subscribed limit (events_at seen.now (Nothing ∷ (shown_by seen n).subscriptions) (subscriptions_of limit overtake earlier)) (subscriptions_in told) known.subscriptions) same
      (subst (λ (b : SubscriptionBook). Tells place_cmp subscribed_cmp no_terms_cmp places_of_subscribed limit (events_at seen.now (Nothing ∷ shows.subscriptions) (subscriptions_of limit overtake earlier)) (subscriptions_in told) b) (sym (ap (λ (w : Work). w.known.subscriptions) takes.takes ∙ agreed.asks))
      (subst (λ (t : List (Ended Subscribed NoTerms)). Tells place_cmp subscribed_cmp no_terms_cmp places_of_subscribed limit (events_at seen.now (Nothing ∷ shows.subscriptions) (subscriptions_of limit overtake earlier)) t (after_all place_cmp subscribed_cmp no_terms_cmp places_of_subscribed seen.now shows.subscriptions between.known.subscriptions))
      (sym (ap subscriptions_in is ∙ subscriptions_in-append before own ∙ ap (λ l. subscriptions_in before ++ l) (ap (λ (w : Work). subscriptions_in w.told) takes.takes ∙ agreed.asks_told ∙ ap (λ l. l ++ told_all place_cmp subscribed_cmp no_terms_cmp places_of_subscribed seen.now shows.subscriptions between.known.subscriptions) q.told)))
      (datagram_told subscribed.total subscribed.exact place_cmp no_terms_cmp places_of_subscribed limit seen.now q.count shows.subscriptions (subscriptions_of limit overtake earlier) (subscriptions_in before) q.gone was.subscriptions between.known.subscriptions agreed.asks_last q.none q.expires so_far.asks)));
}
  where
    between : Work
    between = takes.between

    first : Work
    first = record { known = was; told = [] }

    p : PassesOffers seen.now first between
    p = offers_pass seen.now takes.passes.moments first between takes.passes.expires

    q : PassesSubscriptions seen.now first between
    q = subscriptions_pass seen.now takes.passes.moments first between takes.passes.expires

    same : between.known.sessions ≡ sessions_of limit overtake earlier
    same = p.sessions ∙ so_far.sessions

    start : Shows
    start = record { sessions = between.known.sessions; offers = []; subscriptions = [] }

    shows : Shows
    shows = shown_by seen between.known.sessions

    agreed : Agrees seen.now between (items_taken seen.now seen.origin (items_of seen.bytes) between) shows
    agreed = items_agree seen.now between seen.origin (items_of seen.bytes) between start (record {
      sessions = refl;
      offers = refl;
      offers_told = sym (append-nil (offers_in between.told));
      offers_last = tt;
      asks = refl;
      asks_told = sym (append-nil (subscriptions_in between.told));
      asks_last = tt;
    })

tells_follow : (limit overtake : ℕ) (seens : List Seen) (told : List Told) (known : Known) → TellsOf limit overtake seens told known → Follows limit overtake seens told known
tells_follow limit overtake [] told known (none, is) = record {
  sessions = ap (λ (k : Known). k.sessions) is;
  offers = (ap offers_in none, ap (λ (k : Known). k.offers) is);
  asks = (ap subscriptions_in none, ap (λ (k : Known). k.subscriptions) is);
}
tells_follow limit overtake (seen ∷ earlier) told known (before, was, own, rest, takes, is) =
    follows_more limit overtake seen earlier before own told was known (tells_follow limit overtake earlier before was rest) takes is

-- ---- the whole recording

pub offers_law : (limit overtake : ℕ) (seens : List Seen) (last : ℕ) (told : List Told) (known : Known) → TellsAll limit overtake seens last told known → known.offers.told_full ≡ false → (key : Offered)
    → intervals_under offered_cmp key (offers_in told) ≡ intervals_of terms_cmp (timeline address_cmp offered_cmp terms_cmp places_of_offered (offers_of limit overtake seens) key) last
offers_law limit overtake seens last told known (before, at_end, tells, ends, is) full key =
    let line = timeline address_cmp offered_cmp terms_cmp places_of_offered (offers_of limit overtake seens) key in
    let follows = tells_follow limit overtake seens before known tells in
    let lines = a_book_tells_timelines offered.total offered.exact address_cmp terms_cmp places_of_offered limit (offers_of limit overtake seens) (offers_in before) known.offers follows.offers full key in
    let p = offers_pass last ends.passes.moments (record { known = known; told = [] }) ends.between ends.passes.expires in
    let gone = all_gone offered.total offered.exact address_cmp terms_cmp places_of_offered last p.count known.offers ends.between.known.offers p.gone p.expires in
    let opens = all_ended why.Open last ends.between.known.offers.stays in
    let open_is : offers_in (open_told last ends.between.known) ≡ opens =
    offers_in-append (map Offer opens) (map Subscription (all_ended why.Open last ends.between.known.subscriptions.stays))
    ∙ ap (λ l. l ++ offers_in (map Subscription (all_ended why.Open last ends.between.known.subscriptions.stays))) (offers_in-offers opens)
    ∙ ap (λ l. opens ++ l) (offers_in-subscriptions (all_ended why.Open last ends.between.known.subscriptions.stays)) ∙ append-nil opens in
    let at_end_is : offers_in at_end ≡ p.gone ++ opens =
    ap offers_in ends.ends ∙ offers_in-append ends.between.told (open_told last ends.between.known) ∙ ap (λ l. l ++ offers_in (open_told last ends.between.known)) p.told ∙ ap (λ l. p.gone ++ l) open_is in
    let left : get ends.between.known.offers.stays key ≡ unless_passed last (get known.offers.stays key) =
    ap (λ (b : OfferBook). get b.stays key) gone.0 ∙ get-retain offered.total offered.exact known.offers.stays (λ _ lasting. not (has_passed last lasting.until)) key in
    ap (intervals_under offered_cmp key) (ap offers_in is ∙ offers_in-append before at_end ∙ ap (λ l. offers_in before ++ l) at_end_is)
    ∙ under-append offered_cmp key (offers_in before) (p.gone ++ opens) ∙ ap (λ l. intervals_under offered_cmp key (offers_in before) ++ l) (under-append offered_cmp key p.gone opens)
    ∙ ap (λ l. l ++ (intervals_under offered_cmp key p.gone ++ intervals_under offered_cmp key opens)) lines.1
    ∙ ap (λ l. ended_in terms_cmp line ++ (l ++ intervals_under offered_cmp key opens)) (gone.1 key)
    ∙ ap (λ l. ended_in terms_cmp line ++ (expired_by last (get known.offers.stays key) ++ l))
    (under_all offered.total offered.exact why.Open last key ends.between.known.offers.stays ∙ ap (λ v. option_to_list (option_map (interval_of why.Open last) v)) left)
    ∙ ap (λ v. ended_in terms_cmp line ++ ended_later last v) lines.0

pub subscriptions_law : (limit overtake : ℕ) (seens : List Seen) (last : ℕ) (told : List Told) (known : Known) → TellsAll limit overtake seens last told known → known.subscriptions.told_full ≡ false → (key : Subscribed)
    → intervals_under subscribed_cmp key (subscriptions_in told) ≡ intervals_of no_terms_cmp (timeline place_cmp subscribed_cmp no_terms_cmp places_of_subscribed (subscriptions_of limit overtake seens) key) last
subscriptions_law limit overtake seens last told known (before, at_end, tells, ends, is) full key =
    let line = timeline place_cmp subscribed_cmp no_terms_cmp places_of_subscribed (subscriptions_of limit overtake seens) key in
    let follows = tells_follow limit overtake seens before known tells in
    let lines = a_book_tells_timelines subscribed.total subscribed.exact place_cmp no_terms_cmp places_of_subscribed limit (subscriptions_of limit overtake seens) (subscriptions_in before) known.subscriptions follows.asks full key in
    let p = subscriptions_pass last ends.passes.moments (record { known = known; told = [] }) ends.between ends.passes.expires in
    let gone = all_gone subscribed.total subscribed.exact place_cmp no_terms_cmp places_of_subscribed last p.count known.subscriptions ends.between.known.subscriptions p.gone p.expires in
    let opens = all_ended why.Open last ends.between.known.subscriptions.stays in
    let open_is : subscriptions_in (open_told last ends.between.known) ≡ opens =
    subscriptions_in-append (map Offer (all_ended why.Open last ends.between.known.offers.stays)) (map Subscription opens)
    ∙ ap (λ l. l ++ subscriptions_in (map Subscription opens)) (subscriptions_in-offers (all_ended why.Open last ends.between.known.offers.stays)) ∙ subscriptions_in-subscriptions opens in
    let at_end_is : subscriptions_in at_end ≡ p.gone ++ opens =
    ap subscriptions_in ends.ends ∙ subscriptions_in-append ends.between.told (open_told last ends.between.known) ∙ ap (λ l. l ++ subscriptions_in (open_told last ends.between.known)) p.told ∙ ap (λ l. p.gone ++ l) open_is in
    let left : get ends.between.known.subscriptions.stays key ≡ unless_passed last (get known.subscriptions.stays key) =
    ap (λ (b : SubscriptionBook). get b.stays key) gone.0 ∙ get-retain subscribed.total subscribed.exact known.subscriptions.stays (λ _ lasting. not (has_passed last lasting.until)) key in
    ap (intervals_under subscribed_cmp key) (ap subscriptions_in is ∙ subscriptions_in-append before at_end ∙ ap (λ l. subscriptions_in before ++ l) at_end_is)
    ∙ under-append subscribed_cmp key (subscriptions_in before) (p.gone ++ opens) ∙ ap (λ l. intervals_under subscribed_cmp key (subscriptions_in before) ++ l) (under-append subscribed_cmp key p.gone opens)
    ∙ ap (λ l. l ++ (intervals_under subscribed_cmp key p.gone ++ intervals_under subscribed_cmp key opens)) lines.1
    ∙ ap (λ l. ended_in no_terms_cmp line ++ (l ++ intervals_under subscribed_cmp key opens)) (gone.1 key)
    ∙ ap (λ l. ended_in no_terms_cmp line ++ (expired_by last (get known.subscriptions.stays key) ++ l))
    (under_all subscribed.total subscribed.exact why.Open last key ends.between.known.subscriptions.stays ∙ ap (λ v. option_to_list (option_map (interval_of why.Open last) v)) left)
    ∙ ap (λ v. ended_in no_terms_cmp line ++ ended_later last v) lines.0
