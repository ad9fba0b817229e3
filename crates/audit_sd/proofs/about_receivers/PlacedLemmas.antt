-- Subscriptions at their places, as they come and go.
use Rattle.std.proofs.Common.{◌≡◌, ◌≢◌, ◌⊎◌, inl, inr, ℕ, Bool, true, false, cond, not, ◌||◌, List, Option, None, Some, is_some, refl, ap, sym, subst, ◌∙◌}
use Rattle.std.specs.List.{list_any}
use Rattle.std.specs.Ordering.{eq_by_cmp}
use Rattle.std.specs.FinMap.{contains_key-keys, empty, get, get-empty, get-remove, get-retain_keys, insert, keys, remove, retain_keys, same_map}
use Rattle.std.proofs.lemmas.Bool.{and_from, and_parts, eq-eqb, eqb-true}
use Rattle.std.specs.declared.net.ipv4_addr.Ipv4Addr.{Ipv4Addr}
use Rattle.someip_tables.specs.declared.lasting.Lasting.{Lasting}
use Rattle.std.specs.declared.net.socket_addr.SocketAddrV4.{SocketAddrV4}
use Rattle.someip_tables.specs.Deadlines.{has_passed}
use Rattle.someip_tables.specs.Endpoints.{address_cmp, endpoint_cmp}
use Rattle.someip_tables.specs.EndpointOrder.{addresses_total, endpoints_total, exact_addresses, exact_endpoints}
use Rattle.someip_tables.specs.Lastings.{expired, unexpired, unless_passed}
use Rattle.someip_tables.specs.Retained.{kept_if}
use Rattle.someip_tables.proofs.Entries.{own_test, same_by_test}
use Rattle.someip_tables.proofs.Expiry.{get-expired, get-unexpired}
use Rattle.someip_tables.proofs.MapLaws.{get-insert_own}
use Rattle.audit_index.specs.Places.{AreAt, AreOnTheWay}
use Rattle.audit_index.specs.Slots.{is_same_slot}
use Rattle.audit_index.proofs.OwnerLemmas.{neither}
use Rattle.audit_index.proofs.PlaceLemmas.{at_insert, at_more, at_others, but_others, but_settled, but_taken, way_end}
use Rattle.audit_sd.specs.declared.subscriptions.key.SubscriptionKey.{SubscriptionKey}
use Rattle.audit_sd.specs.declared.receivers.delivery.Delivery.{Delivery}
use Rattle.audit_sd.specs.declared.receivers.entry.WithdrawnOffer.{WithdrawnOffer}
use Rattle.audit_sd.specs.declared.receivers.event_end.EventEnd.{EventEnd}
use Rattle.audit_sd.specs.subscriptions.SubscriptionKeys.{subscription_cmp}
use Rattle.audit_sd.specs.subscriptions.SubscriptionOrder.{subscriptions_total, exact_subscriptions}
use Rattle.audit_sd.specs.subscriptions.SubscribeRules.{is_of}
use Rattle.audit_sd.specs.receivers.PlaceOrder.{ends, offers}
use Rattle.audit_sd.specs.receivers.ReceiverPlaces.{AreFound, AreFoundButOf, AreFoundButTo, becomes_ended, end_at, end_by, end_of, endpoint_in, is_any, is_by, offer_of, withdrawn_cmp}
use Rattle.audit_sd.specs.receivers.ReceiverRules.{goes_by, is_to}
use Rattle.audit_sd.specs.receivers.ReceiverTables.{Subscriptions, is_subscribed}
use Rattle.audit_sd.proofs.about_receivers.SubscribedLemmas.{by_one, has_one}

none_is_some : (l : Lasting SocketAddrV4) → None ≡ Some l → ⊥
none_is_some l is = cc

one_lasting : (a b : Lasting SocketAddrV4) → Some a ≡ Some b → a ≡ b
one_lasting a b is = cc

abbrev AtEnds : Type 0
AtEnds = EventEnd → SubscriptionKey → Bool

abbrev AtOffers : Type 0
AtOffers = WithdrawnOffer → SubscriptionKey → Bool

abbrev AtOwners : Type 0
AtOwners = Ipv4Addr → SubscriptionKey → Bool

-- ---- none stands

nothing_found : {P : Type 0} (place : SubscriptionKey → Lasting SocketAddrV4 → P) (there : P → SubscriptionKey → Bool) (m : Subscriptions) → m ≡ empty → AreAt place is_any there m
nothing_found place there m is key lasting found any = let none : get m key ≡ None = ap (λ k. get k key) is ∙ get-empty subscription_cmp key in absurd (none_is_some lasting (sym none ∙ found))

pub none_stands : (e : AtEnds) (o : AtOffers) (w : AtOwners) (m : Subscriptions) → m ≡ empty → AreFound e o w m
none_stands e o w m is = record {
  by_end = nothing_found end_by e m is;
  by_offer = nothing_found (λ key _. offer_of key) o m is;
  by_client = nothing_found (λ key _. key.client) w m is;
  by_server = nothing_found (λ key _. key.server) w m is;
}

-- ---- one stands

module _ (e e' e'' : AtEnds) (o o' : AtOffers) (w w' : AtOwners) (m n : Subscriptions) (key : SubscriptionKey) (lasting : Lasting SocketAddrV4) (put : n ≡ insert m key lasting) where
  pub entered : e' (end_by key lasting) key ≡ true → o' (offer_of key) key ≡ true → w' key.client key ≡ true → w' key.server key ≡ true
      → ((end : EventEnd) (other : SubscriptionKey) → e end other ≡ true → e' end other ≡ true) → ((offer : WithdrawnOffer) (other : SubscriptionKey) → o offer other ≡ true → o' offer other ≡ true)
      → ((address : Ipv4Addr) (other : SubscriptionKey) → w address other ≡ true → w' address other ≡ true)
      → ((end : EventEnd) (other : SubscriptionKey) → (other ≡ key → end ≡ end_by key lasting) → e' end other ≡ true → e'' end other ≡ true)
      → AreFound e o w m → AreFound e'' o' w' n
  entered at_end at_offer at_client at_server more_ends more_offers more_owners left found = record {
    by_end = λ other value stands any. left (end_by other value) other (its_end other value stands) (ends_then other value stands any);
    by_offer =
        at_insert offers.total offers.exact subscriptions_total exact_subscriptions (λ k _. offer_of k) is_any o' m n key lasting put at_offer
        (at_more offers.total offers.exact subscriptions_total exact_subscriptions (λ k _. offer_of k) is_any o o' m more_offers found.by_offer);
    by_client =
        at_insert addresses_total exact_addresses subscriptions_total exact_subscriptions (λ k _. k.client) is_any w' m n key lasting put at_client
        (at_more addresses_total exact_addresses subscriptions_total exact_subscriptions (λ k _. k.client) is_any w w' m more_owners found.by_client);
    by_server =
        at_insert addresses_total exact_addresses subscriptions_total exact_subscriptions (λ k _. k.server) is_any w' m n key lasting put at_server
        (at_more addresses_total exact_addresses subscriptions_total exact_subscriptions (λ k _. k.server) is_any w w' m more_owners found.by_server);
  }
    where
      ends_then : AreAt end_by is_any e' n
      ends_then =
          at_insert ends.total ends.exact subscriptions_total exact_subscriptions end_by is_any e' m n key lasting put at_end
          (at_more ends.total ends.exact subscriptions_total exact_subscriptions end_by is_any e e' m more_ends found.by_end)

      its_end : (other : SubscriptionKey) (value : Lasting SocketAddrV4) → get n other ≡ Some value → other ≡ key → end_by other value ≡ end_by key lasting
      its_end other value stands same =
          let is : value ≡ lasting = one_lasting value lasting (sym stands ∙ ap (get n) same ∙ ap (λ k. get k key) put ∙ get-insert_own subscriptions_total exact_subscriptions m key lasting) in
          λ i. end_by (same i) (is i)

-- ---- one ends

module _ (e e' : AtEnds) (o o' : AtOffers) (w w' : AtOwners) (m n : Subscriptions) (one : SubscriptionKey) (gone : n ≡ remove m one)
    (stay_ends : (end : EventEnd) (other : SubscriptionKey) → other ≢ one → e end other ≡ true → e' end other ≡ true)
    (stay_offers : (offer : WithdrawnOffer) (other : SubscriptionKey) → other ≢ one → o offer other ≡ true → o' offer other ≡ true)
    (stay_owners : (address : Ipv4Addr) (other : SubscriptionKey) → other ≢ one → w address other ≡ true → w' address other ≡ true) where
  pub dropped : AreFound e o w m → AreFound e' o' w' n
  dropped found = record {
    by_end = at_others ends.total ends.exact subscriptions_total exact_subscriptions end_by is_any one e e' m n gone stay_ends (λ k v _ stands any. found.by_end k v stands any);
    by_offer = at_others offers.total offers.exact subscriptions_total exact_subscriptions (λ k _. offer_of k) is_any one o o' m n gone stay_offers (λ k v _ stands any. found.by_offer k v stands any);
    by_client = at_others addresses_total exact_addresses subscriptions_total exact_subscriptions (λ k _. k.client) is_any one w w' m n gone stay_owners (λ k v _ stands any. found.by_client k v stands any);
    by_server = at_others addresses_total exact_addresses subscriptions_total exact_subscriptions (λ k _. k.server) is_any one w w' m n gone stay_owners (λ k v _ stands any. found.by_server k v stands any);
  }

  pub dropped_of : (address : Ipv4Addr) → AreFoundButOf address one e o w m → AreFound e' o' w' n
  dropped_of address found = record {
    by_end = at_others ends.total ends.exact subscriptions_total exact_subscriptions end_by is_any one e e' m n gone stay_ends (λ k v _ stands any. found.by_end k v stands any);
    by_offer = at_others offers.total offers.exact subscriptions_total exact_subscriptions (λ k _. offer_of k) is_any one o o' m n gone stay_offers (λ k v _ stands any. found.by_offer k v stands any);
    by_client = at_others addresses_total exact_addresses subscriptions_total exact_subscriptions (λ k _. k.client) is_any one w w' m n gone stay_owners
        (but_others addresses_total exact_addresses subscriptions_total exact_subscriptions (λ k _. k.client) is_any address one w m found.by_client);
    by_server = at_others addresses_total exact_addresses subscriptions_total exact_subscriptions (λ k _. k.server) is_any one w w' m n gone stay_owners
        (but_others addresses_total exact_addresses subscriptions_total exact_subscriptions (λ k _. k.server) is_any address one w m found.by_server);
  }

  pub dropped_to : (offer : WithdrawnOffer) → AreFoundButTo offer one e o w m → AreFound e' o' w' n
  dropped_to offer found = record {
    by_end = at_others ends.total ends.exact subscriptions_total exact_subscriptions end_by is_any one e e' m n gone stay_ends (λ k v _ stands any. found.by_end k v stands any);
    by_offer = at_others offers.total offers.exact subscriptions_total exact_subscriptions (λ k _. offer_of k) is_any one o o' m n gone stay_offers
        (but_others offers.total offers.exact subscriptions_total exact_subscriptions (λ k _. offer_of k) is_any offer one o m found.by_offer);
    by_client = at_others addresses_total exact_addresses subscriptions_total exact_subscriptions (λ k _. k.client) is_any one w w' m n gone stay_owners (λ k v _ stands any. found.by_client k v stands any);
    by_server = at_others addresses_total exact_addresses subscriptions_total exact_subscriptions (λ k _. k.server) is_any one w w' m n gone stay_owners (λ k v _ stands any. found.by_server k v stands any);
  }

-- ---- several end

module _ (ends_now : SubscriptionKey → Bool) where
  pub ended_again : (key : SubscriptionKey) (v : Option (Lasting SocketAddrV4)) → becomes_ended ends_now key (becomes_ended ends_now key v) ≡ becomes_ended ends_now key v
  ended_again key v = cases (ends_now key)
    where
      cases : (b : Bool) → cond b None (cond b None v) ≡ cond b None v
      cases true = refl
      cases false = refl

  pub way_ended : (one : SubscriptionKey) (m n : Subscriptions) → n ≡ remove m one → ends_now one ≡ true → AreOnTheWay (becomes_ended ends_now) m n
  way_ended one m n gone at key = cases (eq_by_cmp subscription_cmp key one) refl (ap (λ k. get k key) gone ∙ get-remove subscriptions_total m one key)
    where
      cases : (b : Bool) → eq_by_cmp subscription_cmp key one ≡ b → get n key ≡ cond b None (get m key) → (get n key ≡ get m key) ⊎ (get n key ≡ becomes_ended ends_now key (get m key))
      cases false tie is = inl is
      cases true tie is =
          let own : ends_now key ≡ true = ap ends_now (same_by_test exact_subscriptions key one tie) ∙ at in
          inr (is ∙ ap (λ b. cond b None (get m key)) (sym own))

  pub all_ended : (m n : Subscriptions) → ((key : SubscriptionKey) (lasting : Lasting SocketAddrV4) → get n key ≡ Some lasting → ends_now key ≡ false)
      → AreOnTheWay (becomes_ended ends_now) m n → n ≡ retain_keys m (λ key. not (ends_now key))
  all_ended m n left way =
      same_map subscriptions_total exact_subscriptions _ _ (λ key.
      way_end (becomes_ended ends_now) m n way (λ k. gone k (get n k) refl) key
      ∙ turned (ends_now key) (get m key)
      ∙ sym (get-retain_keys m (λ k. not (ends_now k)) key (λ x tie. ap (λ k. not (ends_now k)) (sym (exact_subscriptions key x tie)))))
    where
      turned : (b : Bool) (v : Option (Lasting SocketAddrV4)) → cond b None v ≡ cond (not b) v None
      turned true v = refl
      turned false v = refl

      gone : (key : SubscriptionKey) (v : Option (Lasting SocketAddrV4)) → get n key ≡ v → becomes_ended ends_now key v ≡ v
      gone key None found = nothing_more (ends_now key)
        where
          nothing : Option (Lasting SocketAddrV4)
          nothing = None

          nothing_more : (b : Bool) → cond b nothing nothing ≡ nothing
          nothing_more true = refl
          nothing_more false = refl
      gone key (Some lasting) found = ap (λ b. cond b None (Some lasting)) (left key lasting found)

-- ---- those of an address

module _ (address : Ipv4Addr) where
  either : (key : SubscriptionKey) (a b : Bool) → eq_by_cmp address_cmp key.client address ≡ a → eq_by_cmp address_cmp key.server address ≡ b → (a || b) ≡ true
      → (key.client ≡ address) ⊎ (key.server ≡ address)
  either key true b first second is = inl (same_by_test exact_addresses key.client address first)
  either key false true first second is = inr (same_by_test exact_addresses key.server address second)
  either key false false first second is = absurd (cc)

  pub taken_of : (e : AtEnds) (o : AtOffers) (w w' : AtOwners) (m : Subscriptions) (one : SubscriptionKey)
      → ((other : Ipv4Addr) (at : SubscriptionKey) → w' other at ≡ cond (is_same_slot address_cmp subscription_cmp address one other at) false (w other at)) → AreFound e o w m → AreFoundButOf address one e o w' m
  taken_of e o w w' m one set found = record {
    by_end = found.by_end;
    by_offer = found.by_offer;
    by_client = but_taken addresses_total exact_addresses subscriptions_total exact_subscriptions (λ k _. k.client) is_any address one w w' m set found.by_client;
    by_server = but_taken addresses_total exact_addresses subscriptions_total exact_subscriptions (λ k _. k.server) is_any address one w w' m set found.by_server;
  }

  pub not_of : (e : AtEnds) (o : AtOffers) (w : AtOwners) (m : Subscriptions) (one : SubscriptionKey) → is_of address one ≡ false → AreFoundButOf address one e o w m → AreFound e o w m
  not_of e o w m one differs but = record {
    by_end = but.by_end;
    by_offer = but.by_offer;
    by_client = but_settled addresses_total exact_addresses subscriptions_total exact_subscriptions (λ k _. k.client) is_any address one w m m (λ k v found any. (found, client_differs k)) but.by_client;
    by_server = but_settled addresses_total exact_addresses subscriptions_total exact_subscriptions (λ k _. k.server) is_any address one w m m (λ k v found any. (found, server_differs k)) but.by_server;
  }
    where
      client_differs : (k : SubscriptionKey) → k ≡ one → k.client ≡ address → ⊥
      client_differs k is at =
          let same : one.client ≡ address = ap (λ (x : SubscriptionKey). x.client) (sym is) ∙ at in
          let tied : eq_by_cmp address_cmp one.client address ≡ true = ap (λ a. eq_by_cmp address_cmp a address) same ∙ own_test addresses_total address in
          let never : eq_by_cmp address_cmp one.client address ≡ false = (neither (eq_by_cmp address_cmp one.client address) (eq_by_cmp address_cmp one.server address) differs).0 in
          cc

      server_differs : (k : SubscriptionKey) → k ≡ one → k.server ≡ address → ⊥
      server_differs k is at =
          let same : one.server ≡ address = ap (λ (x : SubscriptionKey). x.server) (sym is) ∙ at in
          let tied : eq_by_cmp address_cmp one.server address ≡ true = ap (λ a. eq_by_cmp address_cmp a address) same ∙ own_test addresses_total address in
          let never : eq_by_cmp address_cmp one.server address ≡ false = (neither (eq_by_cmp address_cmp one.client address) (eq_by_cmp address_cmp one.server address) differs).1 in
          cc

  pub none_of : (e : AtEnds) (o : AtOffers) (w : AtOwners) (n : Subscriptions) → AreFound e o w n → ((key : SubscriptionKey) → w address key ≡ false)
      → (key : SubscriptionKey) (lasting : Lasting SocketAddrV4) → get n key ≡ Some lasting → is_of address key ≡ false
  none_of e o w n found none key lasting stands = cases (is_of address key) refl
    where
      nowhere : (place : Ipv4Addr) → place ≡ address → w place key ≡ true → ⊥
      nowhere place is there =
          let here : w address key ≡ true = ap (λ a. w a key) (sym is) ∙ there in
          let not_here : w address key ≡ false = none key in
          cc

      by : (key.client ≡ address) ⊎ (key.server ≡ address) → ⊥
      by (inl client) = nowhere key.client client (found.by_client key lasting stands refl)
      by (inr server) = nowhere key.server server (found.by_server key lasting stands refl)

      cases : (b : Bool) → is_of address key ≡ b → b ≡ false
      cases false is = refl
      cases true is = absurd (by (either key (eq_by_cmp address_cmp key.client address) (eq_by_cmp address_cmp key.server address) refl refl is))

-- ---- those to an offer

module _ (offer : WithdrawnOffer) where
  pub its_offer : (key : SubscriptionKey) → is_to offer key ≡ true → offer_of key ≡ offer
  its_offer key is =
      let server = and_parts _ _ is in
      let service = and_parts _ _ server.1 in
      let rest = and_parts _ _ service.1 in
      let one : key.server ≡ offer.server = same_by_test exact_addresses key.server offer.server server.0 in
      let two : key.service ≡ offer.service = eqb-true key.service offer.service service.0 in
      let three : key.instance ≡ offer.instance = eqb-true key.instance offer.instance rest.0 in
      let four : key.major ≡ offer.major = eqb-true key.major offer.major rest.1 in
      λ i. record { server = one i; service = two i; instance = three i; major = four i }

  to_its_own : (key : SubscriptionKey) → offer_of key ≡ offer → is_to offer key ≡ true
  to_its_own key is =
      ap (λ o. is_to o key) (sym is)
      ∙ and_from _ _ (own_test addresses_total key.server) (and_from _ _ (eq-eqb key.service key.service refl) (and_from _ _ (eq-eqb key.instance key.instance refl) (eq-eqb key.major key.major refl)))

  pub taken_to : (e : AtEnds) (o o' : AtOffers) (w : AtOwners) (m : Subscriptions) (one : SubscriptionKey)
      → ((other : WithdrawnOffer) (at : SubscriptionKey) → o' other at ≡ cond (is_same_slot withdrawn_cmp subscription_cmp offer one other at) false (o other at)) → AreFound e o w m → AreFoundButTo offer one e o' w m
  taken_to e o o' w m one set found = record {
    by_end = found.by_end;
    by_offer = but_taken offers.total offers.exact subscriptions_total exact_subscriptions (λ k _. offer_of k) is_any offer one o o' m set found.by_offer;
    by_client = found.by_client;
    by_server = found.by_server;
  }

  pub not_to : (e : AtEnds) (o : AtOffers) (w : AtOwners) (m : Subscriptions) (one : SubscriptionKey) → is_to offer one ≡ false → AreFoundButTo offer one e o w m → AreFound e o w m
  not_to e o w m one differs but = record {
    by_end = but.by_end;
    by_offer = but_settled offers.total offers.exact subscriptions_total exact_subscriptions (λ k _. offer_of k) is_any offer one o m m (λ k v found any. (found, offer_differs k)) but.by_offer;
    by_client = but.by_client;
    by_server = but.by_server;
  }
    where
      offer_differs : (k : SubscriptionKey) → k ≡ one → offer_of k ≡ offer → ⊥
      offer_differs k is at = let own : is_to offer one ≡ true = to_its_own one (ap offer_of (sym is) ∙ at) in cc

  pub none_to : (e : AtEnds) (o : AtOffers) (w : AtOwners) (n : Subscriptions) → AreFound e o w n → ((key : SubscriptionKey) → o offer key ≡ false)
      → (key : SubscriptionKey) (lasting : Lasting SocketAddrV4) → get n key ≡ Some lasting → is_to offer key ≡ false
  none_to e o w n found none key lasting stands = cases (is_to offer key) refl
    where
      cases : (b : Bool) → is_to offer key ≡ b → b ≡ false
      cases false is = refl
      cases true is =
          let here : o offer key ≡ true = ap (λ x. o x key) (sym (its_offer key is)) ∙ found.by_offer key lasting stands refl in
          let not_here : o offer key ≡ false = none key in
          absurd (cc)

-- ---- those that have expired

module _ (now : ℕ) (m : Subscriptions) where
  still : (key : SubscriptionKey) (lasting : Lasting SocketAddrV4) → get (unexpired now m) key ≡ Some lasting → (get m key ≡ Some lasting) × (list_any (eq_by_cmp subscription_cmp key) (keys (expired now m)) ≡ false)
  still key lasting stands =
      let both = cases (get m key) (sym (get-unexpired subscriptions_total exact_subscriptions now m key) ∙ stands) in
      (both.0, sym (contains_key-keys (expired now m) key) ∙ ap is_some (get-expired subscriptions_total exact_subscriptions now m key) ∙ both.1)
    where
      by : (l : Lasting SocketAddrV4) (b : Bool) → has_passed now l.until ≡ b → cond (not b) (Some l) None ≡ Some lasting
          → (Some l ≡ Some lasting) × (is_some (kept_if (λ x. has_passed now x.until) (Some l)) ≡ false)
      by l true passed is = absurd (none_is_some lasting is)
      by l false passed is = (is, ap (λ b. is_some (cond b (Some l) None)) passed)

      cases : (v : Option (Lasting SocketAddrV4)) → unless_passed now v ≡ Some lasting → (v ≡ Some lasting) × (is_some (kept_if (λ x. has_passed now x.until) v) ≡ false)
      cases None is = absurd (none_is_some lasting is)
      cases (Some l) is = by l (has_passed now l.until) refl is

  pub found_still : (e e' : AtEnds) (o o' : AtOffers) (w w' : AtOwners) (n : Subscriptions) (ended : List SubscriptionKey) → ended ≡ keys (expired now m) → n ≡ unexpired now m
      → ((end : EventEnd) (other : SubscriptionKey) → list_any (eq_by_cmp subscription_cmp other) ended ≡ false → e end other ≡ true → e' end other ≡ true)
      → ((offer : WithdrawnOffer) (other : SubscriptionKey) → list_any (eq_by_cmp subscription_cmp other) ended ≡ false → o offer other ≡ true → o' offer other ≡ true)
      → ((address : Ipv4Addr) (other : SubscriptionKey) → list_any (eq_by_cmp subscription_cmp other) ended ≡ false → w address other ≡ true → w' address other ≡ true)
      → AreFound e o w m → AreFound e' o' w' n
  found_still e e' o o' w w' n ended are left stay_ends stay_offers stay_owners found = record {
    by_end = λ key lasting stands any. let is = here key lasting stands in stay_ends (end_by key lasting) key is.1 (found.by_end key lasting is.0 any);
    by_offer = λ key lasting stands any. let is = here key lasting stands in stay_offers (offer_of key) key is.1 (found.by_offer key lasting is.0 any);
    by_client = λ key lasting stands any. let is = here key lasting stands in stay_owners key.client key is.1 (found.by_client key lasting is.0 any);
    by_server = λ key lasting stands any. let is = here key lasting stands in stay_owners key.server key is.1 (found.by_server key lasting is.0 any);
  }
    where
      here : (key : SubscriptionKey) (lasting : Lasting SocketAddrV4) → get n key ≡ Some lasting → (get m key ≡ Some lasting) × (list_any (eq_by_cmp subscription_cmp key) ended ≡ false)
      here key lasting stands =
          let is = still key lasting (ap (λ k. get k key) (sym left) ∙ stands) in
          (is.0, ap (list_any (eq_by_cmp subscription_cmp key)) are ∙ is.1)

-- what is not among some is not the first of them, nor among the others
pub not_listed : (other key : SubscriptionKey) (rest : List SubscriptionKey) → (eq_by_cmp subscription_cmp other key || list_any (eq_by_cmp subscription_cmp other) rest) ≡ false
    → (other ≢ key) × (list_any (eq_by_cmp subscription_cmp other) rest ≡ false)
not_listed other key rest is =
    let parts = neither (eq_by_cmp subscription_cmp other key) (list_any (eq_by_cmp subscription_cmp other) rest) is in
    (λ same. let tied : eq_by_cmp subscription_cmp other key ≡ true = ap (eq_by_cmp subscription_cmp other) (sym same) ∙ own_test subscriptions_total other in let apart : eq_by_cmp subscription_cmp other key ≡ false = parts.0 in cc, parts.1)

-- ---- who is subscribed

module _ (delivery : Delivery) (m : Subscriptions) where
  pub found_by : (key : SubscriptionKey) → is_by delivery key (get m key) ≡ true → true ≡ is_subscribed delivery m
  found_by key is = cases (get m key) refl is
    where
      cases : (v : Option (Lasting SocketAddrV4)) → get m key ≡ v → is_by delivery key v ≡ true → true ≡ is_subscribed delivery m
      cases None stands passes = absurd (cc)
      cases (Some lasting) stands passes = sym (by_one delivery m key lasting stands passes)

  goes_there : (key : SubscriptionKey) (lasting : Lasting SocketAddrV4) → end_by key lasting ≡ end_of delivery → goes_by delivery key lasting.value ≡ true
  goes_there key lasting is =
      let server : key.server ≡ delivery.server = ap (λ (e : EventEnd). e.server) is in
      let service : key.service ≡ delivery.service = ap (λ (e : EventEnd). e.service) is in
      let endpoint : lasting.value ≡ delivery.endpoint = ap (λ (e : EventEnd). e.endpoint) is in
      and_from _ _ (ap (λ a. eq_by_cmp address_cmp a delivery.server) server ∙ own_test addresses_total delivery.server)
      (and_from _ _ (eq-eqb key.service delivery.service service) (ap (λ a. eq_by_cmp endpoint_cmp a delivery.endpoint) endpoint ∙ own_test endpoints_total delivery.endpoint))

  -- a subscription by which it does not go is elsewhere
  pub elsewhere : (key : SubscriptionKey) → is_by delivery key (get m key) ≡ false → (lasting : Lasting SocketAddrV4) → get m key ≡ Some lasting → is_any key lasting ≡ true → end_by key lasting ≡ end_of delivery → ⊥
  elsewhere key fails lasting stands any at =
      let passes : is_by delivery key (get m key) ≡ true = ap (is_by delivery key) stands ∙ goes_there key lasting at in
      cc

  -- where none is at its end, it is not subscribed
  pub none_there : (e : AtEnds) → AreAt end_by is_any e m → ((key : SubscriptionKey) → e (end_of delivery) key ≡ false) → false ≡ is_subscribed delivery m
  none_there e found none = cases (is_subscribed delivery m) refl
    where
      its_end : (key : SubscriptionKey) (lasting : Lasting SocketAddrV4) → goes_by delivery key lasting.value ≡ true → end_by key lasting ≡ end_of delivery
      its_end key lasting passes =
          let server = and_parts _ _ passes in
          let rest = and_parts _ _ server.1 in
          let one : key.server ≡ delivery.server = same_by_test exact_addresses key.server delivery.server server.0 in
          let two : key.service ≡ delivery.service = eqb-true key.service delivery.service rest.0 in
          let three : lasting.value ≡ delivery.endpoint = same_by_test exact_endpoints lasting.value delivery.endpoint rest.1 in
          λ i. record { server = one i; service = two i; endpoint = three i }

      cases : (b : Bool) → is_subscribed delivery m ≡ b → false ≡ b
      cases false is = refl
      cases true is =
          let one = has_one delivery m is in
          let here : e (end_of delivery) one.0 ≡ true = ap (λ x. e x one.0) (sym (its_end one.0 one.1 one.3)) ∙ found one.0 one.1 one.2 refl in
          let not_here : e (end_of delivery) one.0 ≡ false = none one.0 in
          absurd (cc)

-- ---- one goes on with its endpoint

no_end : (end : SocketAddrV4) (before : Option SocketAddrV4) → before ≡ None → before ≡ Some end → ⊥
no_end end before none some = cc

one_end : (a b : SocketAddrV4) → Some a ≡ Some b → a ≡ b
one_end a b is = cc

-- it stays at its places
pub goes_on : (e : AtEnds) (o : AtOffers) (w : AtOwners) (m n : Subscriptions) (one : SubscriptionKey) (lasting : Lasting SocketAddrV4) → n ≡ insert m one lasting
    → endpoint_in (get m one) ≡ Some lasting.value → AreFound e o w m → AreFound e o w n
goes_on e o w m n one lasting is same found = cases (get m one) refl same
  where
    cases : (before : Option (Lasting SocketAddrV4)) → get m one ≡ before → endpoint_in before ≡ Some lasting.value → AreFound e o w n
    cases None had goes = absurd (no_end lasting.value (endpoint_in None) refl goes)
    cases (Some earlier) had goes =
        let value : earlier.value ≡ lasting.value = one_end earlier.value lasting.value goes in
        entered e e e o o w w m n one lasting is
        (let P : SocketAddrV4 → Type 0 = λ end. e (end_at one end) one ≡ true in subst P value (found.by_end one earlier had refl)) (found.by_offer one earlier had refl)
        (found.by_client one earlier had refl) (found.by_server one earlier had refl) (λ _ _ h. h) (λ _ _ h. h) (λ _ _ h. h) (λ _ _ _ h. h) found
