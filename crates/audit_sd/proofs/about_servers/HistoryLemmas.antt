-- What a book knows of the events so far.
use Rattle.std.proofs.Common.{◌≡◌, ℕ, Bool, true, false, cond, if◌then◌else◌, not, List, [], ◌∷◌, Option, None, Some, option_map, refl, ap, ◌∙◌}
use Rattle.std.specs.Ordering.{eq_by_cmp}
use Rattle.std.specs.FinMap as finite
use Rattle.someip_tables.proofs.Entries.{get-retain, same_by_test}
use Rattle.someip_tables.specs.hashed.Rooms.{may_hold}
use Rattle.audit_sd.specs.declared.servers.key.ServerKey.{ServerKey}
use Rattle.audit_sd.specs.declared.servers.message.ServerMessage.{ServerMessage}
use Rattle.audit_sd.specs.declared.servers.offer.ServerOffer.{ServerOffer}
use Rattle.audit_sd.specs.declared.servers.server.Server.{Server}
use Rattle.audit_sd.specs.servers.ServerKeys.{server_cmp}
use Rattle.audit_sd.specs.servers.ServerOrder.{servers_total, exact_servers}
use Rattle.audit_sd.specs.servers.ServerRules.{ended, is_not_offered, is_of, is_same_served, offered_at, was_told}
use Rattle.audit_sd.specs.servers.ServerTables.{ServerTable, Servers, after_offer, changed_if, judged_of, tells_full, told_by}
use Rattle.audit_sd.specs.servers.ServerHistories.{BeganAgain, Event, MessageCame, OfferCame, OfferEnded, Shown, book_after, book_of, changed_by, server_in, shown_by}

-- ---- one event

-- a server that passes a test changes, and no other does
get-changed : (test : Server → Bool) (change : Server → Server) (key : ServerKey) (servers : Servers) (q : ServerKey)
    → finite.get (changed_if test change key (finite.get servers key) servers) q
    ≡ cond (eq_by_cmp server_cmp q key) (option_map (λ server. if test server then change server else server) (finite.get servers q)) (finite.get servers q)
get-changed test change key servers q = by (finite.get servers key) refl (eq_by_cmp server_cmp q key) refl
  where
    there : (v : Option Server) → finite.get servers key ≡ v → eq_by_cmp server_cmp q key ≡ true → finite.get servers q ≡ v
    there v has tie = ap (finite.get servers) (same_by_test exact_servers q key tie) ∙ has

    cases : (server : Server) (b t : Bool) → finite.get servers key ≡ Some server → test server ≡ b → eq_by_cmp server_cmp q key ≡ t
        → finite.get (cond b (finite.insert servers key (change server)) servers) q
        ≡ cond t (option_map (λ server. if test server then change server else server) (finite.get servers q)) (finite.get servers q)
    cases server true true has passes tie =
        finite.get-insert servers_total servers key (change server) q
        ∙ rw (tie, there (Some server) has tie, passes) refl
    cases server true false has passes tie = finite.get-insert servers_total servers key (change server) q ∙ rw tie refl
    cases server false true has passes tie = rw (there (Some server) has tie, passes) refl
    cases server false false has passes tie = refl

    by : (v : Option Server) → finite.get servers key ≡ v → (t : Bool) → eq_by_cmp server_cmp q key ≡ t
        → finite.get (changed_if test change key v servers) q ≡ cond t (option_map (λ server. if test server then change server else server) (finite.get servers q)) (finite.get servers q)
    by None has true tie = rw (there None has tie) refl
    by None has false tie = refl
    by (Some server) has t tie = cases server (test server) t has refl tie

get-offered : (now : ℕ) (offer : ServerOffer) (book : ServerTable) (key : ServerKey) → (after_offer now offer book).told_full ≡ false
    → finite.get (after_offer now offer book).known key ≡ cond (eq_by_cmp server_cmp key offer.server) (Some (offered_at now offer)) (finite.get book.known key)
get-offered now offer book key fits = cases (may_hold book.limit book.known offer.server) fits
  where
    cases : (b : Bool) → (if b then record book { known = finite.insert book.known offer.server (offered_at now offer) } else record book { told_full = true }).told_full ≡ false
        → finite.get (if b then record book { known = finite.insert book.known offer.server (offered_at now offer) } else record book { told_full = true }).known key
        ≡ cond (eq_by_cmp server_cmp key offer.server) (Some (offered_at now offer)) (finite.get book.known key)
    cases true still = finite.get-insert servers_total book.known offer.server (offered_at now offer) key
    cases false still = absurd (cc)

get-shown : (now : ℕ) (shown : Shown) (book : ServerTable) (key : ServerKey) → (book_after now shown book).told_full ≡ false
    → finite.get (book_after now shown book).known key ≡ changed_by now shown key (finite.get book.known key)
get-shown now (OfferCame offer) book key fits = get-offered now offer book key fits
get-shown now (OfferEnded server served) book key fits = get-changed (is_same_served served) ended server book.known key
get-shown now (BeganAgain sender) book key fits = get-retain servers_total exact_servers book.known (λ _ server. not (is_of sender server)) key
get-shown now (MessageCame message) book key fits = get-changed (is_not_offered now message) was_told message.server book.known key

-- ---- whether a book is full

full_by_offer : (now : ℕ) (offer : ServerOffer) (book : ServerTable) → book.told_full ≡ true → (after_offer now offer book).told_full ≡ true
full_by_offer now offer book is = cases (may_hold book.limit book.known offer.server)
  where
    cases : (b : Bool) → (if b then record book { known = finite.insert book.known offer.server (offered_at now offer) } else record book { told_full = true }).told_full ≡ true
    cases true = is
    cases false = refl

pub full_stays : (now : ℕ) (shown : Shown) (book : ServerTable) → book.told_full ≡ true → (book_after now shown book).told_full ≡ true
full_stays now (OfferCame offer) book is = full_by_offer now offer book is
full_stays now (OfferEnded server served) book is = is
full_stays now (BeganAgain sender) book is = is
full_stays now (MessageCame message) book is = is

pub full_noted : (now : ℕ) (offer : ServerOffer) (book : ServerTable) → tells_full offer book ≡ true → (book.told_full ≡ false) × ((after_offer now offer book).told_full ≡ true)
full_noted now offer book is = cases (may_hold book.limit book.known offer.server) book.told_full is
  where
    cases : (b t : Bool) → (if b then false else not t) ≡ true
        → (t ≡ false) × ((if b then record book { known = finite.insert book.known offer.server (offered_at now offer) } else record book { told_full = true }).told_full ≡ true)
    cases true t e = absurd (cc)
    cases false true e = absurd (cc)
    cases false false e = (refl, refl)

pub full_told : (offer : ServerOffer) (book : ServerTable) → may_hold book.limit book.known offer.server ≡ false → book.told_full ≡ false → tells_full offer book ≡ true
full_told offer book refused fits = rw (refused, fits) refl

-- a book that is not full after something was shown was not full before
not_before : (now : ℕ) (shown : Shown) (book : ServerTable) (b : Bool) → book.told_full ≡ b → (book_after now shown book).told_full ≡ false → book.told_full ≡ false
not_before now shown book false is fits = is
not_before now shown book true is fits = let full = full_stays now shown book is in absurd (cc)

-- ---- all events

-- a book that was never full knows the servers that the events show
pub known : (limit : ℕ) (events : List Event) (key : ServerKey) → (book_of limit events).told_full ≡ false → finite.get (book_of limit events).known key ≡ server_in events key
known limit [] key fits = finite.get-empty server_cmp key
known limit (event ∷ earlier) key fits =
    let before = not_before event.at event.shown (book_of limit earlier) (book_of limit earlier).told_full refl fits in
    get-shown event.at event.shown (book_of limit earlier) key fits ∙ ap (changed_by event.at event.shown key) (known limit earlier key before)

-- and tells of a message what these show
pub told : (limit : ℕ) (events : List Event) (now : ℕ) (message : ServerMessage) → (book_of limit events).told_full ≡ false
    → told_by now message (book_of limit events) ≡ shown_by events now message
told limit events now message fits = ap (judged_of now message) (known limit events message.server fits)
