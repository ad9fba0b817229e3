-- Why something is told of a server.
use Rattle.std.proofs.Common.{◌≡◌, ℕ, ◌==◌, Bool, true, false, cond, not, ◌&&◌, ◌||◌, List, [], ◌∷◌, ◌++◌, Option, None, Some, option_map, refl, sym, ap, ◌∙◌}
use Rattle.std.specs.Ordering.{eq_by_cmp}
use Rattle.someip_tables.specs.declared.deadline.Deadline.{Deadline}
use Rattle.someip_tables.specs.Deadlines.{deadline_after, has_passed}
use Rattle.someip_tables.proofs.Entries.{own_test, same_by_test}
use Rattle.audit_sd.specs.declared.servers.finding.Finding.{Finding}
use Rattle.audit_sd.specs.declared.servers.finding.Finding.TheVariants.{Interface, NotOffered}
use Rattle.audit_sd.specs.declared.servers.key.ServerKey.{ServerKey}
use Rattle.audit_sd.specs.declared.servers.message.ServerMessage.{ServerMessage}
use Rattle.audit_sd.specs.declared.servers.offer.ServerOffer.{ServerOffer}
use Rattle.audit_sd.specs.declared.servers.offer.Served.{Served}
use Rattle.audit_sd.specs.declared.servers.server.Server.{Server}
use Rattle.audit_sd.specs.declared.servers.server.ServerState.{ServerState}
use Rattle.audit_sd.specs.declared.servers.server.ServerState.TheVariants.{Offered, Ended, Told}
use Rattle.audit_sd.specs.servers.ServerKeys.{server_cmp}
use Rattle.audit_sd.specs.servers.ServerOrder.{servers_total, exact_servers}
use Rattle.audit_sd.specs.servers.ServerRules.{is_of, judged, offered_at}
use Rattle.audit_sd.specs.servers.ServerTables.{judged_of}
use Rattle.audit_sd.specs.servers.ServerHistories.{BeganAgain, Event, MessageCame, OfferCame, OfferEnded, Shown, changed_by, once_heard, once_stopped, server_in, shown_by}
use Rattle.audit_sd.specs.servers.ServerReasons.{IsNewest, IsNotOffered, IsOfVersion, NoneSince, asks, has_ended, leaves, stops, was_asked, was_stopped}

-- ---- what is known by the newest Offer

-- of a server whose Offer came at a moment: whether a REQUEST was told, and whether a StopOffer ended it
abbrev state_by : Deadline → (told stopped : Bool) → ServerState
state_by until true stopped = Told
state_by until false true = Ended
state_by until false false = Offered until

abbrev server_by : ℕ → ServerOffer → (told stopped : Bool) → Server
server_by at offer told stopped = record { served = offer.served; sender = offer.sender; state = state_by (deadline_after at offer.ttl) told stopped }

abbrev server_of : ℕ → ServerOffer → List Event → Server
server_of at offer newer = server_by at offer (was_asked at offer newer) (was_stopped offer newer)

stopped_on : (at : ℕ) (offer : ServerOffer) (served : Served) (told stopped i m : Bool) → (served.instance == offer.served.instance) ≡ i → (served.major == offer.served.major) ≡ m
    → once_stopped served (server_by at offer told stopped) ≡ server_by at offer told ((i && m) || stopped)
stopped_on at offer served true true true true is_i is_m = rw (is_i, is_m) refl
stopped_on at offer served true false true true is_i is_m = rw (is_i, is_m) refl
stopped_on at offer served false true true true is_i is_m = rw (is_i, is_m) refl
stopped_on at offer served false false true true is_i is_m = rw (is_i, is_m) refl
stopped_on at offer served told stopped true false is_i is_m = rw (is_i, is_m) refl
stopped_on at offer served told stopped false m is_i is_m = rw is_i refl

heard_on : (at : ℕ) (offer : ServerOffer) (now : ℕ) (message : ServerMessage) (told stopped r p : Bool) → message.is_request ≡ r → has_passed now (deadline_after at offer.ttl) ≡ p
    → once_heard now message (server_by at offer told stopped) ≡ server_by at offer ((r && (stopped || p)) || told) stopped
heard_on at offer now message told stopped false p is_r is_p = rw is_r refl
heard_on at offer now message true true true p is_r is_p = rw is_r refl
heard_on at offer now message true false true true is_r is_p = rw is_r refl
heard_on at offer now message true false true false is_r is_p = rw is_r refl
heard_on at offer now message false true true p is_r is_p = rw is_r refl
heard_on at offer now message false false true true is_r is_p = rw (is_r, is_p) refl
heard_on at offer now message false false true false is_r is_p = rw (is_r, is_p) refl

not_true : (b : Bool) → not b ≡ true → b ≡ false
not_true true is = absurd (cc)
not_true false is = refl

-- one event more that leaves it the newest
one_more : (at : ℕ) (offer : ServerOffer) (event : Event) (newer : List Event) → leaves offer event.shown ≡ true
    → changed_by event.at event.shown offer.server (Some (server_of at offer newer)) ≡ Some (server_of at offer (event ∷ newer))
one_more at offer event newer left = by event.shown refl left
  where
    by : (shown : Shown) → event.shown ≡ shown → leaves offer shown ≡ true
        → changed_by event.at shown offer.server (Some (server_of at offer newer))
        ≡ Some (server_by at offer ((asks offer shown && has_ended at offer newer event.at) || was_asked at offer newer) (stops offer shown || was_stopped offer newer))
    by (OfferCame other) same l = rw (not_true (eq_by_cmp server_cmp offer.server other.server) l) refl
    by (BeganAgain sender) same l = rw l refl
    by (OfferEnded server served) same l = cases (eq_by_cmp server_cmp offer.server server) refl
      where
        cases : (t : Bool) → eq_by_cmp server_cmp offer.server server ≡ t
            → cond t (Some (once_stopped served (server_of at offer newer))) (Some (server_of at offer newer))
            ≡ Some (server_by at offer (was_asked at offer newer) ((t && (served.instance == offer.served.instance) && (served.major == offer.served.major)) || was_stopped offer newer))
        cases true tie = ap (λ s. Some s) (stopped_on at offer served (was_asked at offer newer) (was_stopped offer newer) (served.instance == offer.served.instance) (served.major == offer.served.major) refl refl)
        cases false tie = refl
    by (MessageCame message) same l = cases (eq_by_cmp server_cmp offer.server message.server) refl
      where
        cases : (t : Bool) → eq_by_cmp server_cmp offer.server message.server ≡ t
            → cond t (Some (once_heard event.at message (server_of at offer newer))) (Some (server_of at offer newer))
            ≡ Some (server_by at offer (((t && message.is_request) && has_ended at offer newer event.at) || was_asked at offer newer) (was_stopped offer newer))
        cases true tie = ap (λ s. Some s) (heard_on at offer event.at message (was_asked at offer newer) (was_stopped offer newer) message.is_request (has_passed event.at (deadline_after at offer.ttl)) refl refl)
        cases false tie = refl

-- what is known of a server by its newest Offer
known_on : (at : ℕ) (offer : ServerOffer) (newer older : List Event) → NoneSince offer newer
    → server_in (newer ++ record { at = at; shown = OfferCame offer } ∷ older) offer.server ≡ Some (server_of at offer newer)
known_on at offer [] older since = rw (own_test servers_total offer.server) refl
known_on at offer (event ∷ newer) older since = ap (changed_by event.at event.shown offer.server) (known_on at offer newer older since.1) ∙ one_more at offer event newer since.0

known_is : (at : ℕ) (offer : ServerOffer) (newer events : List Event) (key : ServerKey) → IsNewest at offer newer events → offer.server ≡ key → server_in events key ≡ Some (server_of at offer newer)
known_is at offer newer events key one same = ap (server_in events) (sym same) ∙ ap (λ es. server_in es offer.server) one.1 ∙ known_on at offer newer one.0 one.2

-- ---- a server of which something is known has a newest Offer

abbrev HasNewest : ServerKey → List Event → Type 0
HasNewest key events = (at : ℕ) × (offer : ServerOffer) × (newer : List Event) × IsNewest at offer newer events × (offer.server ≡ key)

further : (key : ServerKey) (event : Event) (earlier : List Event) (one : HasNewest key earlier) → leaves one.1 event.shown ≡ true → HasNewest key (event ∷ earlier)
further key event earlier one left = (one.0, one.1, event ∷ one.2, (one.3.0, ap (λ es. event ∷ es) one.3.1, (left, one.3.2)), one.4)

newest_in : (events : List Event) (key : ServerKey) (server : Server) → server_in events key ≡ Some server → HasNewest key events
newest_in [] key server is = absurd (cc)
newest_in (event ∷ earlier) key server is = by (newest_in earlier key) event.shown refl (server_in earlier key) refl is
  where
    offered : ((known : Server) → server_in earlier key ≡ Some known → HasNewest key earlier) → (other : ServerOffer) → event.shown ≡ OfferCame other → (t : Bool) → eq_by_cmp server_cmp key other.server ≡ t
        → (v : Option Server) → server_in earlier key ≡ v → cond t (Some (offered_at event.at other)) v ≡ Some server → HasNewest key (event ∷ earlier)
    offered rest other same true tie v has e =
        (event.at, other, [], (earlier, ap (λ (s : Shown). record { at = event.at; shown = s } ∷ earlier) same, tt), sym (same_by_test exact_servers key other.server tie))
    offered rest other same false tie None has e = absurd (cc)
    offered rest other same false tie (Some known) has e =
        let one : HasNewest key earlier = rest known has in
        further key event earlier one (ap (leaves one.1) same ∙ ap (λ k. not (eq_by_cmp server_cmp k other.server)) one.4 ∙ ap not tie)

    unasked : (t : Bool) (change : Server → Server) → cond t (option_map change None) None ≡ Some server → ⊥
    unasked true change x = cc
    unasked false change x = cc

    stays : (known : Server) (b : Bool) → cond b (Some known) None ≡ Some server → b ≡ true
    stays known true x = refl
    stays known false x = absurd (cc)

    by : ((known : Server) → server_in earlier key ≡ Some known → HasNewest key earlier) → (shown : Shown) → event.shown ≡ shown → (v : Option Server) → server_in earlier key ≡ v
        → changed_by event.at shown key v ≡ Some server → HasNewest key (event ∷ earlier)
    by rest (OfferCame other) same v has e = offered rest other same (eq_by_cmp server_cmp key other.server) refl v has e
    by rest (OfferEnded at served) same None has e = absurd (unasked (eq_by_cmp server_cmp key at) (once_stopped served) e)
    by rest (OfferEnded at served) same (Some known) has e = let one : HasNewest key earlier = rest known has in further key event earlier one (ap (leaves one.1) same)
    by rest (MessageCame message) same None has e = absurd (unasked (eq_by_cmp server_cmp key message.server) (once_heard event.at message) e)
    by rest (MessageCame message) same (Some known) has e = let one : HasNewest key earlier = rest known has in further key event earlier one (ap (leaves one.1) same)
    by rest (BeganAgain sender) same None has e = absurd (cc)
    by rest (BeganAgain sender) same (Some known) has e =
        let one : HasNewest key earlier = rest known has in
        let held : Some known ≡ Some (server_of one.0 one.1 one.2) = sym has ∙ known_is one.0 one.1 one.2 earlier key one.3 one.4 in
        let is_server : known ≡ server_of one.0 one.1 one.2 = cc in
        further key event earlier one
        (ap (leaves one.1) same ∙ ap (λ (s : Server). not (is_of sender s)) (sym is_server) ∙ stays known (not (is_of sender known)) e)

-- ---- the findings

-- what a message shows: whether a REQUEST was told, the server has ended, the message is a REQUEST, and it has the major version
abbrev judged_by : ServerOffer → (told has_ended is_request is_same : Bool) → Option Finding
judged_by offer true has_ended is_request is_same = None
judged_by offer false true true is_same = Some NotOffered
judged_by offer false true false is_same = None
judged_by offer false false is_request true = None
judged_by offer false false is_request false = Some (Interface offer.served.major)

judged_is : (at now : ℕ) (message : ServerMessage) (offer : ServerOffer) (told stopped p r m : Bool) → has_passed now (deadline_after at offer.ttl) ≡ p → message.is_request ≡ r
    → (message.interface == offer.served.major) ≡ m
    → judged now message (server_by at offer told stopped) ≡ judged_by offer told (stopped || p) r m
judged_is at now message offer true stopped p true m is_p is_r is_m = rw is_r refl
judged_is at now message offer true stopped p false m is_p is_r is_m = rw is_r refl
judged_is at now message offer false true p true m is_p is_r is_m = rw is_r refl
judged_is at now message offer false true p false m is_p is_r is_m = rw is_r refl
judged_is at now message offer false false true true m is_p is_r is_m = rw (is_r, is_p) refl
judged_is at now message offer false false true false m is_p is_r is_m = rw (is_r, is_p) refl
judged_is at now message offer false false false true true is_p is_r is_m = rw (is_r, is_p, is_m) refl
judged_is at now message offer false false false true false is_p is_r is_m = rw (is_r, is_p, is_m) refl
judged_is at now message offer false false false false true is_p is_r is_m = rw (is_r, is_p, is_m) refl
judged_is at now message offer false false false false false is_p is_r is_m = rw (is_r, is_p, is_m) refl

shown_is : (now : ℕ) (message : ServerMessage) (events : List Event) (at : ℕ) (offer : ServerOffer) (newer : List Event) → IsNewest at offer newer events → offer.server ≡ message.server
    → shown_by events now message ≡ judged_by offer (was_asked at offer newer) (has_ended at offer newer now) message.is_request (message.interface == offer.served.major)
shown_is now message events at offer newer one same =
    ap (judged_of now message) (known_is at offer newer events message.server one same)
    ∙ judged_is at now message offer (was_asked at offer newer) (was_stopped offer newer) (has_passed now (deadline_after at offer.ttl)) message.is_request (message.interface == offer.served.major) refl refl refl

-- where something is told its server has a newest Offer
told_newest : (now : ℕ) (message : ServerMessage) (events : List Event) (finding : Finding) → shown_by events now message ≡ Some finding → HasNewest message.server events
told_newest now message events finding is = by (server_in events message.server) refl is
  where
    by : (v : Option Server) → server_in events message.server ≡ v → judged_of now message v ≡ Some finding → HasNewest message.server events
    by None has e = absurd (cc)
    by (Some server) has e = newest_in events message.server server has

pub version_is : (now : ℕ) (message : ServerMessage) (expected : ℕ) (events : List Event) → shown_by events now message ≡ Some (Interface expected) → IsOfVersion now message expected events
version_is now message expected events is =
    let one = told_newest now message events (Interface expected) is in
    let parts = cases one.1 (was_asked one.0 one.1 one.2) (has_ended one.0 one.1 one.2 now) message.is_request (message.interface == one.1.served.major) (sym (shown_is now message events one.0 one.1 one.2 one.3 one.4) ∙ is) in
    (one.0, one.1, one.2, one.3, one.4, parts.0, parts.1, parts.2, ap (λ v. message.interface == v) (sym parts.2) ∙ parts.3)
  where
    cases : (offer : ServerOffer) (told e r m : Bool) → judged_by offer told e r m ≡ Some (Interface expected)
        → (told ≡ false) × (e ≡ false) × (offer.served.major ≡ expected) × (m ≡ false)
    cases offer true e r m is = absurd (cc)
    cases offer false true true m is = absurd (cc)
    cases offer false true false m is = absurd (cc)
    cases offer false false r true is = absurd (cc)
    cases offer false false r false is = (refl, refl, (let same : offer.served.major ≡ expected = cc in same), refl)

pub is_version : (now : ℕ) (message : ServerMessage) (expected : ℕ) (events : List Event) → IsOfVersion now message expected events → shown_by events now message ≡ Some (Interface expected)
is_version now message expected events one =
    let other : (message.interface == one.1.served.major) ≡ false = ap (λ v. message.interface == v) one.7 ∙ one.8 in
    shown_is now message events one.0 one.1 one.2 one.3 one.4
    ∙ rw (one.5, one.6, other) (ap (λ v. Some (Interface v)) one.7)

pub not_offered_is : (now : ℕ) (message : ServerMessage) (events : List Event) → shown_by events now message ≡ Some NotOffered → IsNotOffered now message events
not_offered_is now message events is =
    let one = told_newest now message events NotOffered is in
    let parts = cases one.1 (was_asked one.0 one.1 one.2) (has_ended one.0 one.1 one.2 now) message.is_request (message.interface == one.1.served.major) (sym (shown_is now message events one.0 one.1 one.2 one.3 one.4) ∙ is) in
    (one.0, one.1, one.2, one.3, one.4, parts.0, parts.1, parts.2)
  where
    cases : (offer : ServerOffer) (told e r m : Bool) → judged_by offer told e r m ≡ Some NotOffered → (told ≡ false) × (e ≡ true) × (r ≡ true)
    cases offer true e r m is = absurd (cc)
    cases offer false true true m is = (refl, refl, refl)
    cases offer false true false m is = absurd (cc)
    cases offer false false r true is = absurd (cc)
    cases offer false false r false is = absurd (cc)

pub is_not_offered_told : (now : ℕ) (message : ServerMessage) (events : List Event) → IsNotOffered now message events → shown_by events now message ≡ Some NotOffered
is_not_offered_told now message events one = shown_is now message events one.0 one.1 one.2 one.3 one.4 ∙ rw (one.5, one.6, one.7) refl
