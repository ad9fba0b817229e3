-- What a book holds of the messages so far.
use Rattle.std.specs.Prelude.{◌≢◌}
use Rattle.std.proofs.Common.{◌≡◌, ℕ, ◌<◌, ◌≤◌, nat_lt, Bool, true, false, cond, if◌then◌else◌, not, ◌&&◌, ◌||◌, List, [], ◌∷◌, length, Option, None, Some, is_some, refl, sym, ap, ap₂, ◌∙◌, arith}
use Rattle.std.proofs.lemmas.Bool.{lt-ltb}
use Rattle.std.specs.Ordering.{eq_by_cmp}
use Rattle.std.specs.FinMap as finite
use Rattle.std.specs.declared.net.ipv4_addr.Ipv4Addr.{Ipv4Addr}
use Rattle.someip_tables.specs.Endpoints.{address_cmp}
use Rattle.someip_tables.specs.hashed.Rooms.{may_hold, told_when_full}
use Rattle.sd_session.specs.declared.stamp.Stamp.{Stamp}
use Rattle.sd_session.specs.Peers.{shows_reboot}
use Rattle.sd_session.specs.Sessions.{following, is_reboot}
use Rattle.audit_sd.specs.declared.sessions.finding.Finding.{Finding}
use Rattle.audit_sd.specs.declared.sessions.finding.Finding.TheVariants.{Reboot, NotNext, Overtaken, Full}
use Rattle.audit_sd.specs.declared.sessions.last.Last.{Last}
use Rattle.audit_sd.specs.declared.sessions.message.SdMessage.{SdMessage}
use Rattle.audit_sd.specs.sessions.SessionRules.{as_last, counts, has_session, is_same_stamp, judged, stamp_of, told_uncounted}
use Rattle.audit_sd.specs.sessions.SessionBooks.{Pairs, Sessions, counts_in, pair_cmp, last_of, pairs_before, pairs_after, sessions_after, sessions_with, told_by, told_of}
use Rattle.audit_sd.specs.sessions.PairOrder.{pairs_total, exact_pairs}
use Rattle.audit_sd.specs.sessions.Histories.{last_in, shown_after, sessions_of}
use Rattle.audit_sd.proofs.about_sessions.PairLemmas.{both_tie, after_grows}

-- what is kept of a pair once a message came that counts
get-after : (message : SdMessage) (pairs : Pairs) (sender destination : Ipv4Addr) → finite.get (pairs_after message pairs) (sender, destination)
    ≡ (if eq_by_cmp address_cmp sender message.from && eq_by_cmp address_cmp destination message.to then Some (as_last message)
    else if eq_by_cmp address_cmp sender message.from && shows_reboot (stamp_of (last_of message pairs)) message.stamp then None
    else finite.get pairs (sender, destination))
get-after message pairs sender destination =
    finite.get-insert pairs_total (pairs_before message pairs) (message.from, message.to) (as_last message) (sender, destination)
    ∙ ap (λ b. cond b (Some (as_last message)) (finite.get (pairs_before message pairs) (sender, destination))) (both_tie (address_cmp sender message.from) (address_cmp destination message.to))
    ∙ ap (cond (eq_by_cmp address_cmp sender message.from && eq_by_cmp address_cmp destination message.to) (Some (as_last message))) (before (shows_reboot (stamp_of (last_of message pairs)) message.stamp))
  where
    left : (a : Bool) (v : Option Last) → cond (not a) v None ≡ cond (a && true) None v
    left true v = refl
    left false v = refl

    none : (a : Bool) (v : Option Last) → v ≡ cond (a && false) None v
    none true v = refl
    none false v = refl

    before : (r : Bool) → finite.get (cond r (finite.retain_keys pairs (λ pair. not (eq_by_cmp address_cmp pair.0 message.from))) pairs) (sender, destination)
        ≡ cond (eq_by_cmp address_cmp sender message.from && r) None (finite.get pairs (sender, destination))
    before true =
        finite.get-retain_keys pairs (λ pair. not (eq_by_cmp address_cmp pair.0 message.from)) (sender, destination) (λ x tie. ap (λ (k : Ipv4Addr × Ipv4Addr). not (eq_by_cmp address_cmp k.0 message.from)) (sym (exact_pairs (sender, destination) x tie)))
        ∙ left (eq_by_cmp address_cmp sender message.from) (finite.get pairs (sender, destination))
    before false = none (eq_by_cmp address_cmp sender message.from) (finite.get pairs (sender, destination))

-- a book once a message came that counts, where there is room for it or not, and that counts or not
abbrev roomed : SdMessage → Sessions → Bool → Sessions
roomed message book b = if b then record book { last = pairs_after message book.last } else record book { told_full = true }

abbrev counted_in : SdMessage → Sessions → Bool → Sessions
counted_in message book h = if h then sessions_with message book else book

-- ---- whether a book is full, and its settings

pub full_stays : (message : SdMessage) (book : Sessions) → book.told_full ≡ true → (sessions_after message book).told_full ≡ true
full_stays message book is = counted (counts_in book message)
  where
    cases : (b : Bool) → (roomed message book b).told_full ≡ true
    cases true = is
    cases false = refl

    counted : (h : Bool) → (counted_in message book h).told_full ≡ true
    counted true = cases (may_hold book.limit book.last (message.from, message.to))
    counted false = is

-- a book that is not full after a message was not full before
not_before : (message : SdMessage) (book : Sessions) (b : Bool) → book.told_full ≡ b → (sessions_after message book).told_full ≡ false → book.told_full ≡ false
not_before message book false is fits = is
not_before message book true is fits = let full = full_stays message book is in absurd (cc)

same_settings : (message : SdMessage) (book : Sessions) → ((sessions_after message book).overtake_ms ≡ book.overtake_ms) × ((sessions_after message book).limit ≡ book.limit)
same_settings message book = counted (counts_in book message)
  where
    cases : (b : Bool) → ((roomed message book b).overtake_ms ≡ book.overtake_ms) × ((roomed message book b).limit ≡ book.limit)
    cases true = (refl, refl)
    cases false = (refl, refl)

    counted : (h : Bool) → ((counted_in message book h).overtake_ms ≡ book.overtake_ms) × ((counted_in message book h).limit ≡ book.limit)
    counted true = cases (may_hold book.limit book.last (message.from, message.to))
    counted false = (refl, refl)

overtake_is : (limit overtake : ℕ) (messages : List SdMessage) → (sessions_of limit overtake messages).overtake_ms ≡ overtake
overtake_is limit overtake [] = refl
overtake_is limit overtake (message ∷ earlier) = (same_settings message (sessions_of limit overtake earlier)).0 ∙ overtake_is limit overtake earlier

-- ---- all messages

-- the same messages count
same_count : (book : Sessions) (overtake : ℕ) (last : Option Last) (message : SdMessage) → book.overtake_ms ≡ overtake → last_of message book.last ≡ last → counts_in book message ≡ counts overtake last message
same_count book overtake last message time is = ap₂ (λ o l. counts o l message) time is

-- a book that was never full holds the newest messages that count
pub kept : (limit overtake : ℕ) (messages : List SdMessage) → (sessions_of limit overtake messages).told_full ≡ false → (sender destination : Ipv4Addr)
    → finite.get (sessions_of limit overtake messages).last (sender, destination) ≡ last_in overtake messages sender destination
kept limit overtake [] fits sender destination = finite.get-empty pair_cmp (sender, destination)
kept limit overtake (message ∷ earlier) fits sender destination =
    let before = not_before message (sessions_of limit overtake earlier) (sessions_of limit overtake earlier).told_full refl fits in
    counted (kept limit overtake earlier before) (counts_in (sessions_of limit overtake earlier) message) fits
    ∙ ap shown (same_count (sessions_of limit overtake earlier) overtake (last_in overtake earlier message.from message.to) message (overtake_is limit overtake earlier) (kept limit overtake earlier before message.from message.to))
  where
    shown : Bool → Option Last
    shown h =
        if (h && eq_by_cmp address_cmp sender message.from) && eq_by_cmp address_cmp destination message.to then Some (as_last message)
        else if (h && eq_by_cmp address_cmp sender message.from) && shows_reboot (stamp_of (last_in overtake earlier message.from message.to)) message.stamp then None
        else last_in overtake earlier sender destination

    cases : ((s d : Ipv4Addr) → finite.get (sessions_of limit overtake earlier).last (s, d) ≡ last_in overtake earlier s d) → (b : Bool) → (roomed message (sessions_of limit overtake earlier) b).told_full ≡ false
        → finite.get (roomed message (sessions_of limit overtake earlier) b).last (sender, destination) ≡ shown true
    cases before true still =
        get-after message (sessions_of limit overtake earlier).last sender destination
        ∙ rw (before message.from message.to, before sender destination) refl
    cases before false still = absurd (cc)

    counted : ((s d : Ipv4Addr) → finite.get (sessions_of limit overtake earlier).last (s, d) ≡ last_in overtake earlier s d) → (h : Bool) → (counted_in message (sessions_of limit overtake earlier) h).told_full ≡ false
        → finite.get (counted_in message (sessions_of limit overtake earlier) h).last (sender, destination) ≡ shown h
    counted before true still = cases before (may_hold (sessions_of limit overtake earlier).limit (sessions_of limit overtake earlier).last (message.from, message.to)) still
    counted before false still = before sender destination

-- and tells of a message what these show
pub told : (limit overtake : ℕ) (messages : List SdMessage) (message : SdMessage) → (sessions_of limit overtake (message ∷ messages)).told_full ≡ false
    → told_by message (sessions_of limit overtake messages) ≡ shown_after overtake messages message
told limit overtake messages message fits =
    let before = not_before message (sessions_of limit overtake messages) (sessions_of limit overtake messages).told_full refl fits in
    counted (kept limit overtake messages before message.from message.to) (counts_in (sessions_of limit overtake messages) message) fits
    ∙ ap shown (same_count (sessions_of limit overtake messages) overtake (last_in overtake messages message.from message.to) message (overtake_is limit overtake messages) (kept limit overtake messages before message.from message.to))
  where
    shown : Bool → Option Finding
    shown h = if h then judged (stamp_of (last_in overtake messages message.from message.to)) message.stamp else told_uncounted message

    cases : last_of message (sessions_of limit overtake messages).last ≡ last_in overtake messages message.from message.to → (b : Bool) → (roomed message (sessions_of limit overtake messages) b).told_full ≡ false
        → (if b then judged (stamp_of (last_of message (sessions_of limit overtake messages).last)) message.stamp else told_when_full Full (sessions_of limit overtake messages).told_full) ≡ shown true
    cases last true still = ap (λ v. judged (stamp_of v) message.stamp) last
    cases last false still = absurd (cc)

    counted : last_of message (sessions_of limit overtake messages).last ≡ last_in overtake messages message.from message.to → (h : Bool) → (counted_in message (sessions_of limit overtake messages) h).told_full ≡ false
        → (if h then told_of message (sessions_of limit overtake messages) else told_uncounted message) ≡ shown h
    counted last true still = cases last (may_hold (sessions_of limit overtake messages).limit (sessions_of limit overtake messages).last (message.from, message.to)) still
    counted last false still = refl

-- a book with room for as many pairs as there were messages, and one more
abbrev Roomy : ℕ → ℕ → Sessions → Type 0
Roomy limit n book = (book.told_full ≡ false) × (book.limit ≡ limit) × (finite.len book.last ≤ n)

-- so many messages make at most so many pairs, and a book for so many is never full
room : (limit overtake : ℕ) (messages : List SdMessage) → length messages ≤ limit → Roomy limit (length messages) (sessions_of limit overtake messages)
room limit overtake [] few = (refl, refl, rw (finite.len-empty pair_cmp Last) (omega arith))
room limit overtake (message ∷ earlier) few =
    let before = room limit overtake earlier (omega (arith, few)) in
    let below : finite.len (sessions_of limit overtake earlier).last < (sessions_of limit overtake earlier).limit = omega (arith, before.1, before.2, few) in
    counted (sessions_of limit overtake earlier) (counts_in (sessions_of limit overtake earlier) message) (lt-ltb _ _ below) before
  where
    step : (book : Sessions) (b : Bool) → b ≡ true → Roomy limit (length earlier) book → Roomy limit (length (message ∷ earlier)) (roomed message book b)
    step book true is before = (before.0, before.1, omega (arith, after_grows message book.last, before.2))
    step book false is before = absurd (cc)

    cases : (book : Sessions) (a b : Bool) → b ≡ true → Roomy limit (length earlier) book → Roomy limit (length (message ∷ earlier)) (roomed message book (a || b))
    cases book true b is before = step book true refl before
    cases book false b is before = step book b is before

    counted : (book : Sessions) (h : Bool) → nat_lt (finite.len book.last) book.limit ≡ true → Roomy limit (length earlier) book → Roomy limit (length (message ∷ earlier)) (counted_in message book h)
    counted book true is before = cases book (is_some (last_of message book.last)) (nat_lt (finite.len book.last) book.limit) is before
    counted book false is before = (before.0, before.1, omega (arith, before.2))

pub never_full : (limit overtake : ℕ) (messages : List SdMessage) → length messages ≤ limit → (sessions_of limit overtake messages).told_full ≡ false
never_full limit overtake messages few = (room limit overtake messages few).0

-- ---- that it is full is told once

-- what the stamps show is never that the book is full
not_full : (last : Option Stamp) (stamp : Stamp) → judged last stamp ≢ Some Full
not_full None stamp is = cc
not_full (Some last) stamp is = cases (is_reboot last stamp) (is_same_stamp stamp (following last)) is
  where
    cases : (a b : Bool) → (if a then Some Reboot else if b then None else Some (NotNext stamp (following last))) ≡ Some Full → ⊥
    cases true b e = cc
    cases false true e = cc
    cases false false e = cc

pub full_noted : (message : SdMessage) (book : Sessions) → told_by message book ≡ Some Full → (book.told_full ≡ false) × ((sessions_after message book).told_full ≡ true)
full_noted message book is = counted (counts_in book message) is
  where
    cases : (b t : Bool) → book.told_full ≡ t → (if b then judged (stamp_of (last_of message book.last)) message.stamp else told_when_full Full t) ≡ Some Full
        → (t ≡ false) × ((roomed message book b).told_full ≡ true)
    cases true t now e = absurd (not_full (stamp_of (last_of message book.last)) message.stamp e)
    cases false true now e = absurd (cc)
    cases false false now e = (refl, refl)

    never : (s : Bool) → (if s then Some (Overtaken message.stamp) else None) ≡ Some Full → ⊥
    never true e = cc
    never false e = cc

    counted : (h : Bool) → (if h then told_of message book else told_uncounted message) ≡ Some Full
        → (book.told_full ≡ false) × ((counted_in message book h).told_full ≡ true)
    counted true e = let found = cases (may_hold book.limit book.last (message.from, message.to)) book.told_full refl e in (found.0, found.1)
    counted false e = absurd (never (has_session message.stamp) e)

-- a first message is not overtaken
pub full_told : (message : SdMessage) (book : Sessions) → has_session message.stamp ≡ true → may_hold book.limit book.last (message.from, message.to) ≡ false → book.told_full ≡ false → told_by message book ≡ Some Full
full_told message book has refused fits = rw (first (last_of message book.last) refl refused, refused, fits) refl
  where
    first : (v : Option Last) → last_of message book.last ≡ v → (is_some v || nat_lt (finite.len book.last) book.limit) ≡ false → counts book.overtake_ms (last_of message book.last) message ≡ true
    first None is lacks = rw (is, has) refl
    first (Some last) is lacks = absurd (cc)
