-- Why something is told of a message.
use Rattle.std.specs.Prelude.{◌≢◌}
use Rattle.std.proofs.Common.{◌≡◌, ℕ, ◌==◌, Bool, true, false, if◌then◌else◌, not, ◌&&◌, List, [], ◌∷◌, ◌++◌, Option, None, Some, refl, sym, ap, ap₂, ◌∙◌}
use Rattle.std.proofs.lemmas.Bool.{and_parts, eqb-true, eq-eqb}
use Rattle.std.specs.declared.net.ipv4_addr.Ipv4Addr.{Ipv4Addr}
use Rattle.sd_session.specs.declared.stamp.Stamp.{Stamp}
use Rattle.sd_session.specs.Peers.{shows_reboot}
use Rattle.sd_session.specs.Sessions.{following, is_reboot}
use Rattle.audit_sd.specs.declared.sessions.finding.Finding.{Finding}
use Rattle.audit_sd.specs.declared.sessions.finding.Finding.TheVariants.{NotNext, Overtaken, Reboot}
use Rattle.audit_sd.specs.declared.sessions.last.Last.{Last}
use Rattle.audit_sd.specs.declared.sessions.message.SdMessage.{SdMessage}
use Rattle.audit_sd.specs.sessions.SessionRules.{as_last, counts, has_session, is_overtaken, is_overtaken_by, is_same_stamp, judged, stamp_of, told_uncounted}
use Rattle.audit_sd.specs.sessions.Histories.{is_from_after, is_to, last_in, shown_after, shown_by}
use Rattle.audit_sd.specs.sessions.Reasons.{IsLast, IsNotNext, IsOvertaken, IsReboot, NoneSince}

-- ---- stamps

same_stamp : (a b : Stamp) → is_same_stamp a b ≡ true → a ≡ b
same_stamp a b is =
    let parts = and_parts _ _ is in
    ap₂ (λ (s : ℕ) (r : Bool). record { session = s; reboot = r }) (eqb-true a.session b.session parts.0) (flags a.reboot b.reboot parts.1)
  where
    flags : (p q : Bool) → (if p then q else not q) ≡ true → p ≡ q
    flags true true e = refl
    flags false false e = refl
    flags true false e = cc
    flags false true e = cc

own_stamp : (a : Stamp) → is_same_stamp a a ≡ true
own_stamp a = both (a.session == a.session) (eq-eqb a.session a.session refl) a.reboot
  where
    both : (b : Bool) → b ≡ true → (r : Bool) → (b && (if r then r else not r)) ≡ true
    both true is true = refl
    both true is false = refl
    both false is r = absurd (cc)

-- ---- what is shown

reboot_shown : (last : Option Stamp) (stamp : Stamp) → judged last stamp ≡ Some Reboot → shows_reboot last stamp ≡ true
reboot_shown None stamp is = absurd (cc)
reboot_shown (Some last) stamp is = cases (is_reboot last stamp) (is_same_stamp stamp (following last)) is
  where
    cases : (a b : Bool) → (if a then Some Reboot else if b then None else Some (NotNext stamp (following last))) ≡ Some Reboot → a ≡ true
    cases true b e = refl
    cases false true e = absurd (cc)
    cases false false e = absurd (cc)

shown_reboot : (last : Option Stamp) (stamp : Stamp) → shows_reboot last stamp ≡ true → judged last stamp ≡ Some Reboot
shown_reboot None stamp is = absurd (cc)
shown_reboot (Some last) stamp is = rw is refl

-- what stamps show is never that a message was overtaken
not_overtaken : (last : Option Stamp) (stamp other : Stamp) → judged last stamp ≢ Some (Overtaken other)
not_overtaken None stamp other is = cc
not_overtaken (Some last) stamp other is = cases (is_reboot last stamp) (is_same_stamp stamp (following last)) is
  where
    cases : (a b : Bool) → (if a then Some Reboot else if b then None else Some (NotNext stamp (following last))) ≡ Some (Overtaken other) → ⊥
    cases true b e = cc
    cases false true e = cc
    cases false false e = cc

-- a message counts: it has a session, and was not overtaken
counting : (overtake : ℕ) (last : Option Last) (message : SdMessage) → counts overtake last message ≡ true → (has_session message.stamp ≡ true) × (is_overtaken overtake last message ≡ false)
counting overtake last message is = let parts = and_parts _ _ is in (parts.0, unnot (is_overtaken overtake last message) parts.1)
  where
    unnot : (b : Bool) → not b ≡ true → b ≡ false
    unnot true e = absurd (cc)
    unnot false e = refl

-- what is shown of a message that counts
counted_shown : (overtake : ℕ) (last : Option Last) (message : SdMessage) → counts overtake last message ≡ true → shown_by overtake last message ≡ judged (stamp_of last) message.stamp
counted_shown overtake last message is = rw is refl

-- a finding by the stamps is one of a message that counts
counted : (overtake : ℕ) (last : Option Last) (message : SdMessage) (finding : Finding) → shown_by overtake last message ≡ Some finding → finding ≢ Overtaken message.stamp
    → (counts overtake last message ≡ true) × (judged (stamp_of last) message.stamp ≡ Some finding)
counted overtake last message finding is other = cases (counts overtake last message) refl is
  where
    uncounted : (h : Bool) → (if h then Some (Overtaken message.stamp) else None) ≡ Some finding → ⊥
    uncounted true e = let same : Overtaken message.stamp ≡ finding = cc in other (sym same)
    uncounted false e = cc

    cases : (h : Bool) → counts overtake last message ≡ h → (if h then judged (stamp_of last) message.stamp else told_uncounted message) ≡ Some finding
        → (counts overtake last message ≡ true) × (judged (stamp_of last) message.stamp ≡ Some finding)
    cases true is e = (is, e)
    cases false is e = absurd (uncounted (has_session message.stamp) e)

-- ---- the last message of a sender to a destination

pub last_is : (overtake : ℕ) (sender destination : Ipv4Addr) (last : Last) (messages : List SdMessage) → last_in overtake messages sender destination ≡ Some last → IsLast overtake sender destination last messages
last_is overtake sender destination last [] is = absurd (cc)
last_is overtake sender destination last (message ∷ earlier) is =
    cases (is_from_after overtake earlier sender message && is_to destination message) (is_from_after overtake earlier sender message && shows_reboot (stamp_of (last_in overtake earlier message.from message.to)) message.stamp) refl refl is (last_is overtake sender destination last earlier)
  where
    quiet : (is_from_after overtake earlier sender message && shows_reboot (stamp_of (last_in overtake earlier message.from message.to)) message.stamp) ≡ false → is_from_after overtake earlier sender message ≡ true
        → shown_after overtake earlier message ≢ Some Reboot
    quiet none from told =
        at (is_from_after overtake earlier sender message) (shows_reboot (stamp_of (last_in overtake earlier message.from message.to)) message.stamp) none from
        (reboot_shown (stamp_of (last_in overtake earlier message.from message.to)) message.stamp (counted overtake (last_in overtake earlier message.from message.to) message Reboot told (λ e. never e)).1)
      where
        never : Reboot ≡ Overtaken message.stamp → ⊥
        never e = cc

        at : (a b : Bool) → (a && b) ≡ false → a ≡ true → b ≡ true → ⊥
        at true true n f t = cc
        at true false n f t = cc
        at false b n f t = cc

    later : (is_from_after overtake earlier sender message && is_to destination message) ≡ false → (is_from_after overtake earlier sender message && shows_reboot (stamp_of (last_in overtake earlier message.from message.to)) message.stamp) ≡ false
        → IsLast overtake sender destination last earlier → IsLast overtake sender destination last (message ∷ earlier)
    later other none one = (
      message ∷ one.0,
      one.1,
      one.2,
      ap (λ ms. message ∷ ms) one.3,
      one.4,
      one.5,
      (
        ap (λ ms. is_from_after overtake ms sender message && is_to destination message) (sym one.3) ∙ other,
        λ from told. quiet none (ap (λ ms. is_from_after overtake ms sender message) one.3 ∙ from) (ap (λ ms. shown_after overtake ms message) one.3 ∙ told),
        one.6,
      ),
    )

    cases : (a b : Bool) → (is_from_after overtake earlier sender message && is_to destination message) ≡ a
        → (is_from_after overtake earlier sender message && shows_reboot (stamp_of (last_in overtake earlier message.from message.to)) message.stamp) ≡ b
        → (if a then Some (as_last message) else if b then None else last_in overtake earlier sender destination) ≡ Some last
        → (last_in overtake earlier sender destination ≡ Some last → IsLast overtake sender destination last earlier) → IsLast overtake sender destination last (message ∷ earlier)
    cases true b here none e rest = ([], message, earlier, refl, here, (let s : as_last message ≡ last = cc in s), tt)
    cases false true other none e rest = absurd (cc)
    cases false false other none e rest = later other none (rest e)

found : (overtake : ℕ) (sender destination : Ipv4Addr) (newer : List SdMessage) (last : SdMessage) (older : List SdMessage) → (is_from_after overtake older sender last && is_to destination last) ≡ true
    → NoneSince overtake sender destination newer (last ∷ older) → last_in overtake (newer ++ last ∷ older) sender destination ≡ Some (as_last last)
found overtake sender destination [] last older here since = rw here refl
found overtake sender destination (message ∷ newer) last older here since =
    cases (is_from_after overtake (newer ++ last ∷ older) sender message) (shows_reboot (stamp_of (last_in overtake (newer ++ last ∷ older) message.from message.to)) message.stamp) refl refl (found overtake sender destination newer last older here since.2)
  where
    cases : (a b : Bool) → is_from_after overtake (newer ++ last ∷ older) sender message ≡ a → shows_reboot (stamp_of (last_in overtake (newer ++ last ∷ older) message.from message.to)) message.stamp ≡ b
        → last_in overtake (newer ++ last ∷ older) sender destination ≡ Some (as_last last)
        → (if is_from_after overtake (newer ++ last ∷ older) sender message && is_to destination message then Some (as_last message) else if a && b then None else last_in overtake (newer ++ last ∷ older) sender destination) ≡ Some (as_last last)
    cases true true from shows rest =
        absurd (since.1 from (counted_shown overtake (last_in overtake (newer ++ last ∷ older) message.from message.to) message (and_parts _ _ from).0 ∙ shown_reboot (stamp_of (last_in overtake (newer ++ last ∷ older) message.from message.to)) message.stamp shows))
    cases true false from shows rest = rw since.0 rest
    cases false b from shows rest = rw since.0 rest

pub is_last : (overtake : ℕ) (sender destination : Ipv4Addr) (last : Last) (messages : List SdMessage) → IsLast overtake sender destination last messages → last_in overtake messages sender destination ≡ Some last
is_last overtake sender destination last messages one =
    ap (λ ms. last_in overtake ms sender destination) one.3 ∙ found overtake sender destination one.0 one.1 one.2 one.4 one.6 ∙ ap (λ l. Some l) one.5

-- ---- the findings

-- a message that has a session, and that the last one did not overtake, counts
with_last : (overtake : ℕ) (message : SdMessage) (messages : List SdMessage) (last : Last) → has_session message.stamp ≡ true → IsLast overtake message.from message.to last messages → is_overtaken_by overtake last message ≡ false
    → shown_after overtake messages message ≡ judged (Some last.stamp) message.stamp
with_last overtake message messages last has one not_late =
    ap (λ v. shown_by overtake v message) (is_last overtake message.from message.to last messages one) ∙ rw (has, not_late) refl

pub overtaken_is : (overtake : ℕ) (stamp : Stamp) (message : SdMessage) (messages : List SdMessage) → shown_after overtake messages message ≡ Some (Overtaken stamp) → IsOvertaken overtake stamp message messages
overtaken_is overtake stamp message messages is = cases (last_in overtake messages message.from message.to) refl is
  where
    late : (last : Last) → last_in overtake messages message.from message.to ≡ Some last → (s t : Bool) → has_session message.stamp ≡ s → is_overtaken_by overtake last message ≡ t
        → (if s && not t then judged (Some last.stamp) message.stamp else if s then Some (Overtaken message.stamp) else None) ≡ Some (Overtaken stamp) → IsOvertaken overtake stamp message messages
    late last is true true has by e = (has, last, last_is overtake message.from message.to last messages is, by, (let same : message.stamp ≡ stamp = cc in same))
    late last is true false has by e = absurd (not_overtaken (Some last.stamp) message.stamp stamp e)
    late last is false t has by e = absurd (cc)

    first : (s : Bool) → (if s && true then judged None message.stamp else if s then Some (Overtaken message.stamp) else None) ≡ Some (Overtaken stamp) → ⊥
    first true e = cc
    first false e = cc

    cases : (v : Option Last) → last_in overtake messages message.from message.to ≡ v → shown_by overtake v message ≡ Some (Overtaken stamp) → IsOvertaken overtake stamp message messages
    cases None last e = absurd (first (has_session message.stamp) e)
    cases (Some l) last e = late l last (has_session message.stamp) (is_overtaken_by overtake l message) refl refl e

pub is_overtaken_told : (overtake : ℕ) (stamp : Stamp) (message : SdMessage) (messages : List SdMessage) → IsOvertaken overtake stamp message messages → shown_after overtake messages message ≡ Some (Overtaken stamp)
is_overtaken_told overtake stamp message messages one =
    ap (λ v. shown_by overtake v message) (is_last overtake message.from message.to one.1 messages one.2) ∙ rw (one.0, one.3) (ap (λ s. Some (Overtaken s)) one.4)

pub reboot_is : (overtake : ℕ) (message : SdMessage) (messages : List SdMessage) → shown_after overtake messages message ≡ Some Reboot → IsReboot overtake message messages
reboot_is overtake message messages is =
    let told = counted overtake (last_in overtake messages message.from message.to) message Reboot is never in
    cases (last_in overtake messages message.from message.to) refl told.1 (counting overtake (last_in overtake messages message.from message.to) message told.0)
  where
    never : Reboot ≢ Overtaken message.stamp
    never e = cc

    cases : (v : Option Last) → last_in overtake messages message.from message.to ≡ v → judged (stamp_of v) message.stamp ≡ Some Reboot
        → (has_session message.stamp ≡ true) × (is_overtaken overtake (last_in overtake messages message.from message.to) message ≡ false) → IsReboot overtake message messages
    cases None last e has = absurd (cc)
    cases (Some l) last e has = (
      has.0,
      l,
      last_is overtake message.from message.to l messages last,
      ap (λ v. is_overtaken overtake v message) (sym last) ∙ has.1,
      reboot_shown (Some l.stamp) message.stamp e,
    )

pub is_reboot_told : (overtake : ℕ) (message : SdMessage) (messages : List SdMessage) → IsReboot overtake message messages → shown_after overtake messages message ≡ Some Reboot
is_reboot_told overtake message messages one = with_last overtake message messages one.1 one.0 one.2 one.3 ∙ shown_reboot (Some one.1.stamp) message.stamp one.4

next_shown : (last stamp s e : Stamp) → judged (Some last) stamp ≡ Some (NotNext s e) → (is_reboot last stamp ≡ false) × (stamp ≡ s) × (following last ≡ e) × (s ≢ e)
next_shown last stamp s e is = cases (is_reboot last stamp) (is_same_stamp stamp (following last)) refl is
  where
    cases : (a b : Bool) → is_same_stamp stamp (following last) ≡ b → (if a then Some Reboot else if b then None else Some (NotNext stamp (following last))) ≡ Some (NotNext s e)
        → (a ≡ false) × (stamp ≡ s) × (following last ≡ e) × (s ≢ e)
    cases true b same t = absurd (cc)
    cases false true same t = absurd (cc)
    cases false false same t =
        let one : stamp ≡ s = cc in
        let two : following last ≡ e = cc in (
          refl,
          one,
          two,
          λ equal.
              let own : is_same_stamp stamp (following last) ≡ true = ap (is_same_stamp stamp) (two ∙ sym equal ∙ sym one) ∙ own_stamp stamp in
              apart (sym same ∙ own),
        )
      where
        apart : false ≡ true → ⊥
        apart x = cc

pub not_next_is : (overtake : ℕ) (s e : Stamp) (message : SdMessage) (messages : List SdMessage) → shown_after overtake messages message ≡ Some (NotNext s e) → IsNotNext overtake s e message messages
not_next_is overtake s e message messages is =
    let told = counted overtake (last_in overtake messages message.from message.to) message (NotNext s e) is never in
    cases (last_in overtake messages message.from message.to) refl told.1 (counting overtake (last_in overtake messages message.from message.to) message told.0)
  where
    never : NotNext s e ≢ Overtaken message.stamp
    never same = cc

    cases : (v : Option Last) → last_in overtake messages message.from message.to ≡ v → judged (stamp_of v) message.stamp ≡ Some (NotNext s e)
        → (has_session message.stamp ≡ true) × (is_overtaken overtake (last_in overtake messages message.from message.to) message ≡ false) → IsNotNext overtake s e message messages
    cases None last t has = absurd (cc)
    cases (Some l) last t has =
        let shown = next_shown l.stamp message.stamp s e t in (
          has.0,
          l,
          last_is overtake message.from message.to l messages last,
          ap (λ v. is_overtaken overtake v message) (sym last) ∙ has.1,
          shown.0,
          shown.1,
          shown.2,
          shown.3,
        )

pub is_not_next_told : (overtake : ℕ) (s e : Stamp) (message : SdMessage) (messages : List SdMessage) → IsNotNext overtake s e message messages → shown_after overtake messages message ≡ Some (NotNext s e)
is_not_next_told overtake s e message messages one =
    with_last overtake message messages one.1 one.0 one.2 one.3
    ∙ cases (is_same_stamp message.stamp (following one.1.stamp)) refl
  where
    cases : (b : Bool) → is_same_stamp message.stamp (following one.1.stamp) ≡ b → judged (Some one.1.stamp) message.stamp ≡ Some (NotNext s e)
    cases true same = absurd (one.7 (sym one.5 ∙ same_stamp message.stamp (following one.1.stamp) same ∙ one.6))
    cases false same = rw (one.4, same) (ap₂ (λ a b. Some (NotNext a b)) one.5 one.6)
