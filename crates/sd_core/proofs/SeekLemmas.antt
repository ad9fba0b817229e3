-- Wanted instances as maps: what each change of their table shows.
use Rattle.std.proofs.Common.{◌≡◌, ℕ, nat_lt, Bool, true, false, not, if◌then◌else◌, ◌&&◌, ◌||◌, ◌==◌, List, [], filter, length, Option, None, Some, refl, ap, sym, ◌∙◌}
use Rattle.std.proofs.Math.Bool.{or-true}
use Rattle.std.proofs.lemmas.Bool.{or_from, or_parts}
use Rattle.std.specs.Option.{option_and_then, option_map, option_map_or}
use Rattle.std.specs.FinMap as finite
use Rattle.std.specs.FinMap.{FinMap}
use Rattle.std.specs.declared.net.ipv4_addr.Ipv4Addr.{Ipv4Addr}
use Rattle.someip_tables.specs.declared.lasting.Lasting.{Lasting}
use Rattle.someip_tables.specs.declared.deadline.Deadline.{Deadline}
use Rattle.someip_tables.specs.declared.deadline.Deadline.TheVariants.{At, Never}
use Rattle.someip_tables.specs.Changed.{each_changed}
use Rattle.someip_tables.specs.Deadlines.{has_passed, millis_of}
use Rattle.someip_tables.specs.Lastings.{unless_passed, expired, unexpired}
use Rattle.someip_tables.specs.Retained.{kept_if, retain}
use Rattle.someip_tables.specs.Waits.{is_due_by, due_by}
use Rattle.someip_tables.proofs.ChangedLemmas.{changed_alike}
use Rattle.someip_tables.proofs.Entries.{get-retain}
use Rattle.someip_tables.proofs.Firsts.{earlier_due}
use Rattle.someip_tables.proofs.MapLaws.{retain_none}
use Rattle.someip_tables.proofs.SortedEntries.{keys-empty, no_keys}
use Rattle.sd_core.specs.declared.keys.InstanceId.{InstanceId}
use Rattle.sd_core.specs.declared.phases.Phases.{Phases}
use Rattle.sd_core.specs.declared.received.ReceivedOffer.{ReceivedOffer}
use Rattle.sd_core.specs.declared.received.KnownOffer.{KnownOffer}
use Rattle.sd_core.specs.declared.received.Uncounted.TheVariants.{Unwanted}
use Rattle.sd_core.specs.declared.sending.Sending.{Sending}
use Rattle.sd_core.specs.declared.want.Want.{Want}
use Rattle.sd_core.specs.Keys.{instance_cmp}
use Rattle.sd_core.specs.KeyOrder.{instances_total, exact_instances}
use Rattle.sd_core.specs.Shown.{shown}
use Rattle.sd_core.specs.Sendings.{goes_out, after_sending, after_find, due_at}
use Rattle.sd_core.specs.SeekTables.{IsQuiet, KnowsWanted, seek_of, searching_from, seek_after_tick, known_at, offer_refusal, uncounted, stands_by, known_of, forgetting, is_wanted, is_stopped}
use Rattle.sd_core.specs.Waiting.{want_moment}
use Rattle.sd_core.proofs.AmongLemmas.{keys-among}
use Rattle.sd_core.proofs.ShownChanges.{shown-changed, shown-changed_same, shown-changed_none}
use Rattle.sd_core.proofs.ShownLemmas.{get-shown, shown-kept, shown-insert, shown-insert_none, shown-insert_same, shown-empty, keys-shown, none-shown}

abbrev WantMap : Type 0
WantMap = FinMap instance_cmp Want

abbrev major_of : Want → Option ℕ
major_of w = Some w.major

abbrev known_in : Want → Option (Lasting KnownOffer)
known_in w = w.known

abbrev finding_in : Want → Option Sending
finding_in w = w.finding

-- no want
pub no_wants : (wants : WantMap) → wants ≡ finite.empty → seek_of wants ≡ record { wanted = finite.empty; known = finite.empty; finding = finite.empty }
no_wants wants is =
    ap seek_of is
    ∙ (λ i. record {
      wanted = shown-empty instances_total exact_instances major_of i;
      known = shown-empty instances_total exact_instances known_in i;
      finding = shown-empty instances_total exact_instances finding_in i;
    })

-- every want is searched for
pub all_searched : (first : Sending) (wants : WantMap)
    → seek_of (each_changed (λ _ w. record { major = w.major; known = None; finding = Some first }) wants) ≡ searching_from first (seek_of wants)
all_searched first wants = λ i. record {
  wanted = shown-changed_same instances_total exact_instances (λ _ w. record { major = w.major; known = None; finding = Some first }) major_of wants (λ q w. refl) i;
  known = shown-changed_none instances_total exact_instances (λ _ w. record { major = w.major; known = None; finding = Some first }) known_in wants (λ q w. refl) i;
  finding = shown-changed instances_total exact_instances (λ _ w. record { major = w.major; known = None; finding = Some first }) finding_in (λ (_ : ℕ). Some first) major_of wants (λ q w. refl) i;
}

-- a value is one
pub same_value : {X : Type 0} (v : Option X) (a b : X) → v ≡ Some a → v ≡ Some b → a ≡ b
same_value v a b p q = cc

kept_each : {X : Type 0} (p : X → Bool) (v : Option X) → kept_if p v ≡ option_and_then (λ x. kept_if p (Some x)) v
kept_each p None = refl
kept_each p (Some x) = refl

kept_all : {X : Type 0} (p : X → Bool) (v : Option X) → option_map_or p v false ≡ false → kept_if (λ x. not (p x)) v ≡ v
kept_all p None none = refl
kept_all p (Some x) none = ap (λ b. if not b then Some x else None) none

-- ---- a moment comes

-- what a want is after it
abbrev pub ticked_want : Phases → ℕ → Want → Want
ticked_want phases now w = record { major = w.major; known = unless_passed now w.known; finding = option_and_then (after_find phases now) w.finding }

all_ticked : (phases : Phases) (now : ℕ) (wants : WantMap) → seek_of (each_changed (λ _ w. ticked_want phases now w) wants) ≡ seek_after_tick phases now (seek_of wants)
all_ticked phases now wants =
    let stays : Lasting KnownOffer → Bool = λ l. not (has_passed now l.until) in
    let known : shown known_in (each_changed (λ _ w. ticked_want phases now w) wants) ≡ unexpired now (shown known_in wants) =
    shown-changed instances_total exact_instances (λ _ w. ticked_want phases now w) known_in (λ l. kept_if stays (Some l)) known_in wants (λ q w. kept_each stays w.known)
    ∙ shown-kept instances_total exact_instances stays (shown known_in wants) in
    (λ i. record {
      wanted = shown-changed_same instances_total exact_instances (λ _ w. ticked_want phases now w) major_of wants (λ q w. refl) i;
      known = known i;
      finding = shown-changed instances_total exact_instances (λ _ w. ticked_want phases now w) finding_in (after_find phases now) finding_in wants (λ q w. refl) i;
    })

abbrev pub want_is_due : ℕ → InstanceId → Want → Bool
want_is_due now _ w = is_due_by now (want_moment w)

passes : (now : ℕ) (v : Option (Lasting KnownOffer)) → is_due_by now (option_and_then (λ l. millis_of l.until) v) ≡ option_map_or (λ l. has_passed now l.until) v false
passes now None = refl
passes now (Some l) = cases l.until
  where
    cases : (d : Deadline) → is_due_by now (millis_of d) ≡ has_passed now d
    cases (At moment) = refl
    cases Never = refl

finds : (now : ℕ) (v : Option Sending) → is_due_by now (option_map (λ s. s.due) v) ≡ option_map_or (goes_out now) v false
finds now None = refl
finds now (Some s) = refl

-- a want is due where its offer has passed, or its Find goes out
due_is : (now : ℕ) (w : Want) → is_due_by now (want_moment w) ≡ (option_map_or (λ l. has_passed now l.until) w.known false || option_map_or (goes_out now) w.finding false)
due_is now w =
    earlier_due now (option_and_then (λ l. millis_of l.until) w.known) (option_map (λ s. s.due) w.finding)
    ∙ (λ i. passes now w.known i || finds now w.finding i)

-- what is not due stays
finding_stays : (phases : Phases) (now : ℕ) (v : Option Sending) → option_map_or (goes_out now) v false ≡ false → option_and_then (after_find phases now) v ≡ v
finding_stays phases now None stands = refl
finding_stays phases now (Some s) stands =
    ap (λ b. if b then (if nat_lt s.sent phases.repetitions then Some (after_sending phases now s) else None) else Some s) stands

stays : (phases : Phases) (now : ℕ) (w : Want) → is_due_by now (want_moment w) ≡ false → w ≡ ticked_want phases now w
stays phases now w stands =
    let none = or_parts _ _ (sym (due_is now w) ∙ stands) in
    (λ i. record { major = w.major; known = sym (kept_all (λ l. has_passed now l.until) w.known none.0) i; finding = sym (finding_stays phases now w.finding none.1) i })

pub due_ticked : (phases : Phases) (now : ℕ) (wants : WantMap)
    → seek_of (each_changed (λ q w. if want_is_due now q w then ticked_want phases now w else w) wants) ≡ seek_after_tick phases now (seek_of wants)
due_ticked phases now wants = ap seek_of (changed_alike instances_total exact_instances _ _ wants (λ q w found. cases w (is_due_by now (want_moment w)) refl)) ∙ all_ticked phases now wants
  where
    cases : (w : Want) (b : Bool) → is_due_by now (want_moment w) ≡ b → (if b then ticked_want phases now w else w) ≡ ticked_want phases now w
    cases w true is = refl
    cases w false is = stays phases now w is

-- ---- the offers of a peer are forgotten

abbrev pub is_of : Ipv4Addr → ℕ → InstanceId → Want → Bool
is_of peer now _ w = option_map_or (stands_by peer now) w.known false

abbrev pub forgetful_want : Ipv4Addr → ℕ → Want → Want
forgetful_want peer now w = record { major = w.major; known = kept_if (λ lasting. not (stands_by peer now lasting)) w.known; finding = w.finding }

all_forgotten : (peer : Ipv4Addr) (now : ℕ) (wants : WantMap) → seek_of (each_changed (λ _ w. forgetful_want peer now w) wants) ≡ forgetting peer now (seek_of wants)
all_forgotten peer now wants =
    let stays : Lasting KnownOffer → Bool = λ l. not (stands_by peer now l) in
    let known : shown known_in (each_changed (λ _ w. forgetful_want peer now w) wants) ≡ retain (shown known_in wants) (λ _ l. stays l) =
    shown-changed instances_total exact_instances (λ _ w. forgetful_want peer now w) known_in (λ l. kept_if stays (Some l)) known_in wants (λ q w. kept_each stays w.known)
    ∙ shown-kept instances_total exact_instances stays (shown known_in wants) in
    (λ i. record {
      wanted = shown-changed_same instances_total exact_instances (λ _ w. forgetful_want peer now w) major_of wants (λ q w. refl) i;
      known = known i;
      finding = shown-changed_same instances_total exact_instances (λ _ w. forgetful_want peer now w) finding_in wants (λ q w. refl) i;
    })

pub peer_forgotten : (peer : Ipv4Addr) (now : ℕ) (wants : WantMap)
    → seek_of (each_changed (λ q w. if is_of peer now q w then forgetful_want peer now w else w) wants) ≡ forgetting peer now (seek_of wants)
peer_forgotten peer now wants = ap seek_of (changed_alike instances_total exact_instances _ _ wants (λ q w found. cases w (is_of peer now q w) refl)) ∙ all_forgotten peer now wants
  where
    cases : (w : Want) (b : Bool) → option_map_or (stands_by peer now) w.known false ≡ b → (if b then forgetful_want peer now w else w) ≡ forgetful_want peer now w
    cases w true is = refl
    cases w false is = λ i. record { major = w.major; known = sym (kept_all (stands_by peer now) w.known is) i; finding = w.finding }

-- ---- the keys of wants that pass a test

abbrev pub has_ended : ℕ → InstanceId → Want → Bool
has_ended now _ w = option_map_or (λ l. has_passed now l.until) w.known false

pub ended_keys : (now : ℕ) (wants : WantMap) → finite.keys (retain wants (has_ended now)) ≡ finite.keys (expired now (seek_of wants).known)
ended_keys now wants = keys-shown instances_total exact_instances known_in wants (has_ended now) (λ _ l. has_passed now l.until) (λ q w is. refl)

none_ended : (now : ℕ) (wants : WantMap) → expired now (seek_of wants).known ≡ finite.empty → retain wants (has_ended now) ≡ finite.empty
none_ended now wants = none-shown instances_total exact_instances known_in wants (has_ended now) (λ _ l. has_passed now l.until) (λ q w is. refl)

pub due_if_ended : (now : ℕ) (q : InstanceId) (w : Want) → has_ended now q w ≡ true → want_is_due now q w ≡ true
due_if_ended now q w ended = due_is now w ∙ rw ended refl

abbrev pub find_is_due : ℕ → InstanceId → Want → Bool
find_is_due now _ w = option_map_or (goes_out now) w.finding false

pub find_keys : (now : ℕ) (wants : WantMap) → finite.keys (retain wants (find_is_due now)) ≡ finite.keys (due_at now (seek_of wants).finding)
find_keys now wants = keys-shown instances_total exact_instances finding_in wants (find_is_due now) (λ _ s. goes_out now s) (λ q w is. refl)

no_find : (now : ℕ) (wants : WantMap) → due_at now (seek_of wants).finding ≡ finite.empty → retain wants (find_is_due now) ≡ finite.empty
no_find now wants = none-shown instances_total exact_instances finding_in wants (find_is_due now) (λ _ s. goes_out now s) (λ q w is. refl)

pub due_if_find : (now : ℕ) (q : InstanceId) (w : Want) → find_is_due now q w ≡ true → want_is_due now q w ≡ true
due_if_find now q w due = due_is now w ∙ rw due (or-true (has_ended now q w))

-- where none is due, no offer ends and no Find goes out
pub none_ends : (now : ℕ) (wants : WantMap) → finite.keys (due_by want_moment now wants) ≡ [] → finite.keys (expired now (seek_of wants).known) ≡ []
none_ends now wants none =
    sym (keys-among instances_total exact_instances wants (has_ended now) (want_is_due now) (due_if_ended now) ∙ ended_keys now wants) ∙ ap (filter _) none

pub none_finds : (now : ℕ) (wants : WantMap) → finite.keys (due_by want_moment now wants) ≡ [] → finite.keys (due_at now (seek_of wants).finding) ≡ []
none_finds now wants none =
    sym (keys-among instances_total exact_instances wants (find_is_due now) (want_is_due now) (due_if_find now) ∙ find_keys now wants) ∙ ap (filter _) none

-- at a quiet moment none is due
pub quiet : (now : ℕ) (wants : WantMap) → IsQuiet now (seek_of wants) → due_by want_moment now wants ≡ finite.empty
quiet now wants is = retain_none instances_total exact_instances wants (want_is_due now) (λ q w some. due_is now w ∙ none q w some)
  where
    told : (w : Want) (b : Bool) → kept_if (λ _. b) (Some w) ≡ None → b ≡ false
    told w true nothing = absurd (cc)
    told w false nothing = refl

    fails : (p : InstanceId → Want → Bool) → retain wants p ≡ finite.empty → (q : InstanceId) (w : Want) → finite.get wants q ≡ Some w → p q w ≡ false
    fails p nothing q w some =
        told w (p q w)
        (sym (get-retain instances_total exact_instances wants p q ∙ ap (kept_if (p q)) some) ∙ ap (λ m. finite.get m q) nothing ∙ finite.get-empty instance_cmp q)

    none : (q : InstanceId) (w : Want) → finite.get wants q ≡ Some w → (has_ended now q w || find_is_due now q w) ≡ false
    none q w some = or_from _ _ (fails (has_ended now) (none_ended now wants is.0) q w some) (fails (find_is_due now) (no_find now wants is.1) q w some)

-- and where none is due, the moment is quiet
pub none_is_quiet : (now : ℕ) (wants : WantMap) → due_by want_moment now wants ≡ finite.empty → IsQuiet now (seek_of wants)
none_is_quiet now wants none =
    let no_one : finite.keys (due_by want_moment now wants) ≡ [] = ap finite.keys none ∙ keys-empty Want instance_cmp in
    (no_keys _ (none_ends now wants no_one), no_keys _ (none_finds now wants no_one))

-- where some are due, it is not quiet
pub not_quiet : (now : ℕ) (wants : WantMap) (due : List InstanceId) → due ≡ finite.keys (due_by want_moment now wants) → (length due == 0) ≡ false → IsQuiet now (seek_of wants) → ⊥
not_quiet now wants due is some nothing =
    let none : due ≡ [] = is ∙ ap finite.keys (quiet now wants nothing) ∙ keys-empty Want instance_cmp in
    let never : true ≡ false = sym (ap (λ ks. length ks == 0) none) ∙ some in
    absurd (cc)

pub peer_keys : (peer : Ipv4Addr) (now : ℕ) (wants : WantMap) → finite.keys (retain wants (is_of peer now)) ≡ finite.keys (known_of peer now (seek_of wants))
peer_keys peer now wants = keys-shown instances_total exact_instances known_in wants (is_of peer now) (λ _ l. stands_by peer now l) (λ q w is. refl)

pub none_of_peer : (peer : Ipv4Addr) (now : ℕ) (wants : WantMap) → known_of peer now (seek_of wants) ≡ finite.empty → retain wants (is_of peer now) ≡ finite.empty
none_of_peer peer now wants = none-shown instances_total exact_instances known_in wants (is_of peer now) (λ _ l. stands_by peer now l) (λ q w is. refl)

-- ---- at one instance

pub wanted_is : (wants : WantMap) (q : InstanceId) (v : Option Want) → finite.get wants q ≡ v → finite.get (seek_of wants).wanted q ≡ option_and_then major_of v
wanted_is wants q v is = get-shown instances_total exact_instances major_of wants q ∙ ap (option_and_then major_of) is

pub known_is : (wants : WantMap) (q : InstanceId) (v : Option Want) → finite.get wants q ≡ v → finite.get (seek_of wants).known q ≡ option_and_then known_in v
known_is wants q v is = get-shown instances_total exact_instances known_in wants q ∙ ap (option_and_then known_in) is

-- why an Offer does not count, by its want
pub unwanted : (offer : ReceivedOffer) (now : ℕ) (wants : WantMap) → finite.get wants offer.instance ≡ None → uncounted offer now (seek_of wants) ≡ Some Unwanted
unwanted offer now wants none =
    ap (λ v. offer_refusal v (known_at now (finite.get (seek_of wants).known offer.instance)) offer) (wanted_is wants offer.instance None none)

pub uncounted_is : (offer : ReceivedOffer) (now : ℕ) (wants : WantMap) (w : Want) → finite.get wants offer.instance ≡ Some w
    → uncounted offer now (seek_of wants) ≡ offer_refusal (Some w.major) (known_at now w.known) offer
uncounted_is offer now wants w some =
    ap (λ v. offer_refusal v (known_at now (finite.get (seek_of wants).known offer.instance)) offer) (wanted_is wants offer.instance (Some w) some)
    ∙ ap (λ v. offer_refusal (Some w.major) (known_at now v) offer) (known_is wants offer.instance (Some w) some)

-- whether a StopOffer ends an offer, by its want
pub stopped_is : (instance : InstanceId) (major : ℕ) (peer : Ipv4Addr) (now : ℕ) (wants : WantMap) (v : Option Want) → finite.get wants instance ≡ v
    → is_stopped instance major peer now (seek_of wants) ≡ (is_wanted major (option_and_then major_of v) && option_map_or (stands_by peer now) (option_and_then known_in v) false)
stopped_is instance major peer now wants v is =
    ap (λ x. is_wanted major x && option_map_or (stands_by peer now) (finite.get (seek_of wants).known instance) false) (wanted_is wants instance v is)
    ∙ ap (λ x. is_wanted major (option_and_then major_of v) && option_map_or (stands_by peer now) x false) (known_is wants instance v is)

-- ---- a want is put in

-- of which nothing is known
pub added : (wants : WantMap) (k : InstanceId) (major : ℕ) → seek_of (finite.insert wants k (record { major = major; known = None; finding = None })) ≡ record {
  wanted = finite.insert (seek_of wants).wanted k major;
  known = finite.remove (seek_of wants).known k;
  finding = finite.remove (seek_of wants).finding k;
}
added wants k major = λ i. record {
  wanted = shown-insert instances_total exact_instances major_of wants k (record { major = major; known = None; finding = None }) major refl i;
  known = shown-insert_none instances_total exact_instances known_in wants k (record { major = major; known = None; finding = None }) refl i;
  finding = shown-insert_none instances_total exact_instances finding_in wants k (record { major = major; known = None; finding = None }) refl i;
}

-- whose offer is known
pub found : (wants : WantMap) (k : InstanceId) (w : Want) (lasting : Lasting KnownOffer) → finite.get wants k ≡ Some w
    → seek_of (finite.insert wants k (record { major = w.major; known = Some lasting; finding = None })) ≡ record {
      wanted = (seek_of wants).wanted;
      known = finite.insert (seek_of wants).known k lasting;
      finding = finite.remove (seek_of wants).finding k;
    }
found wants k w lasting some = λ i. record {
  wanted = shown-insert_same instances_total exact_instances major_of wants k (record { major = w.major; known = Some lasting; finding = None }) w some refl i;
  known = shown-insert instances_total exact_instances known_in wants k (record { major = w.major; known = Some lasting; finding = None }) lasting refl i;
  finding = shown-insert_none instances_total exact_instances finding_in wants k (record { major = w.major; known = Some lasting; finding = None }) refl i;
}

-- whose offer ended
pub lost : (wants : WantMap) (k : InstanceId) (w : Want) → finite.get wants k ≡ Some w
    → seek_of (finite.insert wants k (record { major = w.major; known = None; finding = w.finding })) ≡ record {
      wanted = (seek_of wants).wanted;
      known = finite.remove (seek_of wants).known k;
      finding = (seek_of wants).finding;
    }
lost wants k w some = λ i. record {
  wanted = shown-insert_same instances_total exact_instances major_of wants k (record { major = w.major; known = None; finding = w.finding }) w some refl i;
  known = shown-insert_none instances_total exact_instances known_in wants k (record { major = w.major; known = None; finding = w.finding }) refl i;
  finding = shown-insert_same instances_total exact_instances finding_in wants k (record { major = w.major; known = None; finding = w.finding }) w some refl i;
}

-- an offer is known only of an instance that is wanted
pub knows_wanted : (wants : WantMap) → KnowsWanted (seek_of wants)
knows_wanted wants instance none =
    get-shown instances_total exact_instances known_in wants instance
    ∙ cases (finite.get wants instance) (sym (get-shown instances_total exact_instances major_of wants instance) ∙ none)
  where
    cases : (v : Option Want) → option_and_then major_of v ≡ None → option_and_then known_in v ≡ None
    cases None is = refl
    cases (Some w) is = absurd (cc)
