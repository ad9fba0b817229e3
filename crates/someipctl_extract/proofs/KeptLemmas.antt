-- Where the packets of an IPv4 packet stand.
use Rattle.std.proofs.Common.{◌≡◌, ℕ, suc, ◌<◌, ◌≤◌, nat_lt, Bool, true, false, cond, List, [], ◌∷◌, ◌++◌, length, filter, get_or, Some, refl, sym, ap, subst, ◌∙◌, arith}
use Rattle.std.proofs.Math.ListN.{set}
use Rattle.std.proofs.Math.Seq.{get_or-append_seam, set-append_seam}
use Rattle.std.proofs.lemmas.Bool.Decides.{nat_tests}
use Rattle.std.proofs.lemmas.List.{get_or-set_same, set-set}
use Rattle.std.specs.List.{remove}
use Rattle.recording.specs.Captured.{RecordValue}
use Rattle.recording_packets.specs.declared.fragments.PacketKey.{PacketKey}
use Rattle.recording_packets.specs.fragments.Parts.{Part}
use Rattle.recording_packets.specs.fragments.Pieces.{same_key}
use Rattle.someipctl_extract.specs.Kept.{PartValue, begun, cleaned, is_held, joined, packets_under, place_of, put, without}

-- what follows where those of the IPv4 packet with a key stand here
pub record At (key : PacketKey) (kept : List PartValue) (place : ℕ) : Type 0 where
  pub gone : without key kept ≡ remove kept place
  pub under : (d : PartValue) → packets_under key kept ≡ (get_or kept place d).packets
  pub changed : (is_first : Bool) (r : RecordValue) (d : PartValue) → put key is_first r kept ≡ set kept place (joined (cond is_first (begun key) (get_or kept place d)) r)

pub at_place : (key : PacketKey) (kept : List PartValue) → place_of key kept < length kept → At key kept (place_of key kept)
at_place key [] within = absurd (omega (arith, within))
at_place key (part ∷ kept) within = cases (same_key key part.key) refl within (at_place key kept)
  where
    cases : (same : Bool) → same_key key part.key ≡ same → cond same 0 (suc (place_of key kept)) < suc (length kept) → (place_of key kept < length kept → At key kept (place_of key kept))
        → At key (part ∷ kept) (cond same 0 (suc (place_of key kept)))
    cases true is in_front rest = record { gone = rw is refl; under = λ d. rw is refl; changed = λ f r d. rw is refl }
    cases false is later rest =
        let h = rest (omega (arith, later)) in
        record { gone = rw is (ap (λ xs. part ∷ xs) h.gone); under = λ d. rw is (h.under d); changed = λ f r d. rw is (ap (λ xs. part ∷ xs) (h.changed f r d)) }

-- what follows where none are kept of it
pub record Nowhere (key : PacketKey) (kept : List PartValue) : Type 0 where
  pub gone : without key kept ≡ kept
  pub under : packets_under key kept ≡ Some []
  pub changed : (is_first : Bool) (r : RecordValue) → put key is_first r kept ≡ kept ++ joined (begun key) r ∷ []

pub nowhere : (key : PacketKey) (kept : List PartValue) → length kept ≤ place_of key kept → Nowhere key kept
nowhere key [] past = record { gone = refl; under = refl; changed = λ f r. refl }
nowhere key (part ∷ kept) past = cases (same_key key part.key) refl past (nowhere key kept)
  where
    cases : (same : Bool) → same_key key part.key ≡ same → suc (length kept) ≤ cond same 0 (suc (place_of key kept)) → (length kept ≤ place_of key kept → Nowhere key kept) → Nowhere key (part ∷ kept)
    cases true is none rest = absurd (omega (arith, none))
    cases false is none rest =
        let h = rest (omega (arith, none)) in
        record { gone = rw is (ap (λ xs. part ∷ xs) h.gone); under = rw is h.under; changed = λ f r. rw is (ap (λ xs. part ∷ xs) (h.changed f r)) }

-- ---- a packet more

-- with a packet at this place of what was made ready the IPv4 packet with the key has one more
abbrev pub IsReady : PacketKey → Bool → List PartValue → List PartValue → ℕ → Type 0
IsReady key is_first kept ready place = (r : RecordValue) (d : PartValue) → set ready place (joined (get_or ready place d) r) ≡ put key is_first r kept

-- a place behind all
pub ready_behind : (key : PacketKey) (is_first : Bool) (kept : List PartValue) → length kept ≡ place_of key kept → IsReady key is_first kept (kept ++ begun key ∷ []) (place_of key kept)
ready_behind key is_first kept is = λ r d.
    let none = nowhere key kept (omega (arith, is)) in
    subst (λ n. set (kept ++ begun key ∷ []) n (joined (get_or (kept ++ begun key ∷ []) n d) r) ≡ put key is_first r kept) is
    (rw (get_or-append_seam kept (begun key) [] d) (set-append_seam kept (begun key) [] (joined (begun key) r)) ∙ sym (none.changed is_first r))

-- that place, begun anew
pub ready_anew : (key : PacketKey) (kept : List PartValue) → place_of key kept < length kept → IsReady key true kept (set kept (place_of key kept) (begun key)) (place_of key kept)
ready_anew key kept within = λ r d.
    let is = at_place key kept within in
    rw (get_or-set_same kept (place_of key kept) (begun key) d within) (set-set kept (place_of key kept) (begun key) (joined (begun key) r)) ∙ sym (is.changed true r d)

-- that place
pub ready_there : (key : PacketKey) (kept : List PartValue) → place_of key kept < length kept → IsReady key false kept kept (place_of key kept)
ready_there key kept within = λ r d. sym ((at_place key kept within).changed false r d)

-- ---- what is no longer held

pub cleaned-many : (parts : List Part) (kept : List PartValue) → 128 < length kept → cleaned parts kept ≡ filter (is_held parts) kept
cleaned-many parts kept many = cases (nat_lt 128 (length kept)) refl
  where
    cases : (t : Bool) → nat_lt 128 (length kept) ≡ t → cond t (filter (is_held parts) kept) kept ≡ filter (is_held parts) kept
    cases true is = refl
    cases false is = absurd (grind (arith, nat_tests, is, many))
