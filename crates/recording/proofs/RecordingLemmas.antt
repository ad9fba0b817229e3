-- What a file holds, by what it is.
use Rattle.std.proofs.Common.{◌≡◌, ℕ, Bool, true, false, cond, ltb, eqb, List, length, Option, Some, None, Result, Ok, Err, refl, sym, ap, ◌∙◌, inl, inr}
use Rattle.std.proofs.lemmas.Bool.{ltb-false, eqb-true}
use Rattle.recording.specs.declared.error.RecordingError.{RecordingError}
use Rattle.recording.specs.declared.number.ByteOrder.TheVariants.{Big}
use Rattle.recording.specs.declared.classic.Classic.{Classic}
use Rattle.recording.specs.declared.format.Format.TheVariants.{Blocks}
use Rattle.recording.specs.Numbers.{number32}
use Rattle.recording.specs.Classic.{classic_in}
use Rattle.recording.specs.Records.{Item, classic_format, items_behind, items_of}
use Rattle.recording.specs.Spelling.{IsBytes, IsRecording}
use Rattle.recording.proofs.ClassicSpelling.{classic_is_read}
use Rattle.recording.proofs.ClassicSplit.{classic_is_split}
use Rattle.recording.proofs.BlockSpelling.{blocks_are_read}
use Rattle.recording.proofs.BlockSplit.{blocks_are_split}

-- what a recording holds is read
pub recording_read : (items : List Item) (file : List ℕ) → IsRecording items file → items_of file ≡ Ok items
recording_read items file (inl r) = classic_is_read r.0 r.1 r.2 file r.3 ∙ ap (λ (t : List Item). Ok t) (sym r.4)
recording_read items file (inr r) = blocks_are_read r.0 r.1 file r.2 ∙ ap (λ (t : List Item). Ok t) (sym r.3)

same_items : (r : Result (List Item) RecordingError) (one other : List Item) → r ≡ Ok one → r ≡ Ok other → one ≡ other
same_items r one other is_one is_other = let same : Ok one ≡ Ok other = sym is_one ∙ is_other in cc

found : (items : List Item) (file : List ℕ) (a b d : Bool) (q : Option Classic) → IsBytes file → items_of file ≡ Ok items
    → ltb (length file) 12 ≡ a → eqb (number32 Big file 0) 0x0a0d0d0a ≡ b → ltb (length file) 24 ≡ d → classic_in file ≡ q
    → items_behind file (cond a None (cond b (Some (Blocks Big, 0)) (cond d None (classic_format q)))) ≡ Ok items → IsRecording items file
found items file true b d q fits read is_a is_b is_d is_q is = absurd cc
found items file false true d q fits read is_a is_b is_d is_q is =
    let s = blocks_are_split file fits (ltb-false _ _ is_a) (eqb-true _ _ is_b) in
    inr (s.0, s.1, s.2, same_items (items_of file) items _ read (blocks_are_read s.0 s.1 file s.2))
found items file false false true q fits read is_a is_b is_d is_q is = absurd cc
found items file false false false None fits read is_a is_b is_d is_q is = absurd cc
found items file false false false (Some c) fits read is_a is_b is_d is_q is =
    let s = classic_is_split c file fits (ltb-false _ _ is_d) is_q in
    inl (c, s.0, s.1, s.2, same_items (items_of file) items _ read (classic_is_read c s.0 s.1 file s.2))

-- what is read is what a recording holds
pub recording_found : (items : List Item) (file : List ℕ) → IsBytes file → items_of file ≡ Ok items → IsRecording items file
recording_found items file fits read = found items file _ _ _ _ fits read refl refl refl refl read

-- a file that is not read is no recording
pub recording_none : (items : List Item) (file : List ℕ) (e : RecordingError) → items_of file ≡ Err e → IsRecording items file → ⊥
recording_none items file e bad r = let same : Err e ≡ Ok items = sym bad ∙ recording_read items file r in cc

pub recording_only : (left items : List Item) (file : List ℕ) → items_of file ≡ Ok left → IsRecording items file → left ≡ items
recording_only left items file read r = same_items (items_of file) left items read (recording_read items file r)

-- a file is a recording in one way at most
pub recording_same : (items others : List Item) (file : List ℕ) → IsRecording items file → IsRecording others file → items ≡ others
recording_same items others file r s = same_items (items_of file) items others (recording_read items file r) (recording_read others file s)
