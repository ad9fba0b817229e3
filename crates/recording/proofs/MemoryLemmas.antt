-- What is meant where memory ran out for the description of an interface.
use Rattle.std.proofs.Common.{◌≡◌, ◌≢◌, ℕ, ◌+◌, ◌<◌, ◌≤◌, Bool, false, cond, ltb, List, ◌++◌, length, drop, None, Ok, Err, Option, refl, ap, ◌∙◌, arith}
use Rattle.std.specs.Prelude.{unwrap_or, IsOk}
use Rattle.std.proofs.lemmas.Bool.{le-ltb}
use Rattle.std.proofs.lemmas.List.{length-append, drop-drop}
use Rattle.recording.specs.declared.error.RecordingError.{RecordingError}
use Rattle.recording.specs.declared.error.RecordingError.TheVariants.{NotRecording, Truncated, BadOrder, BlockLength, UnknownInterface, BlockTooLong, TooManyInterfaces, OutOfMemory}
use Rattle.recording.specs.declared.number.ByteOrder.{ByteOrder}
use Rattle.recording.specs.declared.block.BlockKind.{BlockKind}
use Rattle.recording.specs.declared.block.BlockKind.TheVariants as kinds
use Rattle.recording.specs.declared.format.Format.{Format}
use Rattle.recording.specs.declared.format.Format.TheVariants.{Classic, Blocks}
use Rattle.recording.specs.declared.interface.Interface.{Interface}
use Rattle.recording.specs.Numbers.{number32}
use Rattle.recording.specs.Blocks.{BlockValue, block_fault, block_in, total_len}
use Rattle.recording.specs.Sections.{least_body, meaning_by, meaning_of, interfaces_by, interfaces_after}
use Rattle.recording.specs.Records.{Item, part_len, part_meaning, section_after, DescribesInterface}
use Rattle.recording.specs.Held.{held_meaning, interface_limit, is_too_long}
use Rattle.recording.specs.HeldItems.{held_from}
use Rattle.recording.specs.Readers.{CanFollow, LacksMemory}
use Rattle.recording.specs.Steps.{OnMemory}
use Rattle.recording.proofs.BlockSplit.{none_is_whole}
use Rattle.recording.proofs.SectionLemmas.{blocks_meaning}
use Rattle.recording.proofs.FrontLemmas.{IsSame, held-meant, few, many}

whole_len : (o : ByteOrder) (p : ℕ) (bytes : List ℕ) → block_fault o p bytes ≡ None → part_len (Blocks o) bytes ≤ length bytes
whole_len o p bytes none =
    let w = none_is_whole o p bytes none in
    let is : total_len o bytes ≡ number32 w.0 bytes 4 = ap (λ own. number32 own bytes 4) (ap (λ (q : Option ByteOrder). unwrap_or q o) w.1.order_is) in
    omega (arith, is, w.1.total, w.1.whole)

described_block : (b : BlockValue) (before : List Interface) (p : ℕ) (kind : BlockKind) → b.kind ≡ kind → kind ≡ kinds.Interface → 8 ≤ length b.body
    → (meaning_of before p b ≡ Ok None) × (length (interfaces_after before b) ≡ length before + 1)
described_block b before p kind is described le = (
  ap (λ k. cond (ltb (length b.body) (least_body k)) (Err (BlockLength p)) (meaning_by k before p b)) (is ∙ described)
      ∙ ap (λ t. cond t (Err (BlockLength p)) (Ok None)) (le-ltb (length b.body) 8 le),
  ap (λ k. length (interfaces_by k before b)) (is ∙ described) ∙ length-append before _,
)

-- a description gives no record, has one interface, and is whole
pub described : (format : Format) (before : List Interface) (p : ℕ) (bytes : List ℕ) → DescribesInterface format p bytes
    → (part_meaning format before p bytes ≡ Ok None) × (length (section_after format before bytes) ≡ length before + 1) × (part_len format bytes ≤ length bytes)
described (Classic c) before p bytes d = absurd d
described (Blocks o) before p bytes d = (
  blocks_meaning o before p bytes (block_in o bytes) (Ok None) d.0 refl (described_block (block_in o bytes) before p _ refl d.1.0 d.1.1).0,
  (described_block (block_in o bytes) before p _ refl d.1.0 d.1.1).1,
  whole_len o p bytes d.0,
)

pub one_too_many : (format : Format) (before : List Interface) (p : ℕ) (held bytes : List ℕ) → IsSame format before p held bytes → is_too_long format held ≡ false
    → DescribesInterface format p held → interface_limit ≤ length before → held_meaning format before p bytes ≡ Err (TooManyInterfaces p)
one_too_many format before p held bytes s short d limit =
    let it = described format before p held d in
    held-meant format before p bytes (Ok None) (s.long ∙ short) (s.meaning ∙ it.0)
    ∙ many p _ None (omega (arith, limit, it.1, ap length (s.interfaces it.2)))

pub one_more : (format : Format) (before : List Interface) (p : ℕ) (held bytes : List ℕ) → IsSame format before p held bytes → is_too_long format held ≡ false
    → DescribesInterface format p held → length before < interface_limit → IsOk (held_meaning format before p bytes)
one_more format before p held bytes s short d fewer =
    let it = described format before p held d in
    let is : held_meaning format before p bytes ≡ Ok None =
    held-meant format before p bytes (Ok None) (s.long ∙ short) (s.meaning ∙ it.0) ∙ few p _ None (omega (arith, fewer, it.1, ap length (s.interfaces it.2))) in
    rw is refl

pub not_memory : (e : RecordingError) (P : Type 0) → e ≢ OutOfMemory → OnMemory e P
not_memory OutOfMemory P other = absurd (other refl)
not_memory (NotRecording q) P other = tt
not_memory (Truncated q) P other = tt
not_memory (BadOrder q) P other = tt
not_memory (BlockLength q) P other = tt
not_memory (UnknownInterface q) P other = tt
not_memory (BlockTooLong q) P other = tt
not_memory (TooManyInterfaces q) P other = tt

-- what is said where memory ran out gives this
pub on_memory : (e : RecordingError) (P Q : Type 0) → OnMemory e P → (P → Q) → OnMemory e Q
on_memory OutOfMemory P Q said gives = gives said
on_memory (NotRecording q) P Q said gives = tt
on_memory (Truncated q) P Q said gives = tt
on_memory (BadOrder q) P Q said gives = tt
on_memory (BlockLength q) P Q said gives = tt
on_memory (UnknownInterface q) P Q said gives = tt
on_memory (BlockTooLong q) P Q said gives = tt
on_memory (TooManyInterfaces q) P Q said gives = tt

-- what is lacked behind some bytes is lacked at their place, where the same is left
pub lacks-behind : (is_whole : Bool) (p n : ℕ) (held behind : List ℕ) (left inner : List ℕ → List Item) → behind ≡ drop n held
    → ((rest : List ℕ) → CanFollow is_whole rest → left rest ≡ inner rest) → LacksMemory is_whole (p + n) behind inner → LacksMemory is_whole p held left
lacks-behind is_whole p n held behind left inner is gives m =
    let place : (p + n) + m.len ≡ p + (n + m.len) = omega arith in
    let later : drop m.len behind ≡ drop (n + m.len) held = ap (drop m.len) is ∙ drop-drop m.len n held in
    record {
      format = m.format;
      interfaces = m.interfaces;
      len = n + m.len;
      describes = rw (place, later) at m.describes;
      fewer = m.fewer;
      same = λ rest follows. gives rest follows ∙ m.same rest follows
          ∙ ap (λ q. held_from m.format m.interfaces q (drop m.len behind ++ rest)) place
          ∙ ap (λ (b : List ℕ). held_from m.format m.interfaces (p + (n + m.len)) (b ++ rest)) later;
    }
