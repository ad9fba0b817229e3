-- What the writer sends.
use Rattle.std.proofs.Common.{◌≡◌, ℕ, ◌<◌, ◌^◌, Bool, true, false, cond, List, [], ◌∷◌, ◌++◌, length, Option, sym, ap, subst, ◌∙◌, append-nil, arith}
use Rattle.recording.specs.declared.number.ByteOrder.TheVariants.{Little}
use Rattle.recording.specs.Captured.{RecordValue}
use Rattle.recording.specs.Spelling.{SpelledBlock, block_bytes, blocks_bytes}
use Rattle.someipctl_io.specs.Sending.{Stops}
use Rattle.someipctl_io.proofs.SendingLemmas.{Sends-nil, Stops-before}
use Rattle.recording_writing.specs.Blocks.{interface_block, number_of, is_new, is_too_long, packet_block, description, blocks_for}
use Rattle.recording_writing.specs.Files.{AreLinkTypes}
use Rattle.recording_writing.proofs.LinkLemmas.{number_of-le, pushed, most}

-- nothing of a text is sent
pub Stops-none : (a : Option (List ℕ)) (held text : List ℕ) → Stops a held a text
Stops-none a held text = Stops-before a a held [] text (record { unsent = held; sends = Sends-nil a held })

-- ---- the link types

-- one more or not, they are link types
pub pushed_types : (ok : Bool) (items after : List ℕ) (link : ℕ) → link < 2 ^ 16 → AreLinkTypes items → number_of items link ≡ length items → after ≡ cond ok (items ++ link ∷ []) items → AreLinkTypes after
pushed_types true items after link fits are new is = subst AreLinkTypes (sym is) (pushed items link fits are new)
pushed_types false items after link fits are new is = subst AreLinkTypes (sym is) are

pub number_fits : (links : List ℕ) (link number : ℕ) → AreLinkTypes links → number ≡ number_of links link → number < 2 ^ 32
number_fits links link number are is = omega (arith, is, number_of-le links link, most links are)

-- ---- the bytes

pub described_bytes : (links : List ℕ) (link : ℕ) → is_new links link ≡ true → block_bytes Little (interface_block link) ≡ blocks_bytes Little (description links link)
described_bytes links link is =
    sym (append-nil (block_bytes Little (interface_block link))) ∙ ap (λ (new : Bool). blocks_bytes Little (cond new (interface_block link ∷ []) [])) (sym is)

bytes_as : (new : Bool) (link : ℕ) (b : SpelledBlock) → blocks_bytes Little (cond new (interface_block link ∷ []) []) ++ block_bytes Little b ≡ blocks_bytes Little (cond new (interface_block link ∷ []) [] ++ b ∷ [])
bytes_as true link b =
    let front = block_bytes Little (interface_block link) in
    ap (λ (t : List ℕ). t ++ block_bytes Little b) (append-nil front) ∙ ap (λ (t : List ℕ). front ++ t) (sym (append-nil (block_bytes Little b)))
bytes_as false link b = sym (append-nil (block_bytes Little b))

pub written_bytes : (links : List ℕ) (k : RecordValue) (number : ℕ) → number ≡ number_of links k.link → is_too_long number k ≡ false
    → blocks_bytes Little (description links k.link) ++ block_bytes Little (packet_block number k) ≡ blocks_bytes Little (blocks_for links k)
written_bytes links k number is short =
    let same : is_too_long (number_of links k.link) k ≡ false = subst (λ n. is_too_long n k ≡ false) is short in
    bytes_as (is_new links k.link) k.link (packet_block number k)
    ∙ ap (λ n. blocks_bytes Little (description links k.link ++ packet_block n k ∷ [])) is
    ∙ ap (λ (long : Bool). blocks_bytes Little (cond long [] (description links k.link ++ packet_block (number_of links k.link) k ∷ []))) (sym same)
