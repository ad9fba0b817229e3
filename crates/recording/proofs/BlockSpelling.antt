-- A file of pcapng is read as it is spelled.
use Rattle.std.proofs.Common.{◌≡◌, ◌≢◌, ℕ, ◌+◌, ◌-◌, ◌%◌, ◌^◌, ◌<◌, ◌≤◌, Bool, true, false, cond, ltb, eqb, List, [], ◌∷◌, ◌++◌, length, take, drop, Option, Some, None, Ok, Err, refl, sym, ap, subst, ◌∙◌, eq-eqb, append_assoc, arith}
use Rattle.std.specs.Prelude.{unwrap_or, slice_range}
use Rattle.std.specs.Int.{w32, from_be_bytes}
use Rattle.std.specs.List.{AllByRecursion}
use Rattle.std.proofs.lemmas.Bool.{le-ltb, ne_eqb}
use Rattle.std.proofs.lemmas.List.{take_at, drop_at, length-append}
use Rattle.recording.specs.declared.error.RecordingError.{RecordingError}
use Rattle.recording.specs.declared.number.ByteOrder.{ByteOrder}
use Rattle.recording.specs.declared.number.ByteOrder.TheVariants.{Big, Little}
use Rattle.recording.specs.declared.block.BlockKind.{BlockKind}
use Rattle.recording.specs.declared.block.BlockKind.TheVariants as kinds
use Rattle.recording.specs.declared.format.Format.TheVariants.{Blocks}
use Rattle.recording.specs.declared.interface.Interface.{Interface}
use Rattle.recording.specs.Numbers.{number32}
use Rattle.recording.specs.Blocks.{kind_of, block_kind, block_order, order_in, total_len, block_len, block_fault, block_in}
use Rattle.recording.specs.Sections.{meaning_of, interfaces_after}
use Rattle.recording.specs.Records.{Item, items_from, items_behind, items_of, format_of, items_after, or_fault, part_meaning, part_len, format_after, section_after}
use Rattle.recording.specs.Spelling.{bytes32, SpelledBlock, head, plain, order_by, number_by, body_by, framed, block_bytes, BlockFits, value_by, blocks_bytes, last_order, BlocksEndAt, IsBlocks, blocks_list}
use Rattle.recording.proofs.ItemLemmas.{items_from-nil, items_from-part}
use Rattle.recording.proofs.ClassicSpelling.{length-bytes32, number32-front, number32-at}

-- ---- the frame of a block

record IsFramed (o : ByteOrder) (body bytes rest : List ℕ) : Type 0 where
  pub len : length bytes ≡ 12 + length body + length rest
  pub total : number32 o bytes 4 ≡ 12 + length body
  pub closing : number32 o bytes (12 + length body - 4) ≡ 12 + length body
  pub held : slice_range bytes 8 (12 + length body - 4) ≡ body

-- the parts, one after the other
pub flat : (o : ByteOrder) (n : ℕ) (body rest : List ℕ)
    → framed o n body ++ rest ≡ bytes32 o n ++ (bytes32 o (12 + length body) ++ (body ++ (bytes32 o (12 + length body) ++ rest)))
flat o n body rest =
    let t = bytes32 o (12 + length body) in
    append_assoc (bytes32 o n) (t ++ (body ++ t)) rest
    ∙ ap (λ (s : List ℕ). bytes32 o n ++ s) (append_assoc t (body ++ t) rest ∙ ap (λ (s : List ℕ). t ++ s) (append_assoc body t rest))

framed_read : (o : ByteOrder) (n : ℕ) (body rest : List ℕ) → 12 + length body < 2 ^ 32 → IsFramed o body (framed o n body ++ rest) rest
framed_read o n body rest fits =
    let size = 12 + length body in
    let t = bytes32 o size in
    let front = bytes32 o n ++ (t ++ body) in
    let bytes = bytes32 o n ++ (t ++ (body ++ (t ++ rest))) in
    let ln = length-bytes32 o n in
    let lt = length-bytes32 o size in
    let split : bytes ≡ front ++ (t ++ rest) =
    ap (λ (s : List ℕ). bytes32 o n ++ s) (sym (append_assoc t body (t ++ rest))) ∙ sym (append_assoc (bytes32 o n) (t ++ body) (t ++ rest)) in
    let front_len : length front ≡ size - 4 = omega (arith, ln, lt, length-append (bytes32 o n) (t ++ body), length-append t body) in
    let after_eight : drop 8 bytes ≡ body ++ (t ++ rest) =
    ap (drop 8) (sym (append_assoc (bytes32 o n) t (body ++ (t ++ rest)))) ∙ drop_at (bytes32 o n ++ t) (body ++ (t ++ rest)) 8 (omega (arith, ln, lt, length-append (bytes32 o n) t)) in
    let own : take (size - 4 - 8) (drop 8 bytes) ≡ body = rw after_eight (take_at body (t ++ rest) _ (omega arith)) in
    let facts : IsFramed o body bytes rest = record {
      len = ap length split ∙ omega (arith, front_len, lt, length-append front (t ++ rest), length-append t rest);
      total = number32-at o (bytes32 o n) size (body ++ (t ++ rest)) 4 ln fits;
      closing = ap (λ (s : List ℕ). number32 o s (size - 4)) split ∙ number32-at o front size rest (size - 4) front_len fits;
      held = own;
    } in
    subst (λ s. IsFramed o body s rest) (sym (flat o n body rest)) facts

-- ---- the kind and the order

-- blocks of other types have the order of the section
others : (o : ByteOrder) (bytes : List ℕ) (a b c d : Bool)
    → block_order o (cond a kinds.Interface (cond b kinds.OldPacket (cond c kinds.SimplePacket (cond d kinds.EnhancedPacket kinds.Other)))) bytes ≡ Some o
others o bytes true b c d = refl
others o bytes false true c d = refl
others o bytes false false true d = refl
others o bytes false false false true = refl
others o bytes false false false false = refl

pub plain_order : (o : ByteOrder) (n : ℕ) (bytes : List ℕ) → n ≢ 0x0a0d0d0a → block_order o (kind_of n) bytes ≡ Some o
plain_order o n bytes told =
    let no : eqb n 0x0a0d0d0a ≡ false = ne_eqb _ _ told in
    rw no (others o bytes (eqb n 1) (eqb n 2) (eqb n 3) (eqb n 6))

head_kind : (o own : ByteOrder) (rest : List ℕ) → block_kind o (bytes32 own 0x0a0d0d0a ++ rest) ≡ kinds.Section
head_kind Big Big rest = refl
head_kind Big Little rest = refl
head_kind Little Big rest = refl
head_kind Little Little rest = refl

head_order : (o own : ByteOrder) (first rest : List ℕ) → block_order o kinds.Section (framed own 0x0a0d0d0a (bytes32 own 0x1a2b3c4d ++ first) ++ rest) ≡ Some own
head_order o Big first rest = refl
head_order o Little first rest = refl

kind_read : (o : ByteOrder) (b : SpelledBlock) (rest : List ℕ) → BlockFits b → block_kind o (block_bytes o b ++ rest) ≡ kind_of (number_by b)
kind_read o (head own first) rest fits =
    let body = bytes32 own 0x1a2b3c4d ++ first in
    ap (block_kind o) (flat own 0x0a0d0d0a body rest) ∙ head_kind o own _
kind_read o (plain n body) rest fits =
    ap (block_kind o) (flat o n body rest) ∙ ap kind_of (number32-front o n _ fits.number)

order_read : (o : ByteOrder) (b : SpelledBlock) (rest : List ℕ) → BlockFits b
    → block_order o (block_kind o (block_bytes o b ++ rest)) (block_bytes o b ++ rest) ≡ Some (order_by o b)
order_read o (head own first) rest fits =
    ap (λ k. block_order o k (block_bytes o (head own first) ++ rest)) (kind_read o (head own first) rest fits) ∙ head_order o own first rest
order_read o (plain n body) rest fits =
    ap (λ k. block_order o k (block_bytes o (plain n body) ++ rest)) (kind_read o (plain n body) rest fits) ∙ plain_order o n _ fits.told

-- ---- a block

record IsBlock (o own : ByteOrder) (kind : BlockKind) (body bytes rest : List ℕ) : Type 0 where
  pub kind_is : block_kind o bytes ≡ kind
  pub order_is : block_order o (block_kind o bytes) bytes ≡ Some own
  pub frame : IsFramed own body bytes rest
  pub padded : length body % 4 ≡ 0

block_read : (o : ByteOrder) (b : SpelledBlock) (rest : List ℕ) → BlockFits b → IsBlock o (order_by o b) (kind_of (number_by b)) (body_by b) (block_bytes o b ++ rest) rest
block_read o b rest fits = record {
  kind_is = kind_read o b rest fits;
  order_is = order_read o b rest fits;
  frame = framed_read (order_by o b) (number_by b) (body_by b) rest fits.len;
  padded = fits.padded;
}

order_in-spelled : (o own : ByteOrder) (kind : BlockKind) (body bytes rest : List ℕ) → IsBlock o own kind body bytes rest → order_in o bytes ≡ own
order_in-spelled o own kind body bytes rest h = ap (λ q. unwrap_or q o) h.order_is

total_len-spelled : (o own : ByteOrder) (kind : BlockKind) (body bytes rest : List ℕ) → IsBlock o own kind body bytes rest → total_len o bytes ≡ 12 + length body
total_len-spelled o own kind body bytes rest h = ap (λ q. number32 q bytes 4) (order_in-spelled o own kind body bytes rest h) ∙ h.frame.total

block_fault-spelled : (o own : ByteOrder) (kind : BlockKind) (body bytes rest : List ℕ) (p : ℕ) → IsBlock o own kind body bytes rest → block_fault o p bytes ≡ None
block_fault-spelled o own kind body bytes rest p h =
    let long : ltb (length bytes) 12 ≡ false = le-ltb _ _ (omega (arith, h.frame.len)) in
    let least : ltb (12 + length body) 12 ≡ false = le-ltb _ _ (omega arith) in
    let groups : eqb ((12 + length body) % 4) 0 ≡ true = eq-eqb _ _ (omega (arith, h.padded)) in
    let whole : ltb (length bytes) (12 + length body) ≡ false = le-ltb _ _ (omega (arith, h.frame.len)) in
    let same : eqb (12 + length body) (12 + length body) ≡ true = eq-eqb _ _ refl in
    rw (long, h.order_is, h.frame.total, least, groups, whole, h.frame.closing, same) refl

block_in-spelled : (o own : ByteOrder) (kind : BlockKind) (body bytes rest : List ℕ) → IsBlock o own kind body bytes rest
    → block_in o bytes ≡ record { kind = kind; order = own; body = body }
block_in-spelled o own kind body bytes rest h = rw (h.order_is, h.kind_is, h.frame.total, h.frame.held) refl

-- what is known of a block as it is spelled, in a section with these interfaces, and the bytes after it
pub record BlockStep (o : ByteOrder) (interfaces : List Interface) (b : SpelledBlock) (bytes others : List ℕ) : Type 0 where
  pub some : 0 < length bytes
  pub meaning : (p : ℕ) → part_meaning (Blocks o) interfaces p bytes ≡ meaning_of interfaces p (value_by o b)
  pub format_is : format_after (Blocks o) bytes ≡ Blocks (order_by o b)
  pub section : section_after (Blocks o) interfaces bytes ≡ interfaces_after interfaces (value_by o b)
  pub len : part_len (Blocks o) bytes ≡ 12 + length (body_by b)
  pub size : part_len (Blocks o) bytes ≡ length (block_bytes o b)
  pub behind : drop (part_len (Blocks o) bytes) bytes ≡ others

pub block_step : (o : ByteOrder) (interfaces : List Interface) (b : SpelledBlock) (others : List ℕ) → BlockFits b → BlockStep o interfaces b (block_bytes o b ++ others) others
block_step o interfaces b others fits =
    let own = order_by o b in
    let kind = kind_of (number_by b) in
    let body = body_by b in
    let bytes = block_bytes o b ++ others in
    let h = block_read o b others fits in
    let total = total_len-spelled o own kind body bytes others h in
    let is_value : block_in o bytes ≡ value_by o b = block_in-spelled o own kind body bytes others h in
    let size : block_len o bytes ≡ length (block_bytes o b) = omega (arith, total, h.frame.len, length-append (block_bytes o b) others) in
    record {
      some = omega (arith, h.frame.len);
      meaning = λ p. ap (λ f. or_fault f (meaning_of interfaces p (block_in o bytes))) (block_fault-spelled o own kind body bytes others p h) ∙ ap (meaning_of interfaces p) is_value;
      format_is = ap Blocks (order_in-spelled o own kind body bytes others h);
      section = ap (interfaces_after interfaces) is_value;
      len = omega (arith, total);
      size = size;
      behind = drop_at (block_bytes o b) others _ (sym size);
    }

-- ---- the blocks

-- the items at a block, with what is known of it
block_first : (o : ByteOrder) (interfaces : List Interface) (p : ℕ) (b : SpelledBlock) (bytes others : List ℕ) → BlockStep o interfaces b bytes others
    → items_from (Blocks o) interfaces p bytes
    ≡ items_after (meaning_of interfaces p (value_by o b)) (items_from (Blocks (order_by o b)) (interfaces_after interfaces (value_by o b)) (p + length (block_bytes o b)) others)
block_first o interfaces p b bytes others h =
    rw (← h.format_is, ← h.section, ← h.size, ← h.behind) (items_from-part (Blocks o) interfaces p bytes (meaning_of interfaces p (value_by o b)) h.some (h.meaning p))

blocks_read : (o : ByteOrder) (interfaces : List Interface) (p : ℕ) (blocks : List SpelledBlock) (end : Option RecordingError) (rest : List ℕ) → AllByRecursion BlockFits blocks
    → BlocksEndAt (last_order o blocks) (p + length (blocks_bytes o blocks)) rest end
    → items_from (Blocks o) interfaces p (blocks_bytes o blocks ++ rest) ≡ blocks_list o interfaces p blocks end
blocks_read o interfaces p [] None rest fits ends = ap (items_from (Blocks o) interfaces p) ends ∙ items_from-nil (Blocks o) interfaces p
blocks_read o interfaces p [] (Some e) [] fits ends = absurd (ends.0 refl)
blocks_read o interfaces p [] (Some e) (b ∷ rest) fits ends =
    let fault : block_fault o p (b ∷ rest) ≡ Some e = ap (λ q. block_fault o q (b ∷ rest)) (omega arith) ∙ ends.1 in
    items_from-part (Blocks o) interfaces p (b ∷ rest) (Err e) (omega arith) (ap (λ f. or_fault f (meaning_of interfaces p (block_in o (b ∷ rest)))) fault)
blocks_read o interfaces p (b ∷ blocks) end rest fits ends =
    let own = order_by o b in
    let later = interfaces_after interfaces (value_by o b) in
    let others = blocks_bytes own blocks ++ rest in
    let next : items_from (Blocks own) later (p + length (block_bytes o b)) others ≡ blocks_list own later (p + length (block_bytes o b)) blocks end =
    blocks_read own later (p + length (block_bytes o b)) blocks end rest fits.1
    (subst (λ q. BlocksEndAt (last_order own blocks) q rest end) (omega (arith, length-append (block_bytes o b) (blocks_bytes own blocks))) ends) in
    ap (items_from (Blocks o) interfaces p) (append_assoc (block_bytes o b) (blocks_bytes own blocks) rest)
    ∙ block_first o interfaces p b (block_bytes o b ++ others) others (block_step o interfaces b others fits.0)
    ∙ ap (items_after (meaning_of interfaces p (value_by o b))) next

-- ---- the file

-- a file that begins with the type of the head of a section is one of blocks
pub format_of-blocks : (file : List ℕ) → 12 ≤ length file → number32 Big file 0 ≡ 0x0a0d0d0a → format_of file ≡ Some (Blocks Big, 0)
format_of-blocks file long is =
    let some : ltb (length file) 12 ≡ false = le-ltb _ _ long in
    let section : eqb (number32 Big file 0) 0x0a0d0d0a ≡ true = eq-eqb _ _ is in
    rw (some, section) refl

pub format_of-spelled : (blocks : List SpelledBlock) (end : Option RecordingError) (file : List ℕ) → IsBlocks blocks end file → format_of file ≡ Some (Blocks Big, 0)
format_of-spelled blocks end file h = format_of-blocks file h.long (ap (from_be_bytes w32) h.begins)

pub blocks_are_read : (blocks : List SpelledBlock) (end : Option RecordingError) (file : List ℕ) → IsBlocks blocks end file
    → items_of file ≡ Ok (blocks_list Big [] 0 blocks end)
blocks_are_read blocks end file h =
    ap (items_behind file) (format_of-spelled blocks end file h)
    ∙ ap (λ (t : List ℕ). Ok (items_from (Blocks Big) [] 0 t)) h.is
    ∙ ap (λ (t : List Item). Ok t) (blocks_read Big [] 0 blocks end h.rest h.blocks_fit (subst (λ q. BlocksEndAt (last_order Big blocks) q h.rest end) (omega arith) h.ends))
