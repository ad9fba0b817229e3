-- Each file that begins with the type of the head of a section is blocks and an end.
use Rattle.std.proofs.Common.{◌≡◌, ◌≢◌, ℕ, zero, suc, ◌+◌, ◌-◌, ◌%◌, ◌≤◌, Bool, true, false, cond, not, ltb, eqb, List, [], ◌∷◌, ◌++◌, length, get_or, drop, Option, Some, None, refl, sym, ap, subst, ◌∙◌, append_assoc, arith, inl, inr}
use Rattle.std.specs.Option.{option_or}
use Rattle.std.specs.Prelude.{slice_range}
use Rattle.std.specs.Int.{w32, to_be_bytes}
use Rattle.std.specs.List.{AllByRecursion}
use Rattle.std.proofs.lemmas.Bool.{cases_lt, ltb-false, eqb-true, eqb-false}
use Rattle.std.proofs.lemmas.List.{length-append, length-drop}
use Rattle.std.proofs.lemmas.List.Folds.{drop_split}
use Rattle.std.proofs.lemmas.Nat.{be_bytes_4}
use Rattle.recording.specs.declared.error.RecordingError.{RecordingError}
use Rattle.recording.specs.declared.error.RecordingError.TheVariants.{Truncated, BadOrder, BlockLength}
use Rattle.recording.specs.declared.number.ByteOrder.{ByteOrder}
use Rattle.recording.specs.declared.number.ByteOrder.TheVariants.{Big, Little}
use Rattle.recording.specs.Numbers.{number32}
use Rattle.recording.specs.Blocks.{kind_of, block_kind, magic_order, block_order, block_fault}
use Rattle.recording.specs.Spelling.{IsBytes, bytes32, SpelledBlock, head, plain, order_by, framed, block_bytes, BlockFits, blocks_bytes, last_order, BlocksEndAt, IsBlocks}
use Rattle.recording.proofs.FieldSpelling.{IsBytes-drop, IsBytes-range, length-range, spells32, number32-fits}
use Rattle.recording.proofs.ClassicSpelling.{length-bytes32}
use Rattle.recording.proofs.BlockSpelling.{flat, plain_order}

-- ---- the frame of a block

-- the block at the front is whole, and the numbers have this order
pub record IsWhole (o own : ByteOrder) (bytes : List ℕ) : Type 0 where
  pub least : 12 ≤ length bytes
  pub order_is : block_order o (block_kind o bytes) bytes ≡ Some own
  pub total : 12 ≤ number32 own bytes 4
  pub groups : number32 own bytes 4 % 4 ≡ 0
  pub whole : number32 own bytes 4 ≤ length bytes
  pub closing : number32 own bytes (number32 own bytes 4 - 4) ≡ number32 own bytes 4

-- no fault of the lengths, by what is tried one after the other
lengths : (o own : ByteOrder) (bytes : List ℕ) (one other : RecordingError) (a b d e f : Bool) → block_order o (block_kind o bytes) bytes ≡ Some own
    → ltb (length bytes) 12 ≡ a → ltb (number32 own bytes 4) 12 ≡ b → eqb (number32 own bytes 4 % 4) 0 ≡ d → ltb (length bytes) (number32 own bytes 4) ≡ e
    → eqb (number32 own bytes (number32 own bytes 4 - 4)) (number32 own bytes 4) ≡ f
    → option_or (cond a (Some one) (cond b (Some other) (cond (not d) (Some other) None))) (cond e (Some one) (cond (not f) (Some other) None)) ≡ None
    → IsWhole o own bytes
lengths o own bytes one other true b d e f order is_a is_b is_d is_e is_f none = absurd cc
lengths o own bytes one other false true d e f order is_a is_b is_d is_e is_f none = absurd cc
lengths o own bytes one other false false false e f order is_a is_b is_d is_e is_f none = absurd cc
lengths o own bytes one other false false true true f order is_a is_b is_d is_e is_f none = absurd cc
lengths o own bytes one other false false true false false order is_a is_b is_d is_e is_f none = absurd cc
lengths o own bytes one other false false true false true order is_a is_b is_d is_e is_f none = record {
  least = ltb-false _ _ is_a;
  order_is = order;
  total = ltb-false _ _ is_b;
  groups = eqb-true _ _ is_d;
  whole = ltb-false _ _ is_e;
  closing = eqb-true _ _ is_f;
}

either : (short : Bool) (p : ℕ) (others : Option RecordingError) → option_or (cond short (Some (Truncated p)) (Some (BadOrder p))) others ≡ None → ⊥
either true p others is = absurd cc
either false p others is = absurd cc

pub none_is_whole : (o : ByteOrder) (p : ℕ) (bytes : List ℕ) → block_fault o p bytes ≡ None → (own : ByteOrder) × IsWhole o own bytes
none_is_whole o p bytes h =
    let P : Option ByteOrder → Type 0 = λ q. block_order o (block_kind o bytes) bytes ≡ q → (own : ByteOrder) × IsWhole o own bytes in
    (elim (block_order o (block_kind o bytes) bytes) as P [
      | None ↦ λ is. absurd (either (ltb (length bytes) 12) p _ (rw is at h))
      | Some own ↦ λ is. (own, lengths o own bytes (Truncated p) (BlockLength p) _ _ _ _ _ is refl refl refl refl refl (rw is at h))
    ]) refl

-- a body between its type and its lengths
frame_spells : (own : ByteOrder) (n : ℕ) (body bytes : List ℕ) → IsBytes bytes → 12 ≤ length bytes → 12 ≤ number32 own bytes 4 → number32 own bytes 4 ≤ length bytes
    → number32 own bytes (number32 own bytes 4 - 4) ≡ number32 own bytes 4 → 12 + length body ≡ number32 own bytes 4
    → body ++ drop (number32 own bytes 4 - 4) bytes ≡ drop 8 bytes
    → ((xs : List ℕ) → xs ≡ drop 4 bytes → bytes32 own n ++ xs ≡ bytes)
    → bytes ≡ framed own n body ++ drop (number32 own bytes 4) bytes
frame_spells own n body bytes fits long least whole closing size is_body is_number =
    let total = number32 own bytes 4 in
    let at : total - 4 + 4 ≡ total = omega (arith, least) in
    let last : bytes32 own (12 + length body) ++ drop total bytes ≡ drop (total - 4) bytes =
    spells32 own bytes (drop total bytes) (total - 4) (12 + length body) fits (omega (arith, least, whole)) (size ∙ sym closing) (ap (λ k. drop k bytes) (sym at)) in
    let held : body ++ (bytes32 own (12 + length body) ++ drop total bytes) ≡ drop 8 bytes = ap (λ (t : List ℕ). body ++ t) last ∙ is_body in
    let first : bytes32 own (12 + length body) ++ (body ++ (bytes32 own (12 + length body) ++ drop total bytes)) ≡ drop 4 bytes =
    spells32 own bytes _ 4 (12 + length body) fits (omega (arith, long)) size held in
    sym (flat own n body (drop total bytes) ∙ is_number _ first)

-- ---- the head of a section

section_type : (o own : ByteOrder) → bytes32 own 0x0a0d0d0a ≡ bytes32 o 0x0a0d0d0a
section_type Big Big = refl
section_type Big Little = refl
section_type Little Big = refl
section_type Little Little = refl

-- the number that, the highest byte first, stands where the byte-order magic of an order does
abbrev seen_magic : ByteOrder → ℕ
seen_magic Big = 0x1a2b3c4d
seen_magic Little = 0x4d3c2b1a

magic_bytes : (own : ByteOrder) → bytes32 own 0x1a2b3c4d ≡ bytes32 Big (seen_magic own)
magic_bytes Big = refl
magic_bytes Little = refl

magic_told : (n : ℕ) (own : ByteOrder) (a b : Bool) → eqb n 0x1a2b3c4d ≡ a → eqb n 0x4d3c2b1a ≡ b → cond a (Some Big) (cond b (Some Little) None) ≡ Some own → n ≡ seen_magic own
magic_told n own true b is_a is_b is = let same : Big ≡ own = cc in rw (← same) (eqb-true _ _ is_a)
magic_told n own false true is_a is_b is = let same : Little ≡ own = cc in rw (← same) (eqb-true _ _ is_b)
magic_told n own false false is_a is_b is = absurd cc

-- ---- a block

-- the block at the front, and what stands after it
record IsFront (o : ByteOrder) (bytes : List ℕ) : Type 0 where
  pub block : SpelledBlock
  pub rest : List ℕ
  pub is : bytes ≡ block_bytes o block ++ rest
  pub fits : BlockFits block
  pub rest_fits : IsBytes rest
  pub shorter : 12 + length rest ≤ length bytes

plain_front : (o : ByteOrder) (bytes : List ℕ) → IsBytes bytes → number32 o bytes 0 ≢ 0x0a0d0d0a → (own : ByteOrder) → IsWhole o own bytes → o ≡ own → IsFront o bytes
plain_front o bytes fits told own w same =
    let v : IsWhole o o bytes = subst (λ q. IsWhole o q bytes) (sym same) w in
    let total = number32 o bytes 4 in
    let n = number32 o bytes 0 in
    let body = slice_range bytes 8 (total - 4) in
    let size : 12 + length body ≡ total = omega (arith, length-range bytes 8 (total - 4) (omega (arith, v.whole)), v.total) in
    record {
      block = plain n body;
      rest = drop total bytes;
      is = frame_spells o n body bytes fits v.least v.total v.whole v.closing size (sym (drop_split bytes 8 (total - 4) (omega (arith, v.total))))
          (λ xs is. spells32 o bytes xs 0 n fits (omega (arith, v.least)) refl is);
      fits = record {
        number = number32-fits o bytes 0 fits;
        len = omega (arith, size, number32-fits o bytes 4 fits);
        padded = omega (arith, size, v.groups);
        told = told;
      };
      rest_fits = IsBytes-drop total bytes fits;
      shorter = omega (arith, length-drop total bytes, v.total, v.whole);
    }

-- four bytes are not both the byte-order magic of an order and the number 12 in it
clash : (own : ByteOrder) (xs bytes : List ℕ) → bytes32 Big (seen_magic own) ++ xs ≡ bytes → bytes32 own 12 ++ xs ≡ bytes → ⊥
clash Big xs bytes one other = let same : 0x4d ≡ 12 = ap (λ (t : List ℕ). get_or t 3 0) (one ∙ sym other) in omega (arith, same)
clash Little xs bytes one other = let same : 0x4d ≡ 12 = ap (λ (t : List ℕ). get_or t 0 0) (one ∙ sym other) in omega (arith, same)

-- the head of a section has room for its byte-order magic: without it, that would be its length
head_more : (o own : ByteOrder) (bytes : List ℕ) → IsBytes bytes → IsWhole o own bytes → number32 Big bytes 8 ≡ seen_magic own → 16 ≤ number32 own bytes 4
head_more o own bytes fits w magic =
    let total = number32 own bytes 4 in
    elim (cases_lt total 16) [
      | inr le ↦ le
      | inl lt ↦
          let twelve : total ≡ 12 = omega (arith, lt, w.total, w.groups) in
          let eight : total - 4 ≡ 8 = omega (arith, twelve) in
          let closing : number32 own bytes 8 ≡ 12 = ap (number32 own bytes) (sym eight) ∙ w.closing ∙ twelve in
          absurd
          (clash own (drop 12 bytes) (drop 8 bytes) (spells32 Big bytes (drop 12 bytes) 8 (seen_magic own) fits (omega (arith, w.least)) (sym magic) refl)
          (spells32 own bytes (drop 12 bytes) 8 12 fits (omega (arith, w.least)) (sym closing) refl))
    ]

head_front : (o own : ByteOrder) (bytes : List ℕ) → IsBytes bytes → number32 o bytes 0 ≡ 0x0a0d0d0a → number32 Big bytes 8 ≡ seen_magic own → IsWhole o own bytes → IsFront o bytes
head_front o own bytes fits number magic w =
    let total = number32 own bytes 4 in
    let first = slice_range bytes 12 (total - 4) in
    let body = bytes32 own 0x1a2b3c4d ++ first in
    let own_len = length-bytes32 own 0x1a2b3c4d in
    let more : 16 ≤ total = head_more o own bytes fits w magic in
    let size : 12 + length body ≡ total = omega (arith, own_len, length-append (bytes32 own 0x1a2b3c4d) first, length-range bytes 12 (total - 4) (omega (arith, w.whole)), more) in
    let behind : first ++ drop (total - 4) bytes ≡ drop 12 bytes = sym (drop_split bytes 12 (total - 4) (omega (arith, more))) in
    let held : body ++ drop (total - 4) bytes ≡ drop 8 bytes =
    append_assoc (bytes32 own 0x1a2b3c4d) first (drop (total - 4) bytes)
    ∙ ap (λ (t : List ℕ). t ++ (first ++ drop (total - 4) bytes)) (magic_bytes own)
    ∙ spells32 Big bytes (first ++ drop (total - 4) bytes) 8 (seen_magic own) fits (omega (arith, w.least)) (sym magic) behind in
    record {
      block = head own first;
      rest = drop total bytes;
      is = frame_spells own 0x0a0d0d0a body bytes fits w.least w.total w.whole w.closing size held
          (λ xs is. ap (λ (t : List ℕ). t ++ xs) (section_type o own) ∙ spells32 o bytes xs 0 0x0a0d0d0a fits (omega (arith, w.least)) (sym number) is);
      fits = record {
        number = omega arith;
        len = omega (arith, size, number32-fits own bytes 4 fits);
        padded = omega (arith, size, w.groups);
        told = tt;
      };
      rest_fits = IsBytes-drop total bytes fits;
      shorter = omega (arith, length-drop total bytes, w.total, w.whole);
    }

front_of : (o : ByteOrder) (p : ℕ) (bytes : List ℕ) → IsBytes bytes → block_fault o p bytes ≡ None → IsFront o bytes
front_of o p bytes fits none =
    let whole = none_is_whole o p bytes none in
    let own = whole.0 in
    let w = whole.1 in
    let n = number32 o bytes 0 in
    let P : Bool → Type 0 = λ is_head. eqb n 0x0a0d0d0a ≡ is_head → IsFront o bytes in
    (elim (eqb n 0x0a0d0d0a) as P [
      | true ↦ λ is.
          let number : n ≡ 0x0a0d0d0a = eqb-true _ _ is in
          let order : magic_order (number32 Big bytes 8) ≡ Some own = sym (ap (λ k. block_order o (kind_of k) bytes) number) ∙ w.order_is in
          head_front o own bytes fits number (magic_told (number32 Big bytes 8) own _ _ refl refl order) w
      | false ↦ λ is.
          let told : n ≢ 0x0a0d0d0a = eqb-false _ _ is in
          let both : Some o ≡ Some own = sym (plain_order o n bytes told) ∙ w.order_is in
          let same : o ≡ own = cc in
          plain_front o bytes fits told own w same
    ]) refl

-- ---- the blocks

record IsSplit (o : ByteOrder) (p : ℕ) (bytes : List ℕ) : Type 0 where
  pub blocks : List SpelledBlock
  pub end : Option RecordingError
  pub rest : List ℕ
  pub is : bytes ≡ blocks_bytes o blocks ++ rest
  pub fits : AllByRecursion BlockFits blocks
  pub ends : BlocksEndAt (last_order o blocks) (p + length (blocks_bytes o blocks)) rest end

split_more : (o : ByteOrder) (p : ℕ) (b : SpelledBlock) (bytes others : List ℕ) → BlockFits b → bytes ≡ block_bytes o b ++ others
    → IsSplit (order_by o b) (p + length (block_bytes o b)) others → IsSplit o p bytes
split_more o p b bytes others fits is s = record {
  blocks = b ∷ s.blocks;
  end = s.end;
  rest = s.rest;
  is = is ∙ ap (λ (t : List ℕ). block_bytes o b ++ t) s.is ∙ sym (append_assoc (block_bytes o b) (blocks_bytes (order_by o b) s.blocks) s.rest);
  fits = (fits, s.fits);
  ends = subst (λ q. BlocksEndAt (last_order (order_by o b) s.blocks) q s.rest s.end) (omega (arith, length-append (block_bytes o b) (blocks_bytes (order_by o b) s.blocks))) s.ends;
}

split_within : (n : ℕ) (o : ByteOrder) (p : ℕ) (bytes : List ℕ) → length bytes ≤ n → IsBytes bytes → IsSplit o p bytes
split_within n o p [] le fits = record { blocks = []; end = None; rest = []; is = refl; fits = tt; ends = refl }
split_within zero o p (b ∷ bytes) le fits = absurd (omega (arith, le))
split_within (suc n) o p (b ∷ bytes) le fits =
    let P : Option RecordingError → Type 0 = λ q. block_fault o p (b ∷ bytes) ≡ q → IsSplit o p (b ∷ bytes) in
    (elim (block_fault o p (b ∷ bytes)) as P [
      | Some e ↦ λ is. record {
        blocks = [];
        end = Some e;
        rest = b ∷ bytes;
        is = refl;
        fits = tt;
        ends = ((λ no. cc), ap (λ q. block_fault o q (b ∷ bytes)) (omega arith) ∙ is);
      }
      | None ↦ λ is.
          let f = front_of o p (b ∷ bytes) fits is in
          split_more o p f.block (b ∷ bytes) f.rest f.fits f.is
          (split_within n (order_by o f.block) (p + length (block_bytes o f.block)) f.rest (omega (arith, f.shorter, le)) f.rest_fits)
    ]) refl

-- ---- the file

pub blocks_are_split : (file : List ℕ) → IsBytes file → 12 ≤ length file → number32 Big file 0 ≡ 0x0a0d0d0a
    → (blocks : List SpelledBlock) × (end : Option RecordingError) × IsBlocks blocks end file
blocks_are_split file fits long is =
    let s = split_within (length file) Big 0 file (omega arith) fits in
    let four : length (slice_range file 0 4) ≡ 4 = omega (arith, length-range file 0 4 (omega (arith, long))) in
    let begins : to_be_bytes w32 0x0a0d0d0a ≡ slice_range file 0 4 = be_bytes_4 (slice_range file 0 4) 0x0a0d0d0a four (IsBytes-range file 0 4 fits) (sym is) in (
      s.blocks,
      s.end,
      record {
        rest = s.rest;
        is = s.is;
        begins = sym begins;
        long = long;
        blocks_fit = s.fits;
        ends = subst (λ q. BlocksEndAt (last_order Big s.blocks) q s.rest s.end) (omega arith) s.ends;
      },
    )
