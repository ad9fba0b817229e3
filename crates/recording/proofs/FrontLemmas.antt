-- What the front of bytes tells does not depend on what follows it.
use Rattle.std.proofs.Common.{◌≡◌, ◌≢◌, ℕ, ◌+◌, ◌-◌, ◌%◌, ◌<◌, ◌≤◌, ◌⊎◌, Bool, true, false, cond, not, ◌&&◌, ltb, eqb, List, ◌++◌, length, take, drop, Option, Some, None, Ok, Err, refl, sym, ap, ◌∙◌, arith, inl, inr}
use Rattle.std.specs.Prelude.{slice_range, is_none, unwrap_or}
use Rattle.std.specs.Int.{w32, from_be_bytes, from_le_bytes}
use Rattle.std.proofs.lemmas.Bool.{le-ltb, lt-ltb, ltb-false}
use Rattle.std.proofs.lemmas.List.{take-append-le, drop-append-le, append-nil, length-append, length-drop}
use Rattle.recording.specs.declared.error.RecordingError.{RecordingError}
use Rattle.recording.specs.declared.error.RecordingError.TheVariants.{NotRecording, Truncated, BadOrder, BlockLength, UnknownInterface, BlockTooLong, TooManyInterfaces, OutOfMemory}
use Rattle.recording.specs.declared.number.ByteOrder.{ByteOrder}
use Rattle.recording.specs.declared.number.ByteOrder.TheVariants.{Big, Little}
use Rattle.recording.specs.declared.block.BlockKind.{BlockKind}
use Rattle.recording.specs.declared.block.BlockKind.TheVariants.{Section, OldPacket, SimplePacket, EnhancedPacket, Other}
use Rattle.recording.specs.declared.block.BlockKind.TheVariants as kinds
use Rattle.recording.specs.declared.classic.Classic as declared_classic
use Rattle.recording.specs.declared.format.Format.{Format}
use Rattle.recording.specs.declared.format.Format.TheVariants.{Classic, Blocks}
use Rattle.recording.specs.declared.interface.Interface.{Interface}
use Rattle.recording.specs.Numbers.{number32}
use Rattle.recording.specs.Times.{classic_time}
use Rattle.recording.specs.Captured.{RecordValue}
use Rattle.recording.specs.Classic.{header_in, classic_in, packet_len, packet_fault, packet_record}
use Rattle.recording.specs.Blocks.{BlockValue, kind_of, block_kind, magic_order, block_order, order_in, total_len, closing_len, block_fault, block_in}
use Rattle.recording.specs.Sections.{Meaning, meaning_of, interfaces_after}
use Rattle.recording.specs.Records.{part_len, or_fault, part_meaning, format_after, section_after}
use Rattle.recording.specs.Held.{held_limit, interface_limit, head_len, tells_len, wanted, is_too_long, with_interfaces, held_meaning}
use Rattle.recording.specs.Records.{classic_format, format_of}
use Rattle.recording.specs.Readers.{CanFollow}
use Rattle.recording.specs.Steps.{Fails}

-- ---- ranges and numbers

range-start : (n m : ℕ) (w r : List ℕ) → m ≤ length w - n → n ≤ length w → take m (drop n (w ++ r)) ≡ take m (drop n w)
range-start n m w r within le =
    ap (take m) (drop-append-le n w r le) ∙ take-append-le m (drop n w) r (omega (arith, within, length-drop n w))

pub range-front : (w r : List ℕ) (i j : ℕ) → i ≤ length w → j ≤ length w → slice_range (w ++ r) i j ≡ slice_range w i j
range-front w r i j le within = range-start i (j - i) w r (omega (arith, within)) le

number32-front : (o : ByteOrder) (w r : List ℕ) (i : ℕ) → i + 4 ≤ length w → number32 o (w ++ r) i ≡ number32 o w i
number32-front Big w r i le = ap (from_be_bytes w32) (range-front w r i (i + 4) (omega (arith, le)) le)
number32-front Little w r i le = ap (from_le_bytes w32) (range-front w r i (i + 4) (omega (arith, le)) le)

-- ---- the head of a block

order-by : (o : ByteOrder) (k : BlockKind) (w r : List ℕ) → 12 ≤ length w → block_order o k (w ++ r) ≡ block_order o k w
order-by o Section w r le = ap magic_order (number32-front Big w r 8 (omega (arith, le)))
order-by o kinds.Interface w r le = refl
order-by o OldPacket w r le = refl
order-by o SimplePacket w r le = refl
order-by o EnhancedPacket w r le = refl
order-by o Other w r le = refl

kind-front : (o : ByteOrder) (w r : List ℕ) → 12 ≤ length w → block_kind o (w ++ r) ≡ block_kind o w
kind-front o w r le = ap kind_of (number32-front o w r 0 (omega (arith, le)))

order-front : (o : ByteOrder) (w r : List ℕ) → 12 ≤ length w → block_order o (block_kind o (w ++ r)) (w ++ r) ≡ block_order o (block_kind o w) w
order-front o w r le = ap (λ k. block_order o k (w ++ r)) (kind-front o w r le) ∙ order-by o (block_kind o w) w r le

order_in-front : (o : ByteOrder) (w r : List ℕ) → 12 ≤ length w → order_in o (w ++ r) ≡ order_in o w
order_in-front o w r le = ap (λ (found : Option ByteOrder). unwrap_or found o) (order-front o w r le)

total-front : (o : ByteOrder) (w r : List ℕ) → 12 ≤ length w → total_len o (w ++ r) ≡ total_len o w
total-front o w r le = ap (λ own. number32 own (w ++ r) 4) (order_in-front o w r le) ∙ number32-front (order_in o w) w r 4 (omega (arith, le))

closing-front : (o : ByteOrder) (w r : List ℕ) → 12 ≤ length w → 12 ≤ total_len o w → total_len o w ≤ length w → closing_len o (w ++ r) ≡ closing_len o w
closing-front o w r le some within =
    ap (λ own. number32 own (w ++ r) (total_len o (w ++ r) - 4)) (order_in-front o w r le)
    ∙ ap (λ n. number32 (order_in o w) (w ++ r) (n - 4)) (total-front o w r le)
    ∙ number32-front (order_in o w) w r (total_len o w - 4) (omega (arith, some, within))

longer : (n : ℕ) (w r : List ℕ) → n ≤ length w → ltb (length (w ++ r)) n ≡ false
longer n w r le = le-ltb _ _ (omega (arith, le, length-append w r))

-- ---- the fault of a block, by what its head says

bad_order : (o : ByteOrder) (p : ℕ) (bytes : List ℕ) → 12 ≤ length bytes → is_none (block_order o (block_kind o bytes) bytes) ≡ true → block_fault o p bytes ≡ Some (BadOrder p)
bad_order o p bytes le none = rw (le-ltb (length bytes) 12 le, none) refl

short_len : (o : ByteOrder) (p : ℕ) (bytes : List ℕ) → 12 ≤ length bytes → is_none (block_order o (block_kind o bytes) bytes) ≡ false → ltb (total_len o bytes) 12 ≡ true
    → block_fault o p bytes ≡ Some (BlockLength p)
short_len o p bytes le none short = rw (le-ltb (length bytes) 12 le, none, short) refl

odd_len : (o : ByteOrder) (p : ℕ) (bytes : List ℕ) → 12 ≤ length bytes → is_none (block_order o (block_kind o bytes) bytes) ≡ false → ltb (total_len o bytes) 12 ≡ false
    → eqb (total_len o bytes % 4) 0 ≡ false → block_fault o p bytes ≡ Some (BlockLength p)
odd_len o p bytes le none short odd = rw (le-ltb (length bytes) 12 le, none, short, odd) refl

closed : (o : ByteOrder) (p : ℕ) (bytes : List ℕ) → 12 ≤ length bytes → is_none (block_order o (block_kind o bytes) bytes) ≡ false → ltb (total_len o bytes) 12 ≡ false
    → eqb (total_len o bytes % 4) 0 ≡ true → total_len o bytes ≤ length bytes
    → block_fault o p bytes ≡ cond (not (eqb (closing_len o bytes) (total_len o bytes))) (Some (BlockLength p)) None
closed o p bytes le none short even within = rw (le-ltb (length bytes) 12 le, none, short, even, le-ltb (length bytes) (total_len o bytes) within) refl

abbrev made : BlockKind → ByteOrder → List ℕ → BlockValue
made k o body = record { kind = k; order = o; body = body }

block_in-front : (o : ByteOrder) (w r : List ℕ) → 12 ≤ length w → total_len o w ≤ length w → block_in o (w ++ r) ≡ block_in o w
block_in-front o w r le within =
    let kind = kind-front o w r le in
    let order = order_in-front o w r le in
    let total = total-front o w r le in
    ap (λ k. made k (order_in o (w ++ r)) (slice_range (w ++ r) 8 (total_len o (w ++ r) - 4))) kind
    ∙ ap (λ own. made (block_kind o w) own (slice_range (w ++ r) 8 (total_len o (w ++ r) - 4))) order
    ∙ ap (λ n. made (block_kind o w) (order_in o w) (slice_range (w ++ r) 8 (n - 4))) total
    ∙ ap (λ b. made (block_kind o w) (order_in o w) b) (range-front w r 8 (total_len o w - 4) (omega (arith, le)) (omega (arith, within)))

-- ---- what is meant

block-front : (o : ByteOrder) (interfaces : List Interface) (p : ℕ) (w r : List ℕ) (b c d : Bool) → 12 ≤ length w
    → is_none (block_order o (block_kind o w) w) ≡ b → ltb (total_len o w) 12 ≡ c → eqb (total_len o w % 4) 0 ≡ d
    → (b ≡ false → c ≡ false → d ≡ true → total_len o w ≤ length w)
    → part_meaning (Blocks o) interfaces p (w ++ r) ≡ part_meaning (Blocks o) interfaces p w
block-front o interfaces p w r true c d le is_b is_c is_d holds =
    let more : 12 ≤ length (w ++ r) = omega (arith, le, length-append w r) in
    ap (λ f. or_fault f (meaning_of interfaces p (block_in o (w ++ r)))) (bad_order o p (w ++ r) more (ap is_none (order-front o w r le) ∙ is_b))
    ∙ sym (ap (λ f. or_fault f (meaning_of interfaces p (block_in o w))) (bad_order o p w le is_b))
block-front o interfaces p w r false true d le is_b is_c is_d holds =
    let more : 12 ≤ length (w ++ r) = omega (arith, le, length-append w r) in
    ap (λ f. or_fault f (meaning_of interfaces p (block_in o (w ++ r))))
    (short_len o p (w ++ r) more (ap is_none (order-front o w r le) ∙ is_b) (ap (λ n. ltb n 12) (total-front o w r le) ∙ is_c))
    ∙ sym (ap (λ f. or_fault f (meaning_of interfaces p (block_in o w))) (short_len o p w le is_b is_c))
block-front o interfaces p w r false false false le is_b is_c is_d holds =
    let more : 12 ≤ length (w ++ r) = omega (arith, le, length-append w r) in
    ap (λ f. or_fault f (meaning_of interfaces p (block_in o (w ++ r))))
    (odd_len o p (w ++ r) more (ap is_none (order-front o w r le) ∙ is_b) (ap (λ n. ltb n 12) (total-front o w r le) ∙ is_c) (ap (λ n. eqb (n % 4) 0) (total-front o w r le) ∙ is_d))
    ∙ sym (ap (λ f. or_fault f (meaning_of interfaces p (block_in o w))) (odd_len o p w le is_b is_c is_d))
block-front o interfaces p w r false false true le is_b is_c is_d holds =
    let within = holds refl refl refl in
    let some : 12 ≤ total_len o w = ltb-false (total_len o w) 12 is_c in
    let total = total-front o w r le in
    let more : 12 ≤ length (w ++ r) = omega (arith, le, length-append w r) in
    let fits : total_len o (w ++ r) ≤ length (w ++ r) = omega (arith, total, within, length-append w r) in
    let same : block_fault o p (w ++ r) ≡ block_fault o p w =
    closed o p (w ++ r) more (ap is_none (order-front o w r le) ∙ is_b) (ap (λ n. ltb n 12) total ∙ is_c) (ap (λ n. eqb (n % 4) 0) total ∙ is_d) fits
    ∙ ap (λ n. cond (not (eqb (closing_len o (w ++ r)) n)) (Some (BlockLength p)) None) total
    ∙ ap (λ n. cond (not (eqb n (total_len o w))) (Some (BlockLength p)) None) (closing-front o w r le some within)
    ∙ sym (closed o p w le is_b is_c is_d within) in
    ap (λ f. or_fault f (meaning_of interfaces p (block_in o (w ++ r)))) same
    ∙ ap (λ b. or_fault (block_fault o p w) (meaning_of interfaces p b)) (block_in-front o w r le within)

packet_none : (c : declared_classic.Classic) (p : ℕ) (bytes : List ℕ) → 16 ≤ length bytes → packet_len c bytes ≤ length bytes → packet_fault c p bytes ≡ None
packet_none c p bytes le within = rw (le-ltb (length bytes) 16 le, le-ltb (length bytes) (packet_len c bytes) within) refl

packet_len-front : (c : declared_classic.Classic) (w r : List ℕ) → 16 ≤ length w → packet_len c (w ++ r) ≡ packet_len c w
packet_len-front c w r le = ap (λ n. n + 16) (number32-front c.order w r 8 (omega (arith, le)))

-- a packet by its parts
abbrev packet_by : declared_classic.Classic → ℕ → ℕ → ℕ → List ℕ → RecordValue
packet_by c seconds fraction original bytes = record {
  time = Some (classic_time (cond c.micro 1000 1) seconds fraction);
  interface = 0;
  link = c.link;
  original = original;
  bytes = bytes;
}

packet-front : (c : declared_classic.Classic) (w r : List ℕ) → 16 ≤ length w → packet_len c w ≤ length w → packet_record c (w ++ r) ≡ packet_record c w
packet-front c w r le within =
    let s = number32-front c.order w r 0 (omega (arith, le)) in
    let f = number32-front c.order w r 4 (omega (arith, le)) in
    let o = number32-front c.order w r 12 (omega (arith, le)) in
    ap (λ n. packet_by c n (number32 c.order (w ++ r) 4) (number32 c.order (w ++ r) 12) (slice_range (w ++ r) 16 (packet_len c (w ++ r)))) s
    ∙ ap (λ n. packet_by c (number32 c.order w 0) n (number32 c.order (w ++ r) 12) (slice_range (w ++ r) 16 (packet_len c (w ++ r)))) f
    ∙ ap (λ n. packet_by c (number32 c.order w 0) (number32 c.order w 4) n (slice_range (w ++ r) 16 (packet_len c (w ++ r)))) o
    ∙ ap (λ n. packet_by c (number32 c.order w 0) (number32 c.order w 4) (number32 c.order w 12) (slice_range (w ++ r) 16 n)) (packet_len-front c w r le)
    ∙ ap (packet_by c (number32 c.order w 0) (number32 c.order w 4) (number32 c.order w 12)) (range-front w r 16 (packet_len c w) le within)

-- ---- what is told of the length

pub part_len-front : (format : Format) (w r : List ℕ) → head_len format ≤ length w → part_len format (w ++ r) ≡ part_len format w
part_len-front (Classic c) w r le = packet_len-front c w r le
part_len-front (Blocks o) w r le = ap (λ n. (n - 12) + 12) (total-front o w r le)

pub format-front : (format : Format) (w r : List ℕ) → head_len format ≤ length w → format_after format (w ++ r) ≡ format_after format w
format-front (Classic c) w r le = refl
format-front (Blocks o) w r le = ap Blocks (order_in-front o w r le)

abbrev tells : Bool → Bool → Bool → Bool → Bool
tells a b c d =
    is_none (cond a (Some (Truncated 0)) (cond b (Some (BadOrder 0)) (cond c (Some (BlockLength 0)) (cond (not d) (Some (BlockLength 0)) None))))

tells-front : (format : Format) (w r : List ℕ) → head_len format ≤ length w → tells_len format (w ++ r) ≡ tells_len format w
tells-front (Classic c) w r le = ap not (longer 16 w r le ∙ sym (le-ltb (length w) 16 le))
tells-front (Blocks o) w r le =
    ap (λ a. tells a (is_none (block_order o (block_kind o (w ++ r)) (w ++ r))) (ltb (total_len o (w ++ r)) 12) (eqb (total_len o (w ++ r) % 4) 0)) (longer 12 w r le ∙ sym (le-ltb (length w) 12 le))
    ∙ ap (λ f. tells (ltb (length w) 12) (is_none f) (ltb (total_len o (w ++ r)) 12) (eqb (total_len o (w ++ r) % 4) 0)) (order-front o w r le)
    ∙ ap (λ n. tells (ltb (length w) 12) (is_none (block_order o (block_kind o w) w)) (ltb n 12) (eqb (n % 4) 0)) (total-front o w r le)

pub too_long-front : (format : Format) (w r : List ℕ) → head_len format ≤ length w → is_too_long format (w ++ r) ≡ is_too_long format w
too_long-front format w r le =
    ap (λ t. t && ltb held_limit (part_len format (w ++ r))) (tells-front format w r le)
    ∙ ap (λ n. tells_len format w && ltb held_limit n) (part_len-front format w r le)

head-least : (format : Format) (w : List ℕ) → head_len format ≤ part_len format w
head-least (Classic c) w = omega arith
head-least (Blocks o) w = omega arith

head-by : (format : Format) (w : List ℕ) (t : Bool) → cond t (part_len format w) (head_len format) ≤ length w → head_len format ≤ length w
head-by format w true le = omega (arith, le, head-least format w)
head-by format w false le = le

-- where as much is held as is wanted, the head is
pub head-held : (format : Format) (w : List ℕ) → wanted format w ≤ length w → head_len format ≤ length w
head-held format w le = head-by format w (tells_len format w) le

meaning-front : (format : Format) (interfaces : List Interface) (p : ℕ) (w r : List ℕ) → wanted format w ≤ length w
    → part_meaning format interfaces p (w ++ r) ≡ part_meaning format interfaces p w
meaning-front (Classic c) interfaces p w r le =
    let head = head-held (Classic c) w le in
    let within : packet_len c w ≤ length w = rw (le-ltb (length w) 16 head) at le in
    let more : 16 ≤ length (w ++ r) = omega (arith, head, length-append w r) in
    let fits : packet_len c (w ++ r) ≤ length (w ++ r) = omega (arith, packet_len-front c w r head, within, length-append w r) in
    ap (λ f. or_fault f (Ok (Some (packet_record c (w ++ r))))) (packet_none c p (w ++ r) more fits ∙ sym (packet_none c p w head within))
    ∙ ap (λ (k : RecordValue). or_fault (packet_fault c p w) (Ok (Some k))) (packet-front c w r head within)
meaning-front (Blocks o) interfaces p w r le =
    let head = head-held (Blocks o) w le in
    block-front o interfaces p w r _ _ _ head refl refl refl (λ is_b is_c is_d.
    let all : tells_len (Blocks o) w ≡ true = rw (le-ltb (length w) 12 head, is_b, is_c, is_d) refl in
    let within : (total_len o w - 12) + 12 ≤ length w = rw all at le in
    omega (arith, within))

-- the interfaces after a part that is whole
section-front : (format : Format) (interfaces : List Interface) (w r : List ℕ) → head_len format ≤ length w → part_len format w ≤ length w
    → section_after format interfaces (w ++ r) ≡ section_after format interfaces w
section-front (Classic c) interfaces w r le within = refl
section-front (Blocks o) interfaces w r le within = ap (interfaces_after interfaces) (block_in-front o w r le (omega (arith, within)))

-- ---- the bytes that follow those that are held

-- what begins these bytes is what the held ones begin with
pub record IsSame (format : Format) (before : List Interface) (p : ℕ) (held bytes : List ℕ) : Type 0 where
  pub meaning : part_meaning format before p bytes ≡ part_meaning format before p held
  pub long : is_too_long format bytes ≡ is_too_long format held
  pub format_is : format_after format bytes ≡ format_after format held
  pub interfaces : part_len format held ≤ length held → section_after format before bytes ≡ section_after format before held
  pub len : part_len format bytes ≡ part_len format held

same-bytes : (format : Format) (before : List Interface) (p : ℕ) (held bytes : List ℕ) → bytes ≡ held → IsSame format before p held bytes
same-bytes format before p held bytes is = record {
  meaning = ap (part_meaning format before p) is;
  long = ap (is_too_long format) is;
  format_is = ap (format_after format) is;
  interfaces = λ within. ap (section_after format before) is;
  len = ap (part_len format) is;
}

pub same : (is_whole : Bool) (format : Format) (before : List Interface) (p : ℕ) (held rest : List ℕ) → CanFollow is_whole rest
    → (is_whole ≡ true) ⊎ (wanted format held ≤ length held) → IsSame format before p held (held ++ rest)
same true format before p held rest is told = same-bytes format before p held (held ++ rest) (ap (λ (r : List ℕ). held ++ r) is ∙ append-nil held)
same false format before p held rest follows (inl whole) = absurd cc
same false format before p held rest follows (inr le) =
    let head = head-held format held le in
    record {
      meaning = meaning-front format before p held rest le;
      long = too_long-front format held rest head;
      format_is = format-front format held rest head;
      interfaces = λ within. section-front format before held rest head within;
      len = part_len-front format held rest head;
    }

-- ---- what is too long

not_long : (format : Format) (w : List ℕ) (t : Bool) → cond t (part_len format w) (head_len format) ≤ held_limit → (t && ltb held_limit (part_len format w)) ≡ false
not_long format w true le = le-ltb held_limit (part_len format w) le
not_long format w false le = refl

pub is_held : (format : Format) (w : List ℕ) → wanted format w ≤ held_limit → is_too_long format w ≡ false
is_held format w le = not_long format w (tells_len format w) le

is_long : (format : Format) (w : List ℕ) (t : Bool) → head_len format ≤ held_limit → held_limit < cond t (part_len format w) (head_len format)
    → (t ≡ true) × ((t && ltb held_limit (part_len format w)) ≡ true)
is_long format w true small lt = (refl, lt-ltb held_limit (part_len format w) lt)
is_long format w false small lt = absurd (omega (arith, small, lt))

head-small : (format : Format) → head_len format ≤ held_limit
head-small (Classic c) = omega arith
head-small (Blocks o) = omega arith

none-not : (a : Bool) (e : RecordingError) (others : Option RecordingError) → is_none (cond a (Some e) others) ≡ true → a ≡ false
none-not true e others is = absurd cc
none-not false e others is = refl

not-false : (a : Bool) → not a ≡ true → a ≡ false
not-false true is = absurd cc
not-false false is = refl

tells-head : (format : Format) (w : List ℕ) → tells_len format w ≡ true → head_len format ≤ length w
tells-head (Classic c) w is = ltb-false (length w) 16 (not-false _ is)
tells-head (Blocks o) w is = ltb-false (length w) 12 (none-not _ _ _ is)

-- what is too long is so whatever follows, and that is what is meant
pub long-told : (format : Format) (before : List Interface) (p : ℕ) (held rest : List ℕ) → held_limit < wanted format held
    → held_meaning format before p (held ++ rest) ≡ Err (BlockTooLong p)
long-told format before p held rest lt =
    let long = is_long format held (tells_len format held) (head-small format) lt in
    let on : is_too_long format (held ++ rest) ≡ true = too_long-front format held rest (tells-head format held long.0) ∙ long.1 in
    ap (λ t. cond t (Err (BlockTooLong p)) (with_interfaces p (section_after format before (held ++ rest)) (part_meaning format before p (held ++ rest)))) on

-- ---- what is meant is what is held

pub held-meant : (format : Format) (before : List Interface) (p : ℕ) (bytes : List ℕ) (meaning : Meaning) → is_too_long format bytes ≡ false
    → part_meaning format before p bytes ≡ meaning → held_meaning format before p bytes ≡ with_interfaces p (section_after format before bytes) meaning
held-meant format before p bytes meaning short is =
    ap (λ t. cond t (Err (BlockTooLong p)) (with_interfaces p (section_after format before bytes) (part_meaning format before p bytes))) short
    ∙ ap (with_interfaces p (section_after format before bytes)) is

pub few : (p : ℕ) (interfaces : List Interface) (given : Option RecordValue) → length interfaces ≤ interface_limit → with_interfaces p interfaces (Ok given) ≡ Ok given
few p interfaces given le = ap (λ t. cond t (Err (TooManyInterfaces p)) (Ok given)) (le-ltb interface_limit (length interfaces) le)

pub many : (p : ℕ) (interfaces : List Interface) (given : Option RecordValue) → interface_limit < length interfaces → with_interfaces p interfaces (Ok given) ≡ Err (TooManyInterfaces p)
many p interfaces given lt = ap (λ t. cond t (Err (TooManyInterfaces p)) (Ok given)) (lt-ltb interface_limit (length interfaces) lt)

-- a fault of the part is one of what is held
fails-held : (e : RecordingError) (format : Format) (before : List Interface) (p : ℕ) (bytes : List ℕ) → is_too_long format bytes ≡ false
    → e ≢ OutOfMemory → Fails e (part_meaning format before p bytes) → Fails e (held_meaning format before p bytes)
fails-held OutOfMemory format before p bytes short other fails = absurd (other refl)
fails-held (NotRecording q) format before p bytes short other fails = held-meant format before p bytes (Err (NotRecording q)) short fails
fails-held (Truncated q) format before p bytes short other fails = held-meant format before p bytes (Err (Truncated q)) short fails
fails-held (BadOrder q) format before p bytes short other fails = held-meant format before p bytes (Err (BadOrder q)) short fails
fails-held (BlockLength q) format before p bytes short other fails = held-meant format before p bytes (Err (BlockLength q)) short fails
fails-held (UnknownInterface q) format before p bytes short other fails = held-meant format before p bytes (Err (UnknownInterface q)) short fails
fails-held (BlockTooLong q) format before p bytes short other fails = held-meant format before p bytes (Err (BlockTooLong q)) short fails
fails-held (TooManyInterfaces q) format before p bytes short other fails = held-meant format before p bytes (Err (TooManyInterfaces q)) short fails

move : (e : RecordingError) (one other : Meaning) → other ≡ one → Fails e one → Fails e other
move e one other is fails = rw is fails

pub fails-same : (e : RecordingError) (format : Format) (before : List Interface) (p : ℕ) (held bytes : List ℕ) → IsSame format before p held bytes → is_too_long format held ≡ false
    → e ≢ OutOfMemory → Fails e (part_meaning format before p held) → Fails e (held_meaning format before p bytes)
fails-same e format before p held bytes s short other fails = fails-held e format before p bytes (s.long ∙ short) other (move e _ _ s.meaning fails)

-- ---- the start of a file

abbrev header : ByteOrder → Bool → ℕ → declared_classic.Classic
header o micro link = record { order = o; micro = micro; link = link }

header-front : (o : ByteOrder) (micro : Bool) (w r : List ℕ) → 24 ≤ length w → header_in o micro (w ++ r) ≡ header_in o micro w
header-front o micro w r le = ap (λ n. header o micro (n % 0x10000)) (number32-front o w r 20 (omega (arith, le)))

abbrev by_magic : ℕ → declared_classic.Classic → declared_classic.Classic → declared_classic.Classic → declared_classic.Classic → Option declared_classic.Classic
by_magic n one two three four =
    cond (eqb n 0xa1b2c3d4) (Some one) (cond (eqb n 0xa1b23c4d) (Some two) (cond (eqb n 0xd4c3b2a1) (Some three) (cond (eqb n 0x4d3cb2a1) (Some four) None)))

classic-front : (w r : List ℕ) → 24 ≤ length w → classic_in (w ++ r) ≡ classic_in w
classic-front w r le =
    ap (λ n. by_magic n (header_in Big true (w ++ r)) (header_in Big false (w ++ r)) (header_in Little true (w ++ r)) (header_in Little false (w ++ r))) (number32-front Big w r 0 (omega (arith, le)))
    ∙ ap (λ c. by_magic (number32 Big w 0) c (header_in Big false (w ++ r)) (header_in Little true (w ++ r)) (header_in Little false (w ++ r))) (header-front Big true w r le)
    ∙ ap (λ c. by_magic (number32 Big w 0) (header_in Big true w) c (header_in Little true (w ++ r)) (header_in Little false (w ++ r))) (header-front Big false w r le)
    ∙ ap (λ c. by_magic (number32 Big w 0) (header_in Big true w) (header_in Big false w) c (header_in Little false (w ++ r))) (header-front Little true w r le)
    ∙ ap (λ c. by_magic (number32 Big w 0) (header_in Big true w) (header_in Big false w) (header_in Little true w) c) (header-front Little false w r le)

abbrev start_by : Bool → Bool → Bool → Option declared_classic.Classic → Option (Format × ℕ)
start_by a b c q = cond a None (cond b (Some (Blocks Big, 0)) (cond c None (classic_format q)))

start-front : (w r : List ℕ) → 24 ≤ length w → format_of (w ++ r) ≡ format_of w
start-front w r le =
    ap (λ a. start_by a (eqb (number32 Big (w ++ r) 0) 0x0a0d0d0a) (ltb (length (w ++ r)) 24) (classic_in (w ++ r))) (longer 12 w r (omega (arith, le)) ∙ sym (le-ltb (length w) 12 (omega (arith, le))))
    ∙ ap (λ n. start_by (ltb (length w) 12) (eqb n 0x0a0d0d0a) (ltb (length (w ++ r)) 24) (classic_in (w ++ r))) (number32-front Big w r 0 (omega (arith, le)))
    ∙ ap (λ c. start_by (ltb (length w) 12) (eqb (number32 Big w 0) 0x0a0d0d0a) c (classic_in (w ++ r))) (longer 24 w r le ∙ sym (le-ltb (length w) 24 le))
    ∙ ap (λ q. start_by (ltb (length w) 12) (eqb (number32 Big w 0) 0x0a0d0d0a) (ltb (length w) 24) q) (classic-front w r le)

-- where the head of a file is held, or all of it, what follows changes nothing
pub start-same : (is_whole : Bool) (w r : List ℕ) → CanFollow is_whole r → (is_whole ≡ true) ⊎ (24 ≤ length w) → format_of (w ++ r) ≡ format_of w
start-same true w r is told = ap format_of (ap (λ (b : List ℕ). w ++ b) is ∙ append-nil w)
start-same false w r follows (inl whole) = absurd cc
start-same false w r follows (inr le) = start-front w r le
