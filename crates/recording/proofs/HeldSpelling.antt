-- Of a recording of which it holds each packet and block a reader gives what a slice gives.
use Rattle.std.proofs.Common.{◌≡◌, ℕ, ◌+◌, ◌<◌, ◌≤◌, Bool, true, false, cond, ◌&&◌, eqb, ltb, List, [], ◌∷◌, ◌++◌, length, drop, Option, Some, None, Result, Ok, Err, refl, sym, ap, subst, ◌∙◌, append_assoc, arith, inl, inr}
use Rattle.std.specs.List.{flat_map, AllByRecursion}
use Rattle.std.proofs.lemmas.Bool.{le-ltb, ne_eqb}
use Rattle.std.proofs.lemmas.List.{length-append}
use Rattle.recording.specs.declared.error.RecordingError.{RecordingError}
use Rattle.recording.specs.declared.error.RecordingError.TheVariants.{TooManyInterfaces}
use Rattle.recording.specs.declared.number.ByteOrder.{ByteOrder}
use Rattle.recording.specs.declared.number.ByteOrder.TheVariants.{Big}
use Rattle.recording.specs.declared.classic.Classic as declared_classic
use Rattle.recording.specs.declared.block.BlockKind.TheVariants as kinds
use Rattle.recording.specs.declared.format.Format.{Format}
use Rattle.recording.specs.declared.format.Format.TheVariants.{Classic, Blocks}
use Rattle.recording.specs.declared.interface.Interface.{Interface}
use Rattle.recording.specs.Interfaces.{interface_in}
use Rattle.recording.specs.Classic.{packet_fault, packet_len, packet_record}
use Rattle.recording.specs.Blocks.{BlockValue, block_fault, block_in}
use Rattle.recording.specs.Sections.{Meaning, meaning_of, interfaces_after, interfaces_by}
use Rattle.recording.specs.Records.{Item, items_from, items_behind, items_of, format_of, items_after, or_fault, part_meaning, part_len, format_after, section_after}
use Rattle.recording.specs.Held.{held_limit, interface_limit, tells_len, is_too_long, with_interfaces}
use Rattle.recording.specs.HeldItems.{held_from, held_behind, held_of}
use Rattle.recording.specs.Spelling.{PacketValue, PacketFits, packet_bytes, EndsAt, SpelledBlock, head, plain, order_by, BlockFits, block_bytes, value_by, blocks_bytes, last_order, BlocksEndAt, IsRecording}
use Rattle.recording.specs.HeldSpelling.{IsHeldPacket, IsHeldBlock, described_by, HoldsInterfaces, IsHeldWhole}
use Rattle.recording.proofs.FrontLemmas.{held-meant}
use Rattle.recording.proofs.ItemLemmas.{items_from-nil, items_from-part}
use Rattle.recording.proofs.HeldLemmas.{held_from-nil, held_from-part}
use Rattle.recording.proofs.ClassicSpelling.{length-packet_bytes, packet_step, format_of-header, behind-header}
use Rattle.recording.proofs.BlockSpelling.{block_step, format_of-spelled}
use Rattle.recording.proofs.RecordingLemmas.{recording_read}

-- ---- a part

-- a reader and a slice give the same of these bytes
abbrev Same : Format → List Interface → ℕ → List ℕ → Type 0
Same format interfaces p bytes = held_from format interfaces p bytes ≡ items_from format interfaces p bytes

none : (format : Format) (interfaces : List Interface) (p : ℕ) → Same format interfaces p []
none format interfaces p = held_from-nil format interfaces p ∙ sym (items_from-nil format interfaces p)

short : (tells : Bool) (n : ℕ) → n ≤ held_limit → (tells && ltb held_limit n) ≡ false
short true n le = le-ltb held_limit n le
short false n le = refl

meant : (p : ℕ) (interfaces : List Interface) (meaning : Meaning) → length interfaces ≤ interface_limit → with_interfaces p interfaces meaning ≡ meaning
meant p interfaces (Err fault) le = refl
meant p interfaces (Ok given) le = ap (λ many. cond many (Err (TooManyInterfaces p)) (Ok given)) (le-ltb interface_limit (length interfaces) le)

-- a part that is held, where the same is given of the others
held_first : (format : Format) (interfaces : List Interface) (p : ℕ) (bytes : List ℕ) → 0 < length bytes → part_len format bytes ≤ held_limit
    → length (section_after format interfaces bytes) ≤ interface_limit
    → Same (format_after format bytes) (section_after format interfaces bytes) (p + part_len format bytes) (drop (part_len format bytes) bytes)
    → Same format interfaces p bytes
held_first format interfaces p bytes some le few next =
    let meaning = part_meaning format interfaces p bytes in
    held_from-part format interfaces p bytes meaning some
    (held-meant format interfaces p bytes meaning (short (tells_len format bytes) (part_len format bytes) le) refl ∙ meant p (section_after format interfaces bytes) meaning few)
    ∙ ap (items_after meaning) next
    ∙ sym (items_from-part format interfaces p bytes meaning some refl)

-- a fault of a part that is not too long
held_fault : (format : Format) (interfaces : List Interface) (p : ℕ) (bytes : List ℕ) (e : RecordingError) → 0 < length bytes → is_too_long format bytes ≡ false
    → part_meaning format interfaces p bytes ≡ Err e → Same format interfaces p bytes
held_fault format interfaces p bytes e some not is =
    held_from-part format interfaces p bytes (Err e) some (held-meant format interfaces p bytes (Err e) not is)
    ∙ sym (items_from-part format interfaces p bytes (Err e) some is)

-- ---- classic pcap

packets_same : (c : declared_classic.Classic) (p : ℕ) (packets : List PacketValue) (end : Option RecordingError) (rest : List ℕ) → AllByRecursion PacketFits packets
    → EndsAt c (p + length (flat_map (packet_bytes c.order) packets)) rest end → AllByRecursion IsHeldPacket packets → is_too_long (Classic c) rest ≡ false
    → Same (Classic c) [] p (flat_map (packet_bytes c.order) packets ++ rest)
packets_same c p [] None rest fits ends held not = subst (Same (Classic c) [] p) (sym ends) (none (Classic c) [] p)
packets_same c p [] (Some e) [] fits ends held not = absurd (ends.0 refl)
packets_same c p [] (Some e) (b ∷ rest) fits ends held not =
    let fault : packet_fault c p (b ∷ rest) ≡ Some e = ap (λ q. packet_fault c q (b ∷ rest)) (omega arith) ∙ ends.1 in
    held_fault (Classic c) [] p (b ∷ rest) e (omega arith) not (ap (λ o. or_fault o (Ok (Some (packet_record c (b ∷ rest))))) fault)
packets_same c p (k ∷ packets) end rest fits ends held not =
    let others = flat_map (packet_bytes c.order) packets ++ rest in
    let bytes = packet_bytes c.order k ++ others in
    let h = packet_step c k others fits.0 in
    let next : Same (Classic c) [] (p + packet_len c bytes) others =
    packets_same c (p + packet_len c bytes) packets end rest fits.1
    (subst (λ q. EndsAt c q rest end) (omega (arith, h.len, length-packet_bytes c.order k, length-append (packet_bytes c.order k) (flat_map (packet_bytes c.order) packets))) ends)
    held.1 not in
    subst (Same (Classic c) [] p) (sym (append_assoc (packet_bytes c.order k) (flat_map (packet_bytes c.order) packets) rest))
    (held_first (Classic c) [] p bytes h.some (omega (arith, h.len, held.0)) (omega arith)
    (subst (Same (Classic c) [] (p + packet_len c bytes)) (sym h.behind) next))

-- ---- pcapng

-- how many interfaces a section has after a block, by its type
by_number : (interfaces : List Interface) (v : BlockValue) (a b c d : Bool)
    → length (interfaces_by (cond a kinds.Interface (cond b kinds.OldPacket (cond c kinds.SimplePacket (cond d kinds.EnhancedPacket kinds.Other)))) interfaces v)
    ≡ cond a (length interfaces + 1) (length interfaces)
by_number interfaces v true b c d = let more = length-append interfaces (interface_in v.order v.body ∷ []) in omega (arith, more)
by_number interfaces v false true c d = refl
by_number interfaces v false false true d = refl
by_number interfaces v false false false true = refl
by_number interfaces v false false false false = refl

described : (o : ByteOrder) (interfaces : List Interface) (b : SpelledBlock) → BlockFits b → length (interfaces_after interfaces (value_by o b)) ≡ described_by (length interfaces) b
described o interfaces (head own rest) fits = refl
described o interfaces (plain number body) fits =
    let no : eqb number 0x0a0d0d0a ≡ false = ne_eqb _ _ fits.told in
    rw no (by_number interfaces _ (eqb number 1) (eqb number 2) (eqb number 3) (eqb number 6))

same_by : (format after : Format) (interfaces later : List Interface) (p q : ℕ) (bytes others : List ℕ) → format ≡ after → interfaces ≡ later → p ≡ q → bytes ≡ others
    → Same after later q others → Same format interfaces p bytes
same_by format after interfaces later p q bytes others is_format is_section is_place is_bytes same = rw (is_format, is_section, is_place, is_bytes) same

blocks_same : (o : ByteOrder) (interfaces : List Interface) (p : ℕ) (blocks : List SpelledBlock) (end : Option RecordingError) (rest : List ℕ) → AllByRecursion BlockFits blocks
    → BlocksEndAt (last_order o blocks) (p + length (blocks_bytes o blocks)) rest end → AllByRecursion IsHeldBlock blocks → HoldsInterfaces (length interfaces) blocks
    → is_too_long (Blocks (last_order o blocks)) rest ≡ false → Same (Blocks o) interfaces p (blocks_bytes o blocks ++ rest)
blocks_same o interfaces p [] None rest fits ends held few not = subst (Same (Blocks o) interfaces p) (sym ends) (none (Blocks o) interfaces p)
blocks_same o interfaces p [] (Some e) [] fits ends held few not = absurd (ends.0 refl)
blocks_same o interfaces p [] (Some e) (b ∷ rest) fits ends held few not =
    let fault : block_fault o p (b ∷ rest) ≡ Some e = ap (λ q. block_fault o q (b ∷ rest)) (omega arith) ∙ ends.1 in
    held_fault (Blocks o) interfaces p (b ∷ rest) e (omega arith) not (ap (λ f. or_fault f (meaning_of interfaces p (block_in o (b ∷ rest)))) fault)
blocks_same o interfaces p (b ∷ blocks) end rest fits ends held few not =
    let own = order_by o b in
    let later = interfaces_after interfaces (value_by o b) in
    let others = blocks_bytes own blocks ++ rest in
    let bytes = block_bytes o b ++ others in
    let h = block_step o interfaces b others fits.0 in
    let many = described o interfaces b fits.0 in
    let next : Same (Blocks own) later (p + length (block_bytes o b)) others =
    blocks_same own later (p + length (block_bytes o b)) blocks end rest fits.1
    (subst (λ q. BlocksEndAt (last_order own blocks) q rest end) (omega (arith, length-append (block_bytes o b) (blocks_bytes own blocks))) ends)
    held.1 (subst (λ n. HoldsInterfaces n blocks) (sym many) few.1) not in
    subst (Same (Blocks o) interfaces p) (sym (append_assoc (block_bytes o b) (blocks_bytes own blocks) rest))
    (held_first (Blocks o) interfaces p bytes h.some (omega (arith, h.len, held.0)) (omega (arith, ap length h.section, many, few.0))
    (same_by (format_after (Blocks o) bytes) (Blocks own) (section_after (Blocks o) interfaces bytes) later (p + part_len (Blocks o) bytes) (p + length (block_bytes o b)) (drop (part_len (Blocks o) bytes) bytes) others
    h.format_is h.section (ap (λ n. p + n) h.size) h.behind next))

-- ---- the file

same_items : (one other : Result (List Item) RecordingError) (items others : List Item) → one ≡ other → one ≡ Ok items → other ≡ Ok others → items ≡ others
same_items one other items others is is_one is_other = let both : Ok items ≡ Ok others = sym is_one ∙ is ∙ is_other in cc

-- a reader gives of a file what a slice gives after its start
given_behind : (items : List Item) (file : List ℕ) (format : Format) (n : ℕ) → format_of file ≡ Some (format, n) → Same format [] n (drop n file) → items_of file ≡ Ok items
    → held_of file ≡ items
given_behind items file format n start same read =
    let is : items_of file ≡ Ok (items_from format [] n (drop n file)) = ap (items_behind file) start in
    let place : 0 + n ≡ n = omega arith in
    ap (held_behind [] 0 file) start
    ∙ ap (λ q. held_from format [] q (drop n file)) place
    ∙ same
    ∙ same_items (items_of file) (items_of file) _ _ refl is read

-- of a recording that a reader holds whole it gives what that holds
pub held_whole : (items : List Item) (file : List ℕ) (r : IsRecording items file) → IsHeldWhole items file r → held_of file ≡ items
held_whole items file (inl r) whole =
    let c = r.0 in
    let h = r.3 in
    let body = flat_map (packet_bytes c.order) r.1 ++ h.rest in
    let start : format_of file ≡ Some (Classic c, 24) = ap format_of h.is ∙ format_of-header c h.free h.upper body h.free_len h.upper_fits h.link_fits in
    let behind : drop 24 file ≡ body = ap (drop 24) h.is ∙ behind-header c h.free h.upper body h.free_len in
    given_behind items file (Classic c) 24 start
    (subst (Same (Classic c) [] 24) (sym behind) (packets_same c 24 r.1 r.2 h.rest h.packets_fit h.ends whole.packets_held whole.rest_held))
    (recording_read items file (inl r))
held_whole items file (inr r) whole =
    let h = r.2 in
    given_behind items file (Blocks Big) 0 (format_of-spelled r.0 r.1 file h)
    (subst (Same (Blocks Big) [] 0) (sym h.is)
    (blocks_same Big [] 0 r.0 r.1 h.rest h.blocks_fit (subst (λ q. BlocksEndAt (last_order Big r.0) q h.rest r.1) (omega arith) h.ends) whole.blocks_held whole.interfaces_held whole.rest_held))
    (recording_read items file (inr r))
