-- Files of packets, and what is read of them.
use Rattle.std.proofs.Common.{◌≡◌, ℕ, ◌+◌, ◌<◌, ◌≤◌, ◌^◌, Bool, true, false, cond, List, [], ◌∷◌, ◌++◌, length, map, Some, None, Ok, refl, sym, ap, subst, ◌∙◌, append_assoc, append-nil, arith, lit<, lit≤, inr}
use Rattle.std.specs.Prelude.{slice_get, option_map}
use Rattle.std.specs.List.{AllByRecursion, IsDistinct}
use Rattle.std.proofs.lemmas.Option.{slice_get-map}
use Rattle.std.proofs.lemmas.List.{length-append}
use Rattle.recording.specs.declared.number.ByteOrder.{ByteOrder}
use Rattle.recording.specs.declared.number.ByteOrder.TheVariants.{Big, Little}
use Rattle.recording.specs.declared.interface.Interface.{Interface}
use Rattle.recording.specs.Captured.{RecordValue}
use Rattle.recording.specs.Sections.{meaning_of}
use Rattle.recording.specs.Records.{Item, items_of, items_after}
use Rattle.recording.specs.Held.{interface_limit}
use Rattle.recording.specs.HeldItems.{held_of}
use Rattle.recording.specs.HeldSpelling.{IsHeldBlock, HoldsInterfaces}
use Rattle.recording.specs.Spelling.{SpelledBlock, order_by, block_bytes, value_by, BlockFits, blocks_bytes, blocks_list, IsBlocks, IsRecording}
use Rattle.recording.proofs.BlockSpelling.{blocks_are_read}
use Rattle.recording.proofs.HeldSpelling.{held_whole}
use Rattle.recording_writing.specs.Blocks.{section_block, interface_block, number_of, is_new, packet_block, is_simple, is_too_long, blocks_for, links_after, put_of}
use Rattle.recording_writing.specs.declared.writer.Put.TheVariants.{TooLong}
use Rattle.recording_writing.specs.Files.{packets_blocks, links_of, file_blocks, file_of, packet_read, packets_read, items_read, IsPacket, AreLinkTypes}
use Rattle.recording_writing.proofs.LinkLemmas.{links_by, number_of-le, number_at, once, most}
use Rattle.recording_writing.proofs.BlockLemmas.{block_as, packet_fits, packet_held, interface_fits, interface_held, nanosecond_interface, described, packet_meaning, told_long}

-- ---- what holds of each block

all_append : (P : SpelledBlock → Type 0) (xs ys : List SpelledBlock) → AllByRecursion P xs → AllByRecursion P ys → AllByRecursion P (xs ++ ys)
all_append P [] ys one other = other
all_append P (x ∷ xs) ys one other = (one.0, all_append P xs ys one.1 other)

-- the blocks of a packet, if it is too long, and if its link type is new
abbrev blocks_as : Bool → Bool → List ℕ → RecordValue → List SpelledBlock
blocks_as long new links k = cond long [] (cond new (interface_block k.link ∷ []) [] ++ packet_block (number_of links k.link) k ∷ [])

all_as : (P : SpelledBlock → Type 0) (long new : Bool) (links : List ℕ) (k : RecordValue) → P (interface_block k.link) → (long ≡ false → P (packet_block (number_of links k.link) k)) → AllByRecursion P (blocks_as long new links k)
all_as P true new links k interface packet = tt
all_as P false true links k interface packet = (interface, (packet refl, tt))
all_as P false false links k interface packet = (packet refl, tt)

all_blocks : (P : SpelledBlock → Type 0) → ((link : ℕ) → P (interface_block link)) → ((number : ℕ) (k : RecordValue) → is_too_long number k ≡ false → P (packet_block number k))
    → (links : List ℕ) (ks : List RecordValue) → AllByRecursion P (packets_blocks links ks)
all_blocks P interface packet links [] = tt
all_blocks P interface packet links (k ∷ ks) =
    all_append P _ _ (all_as P (is_too_long (number_of links k.link) k) (is_new links k.link) links k (interface k.link) (packet (number_of links k.link) k)) (all_blocks P interface packet (links_after links k) ks)

pub blocks_held : (links : List ℕ) (ks : List RecordValue) → AllByRecursion IsHeldBlock (packets_blocks links ks)
blocks_held links ks = all_blocks IsHeldBlock interface_held packet_held links ks

-- ---- the file is spelled

pub file_spelled : (ks : List RecordValue) → IsBlocks (file_blocks ks) None (file_of ks)
file_spelled ks = record {
  rest = [];
  is = sym (append-nil (file_of ks));
  begins = refl;
  long = omega arith;
  blocks_fit = (record { number = lit< tt; len = lit< tt; padded = refl; told = tt }, all_blocks BlockFits interface_fits packet_fits [] ks);
  ends = refl;
}

-- ---- the packets are read

abbrev interfaces : List ℕ → List Interface
interfaces links = map nanosecond_interface links

-- a packet's block, behind which others are read
step_as : (simple : Bool) (is : List Interface) (p number : ℕ) (k r : RecordValue) (blocks : List SpelledBlock) (others : List Item)
    → meaning_of is p (value_by Little (block_as simple number k)) ≡ Ok (Some r) → ((q : ℕ) → blocks_list Little is q blocks None ≡ others)
    → blocks_list Little is p (block_as simple number k ∷ blocks) None ≡ Ok r ∷ others
step_as true is p number k r blocks others meant rest =
    let place = p + length (block_bytes Little (block_as true number k)) in
    ap (λ m. items_after m (blocks_list Little is place blocks None)) meant ∙ ap (λ (t : List Item). Ok r ∷ t) (rest place)
step_as false is p number k r blocks others meant rest =
    let place = p + length (block_bytes Little (block_as false number k)) in
    ap (λ m. items_after m (blocks_list Little is place blocks None)) meant ∙ ap (λ (t : List Item). Ok r ∷ t) (rest place)

packet_step : (links all : List ℕ) (p : ℕ) (k : RecordValue) (blocks : List SpelledBlock) (others : List Item) → IsPacket k → AreLinkTypes links → is_too_long (number_of links k.link) k ≡ false
    → slice_get all (number_of links k.link) ≡ Some k.link → ((q : ℕ) → blocks_list Little (interfaces all) q blocks None ≡ others)
    → blocks_list Little (interfaces all) p (packet_block (number_of links k.link) k ∷ blocks) None ≡ Ok (packet_read (number_of links k.link) k) ∷ others
packet_step links all p k blocks others fits are short at rest =
    let few : number_of links k.link < 2 ^ 32 = omega (arith, number_of-le links k.link, most links are) in
    let there : slice_get (interfaces all) (number_of links k.link) ≡ Some (nanosecond_interface k.link) =
    slice_get-map nanosecond_interface all (number_of links k.link) ∙ ap (option_map nanosecond_interface) at in
    step_as (is_simple (number_of links k.link) k) (interfaces all) p (number_of links k.link) k (packet_read (number_of links k.link) k) blocks others (packet_meaning (number_of links k.link) (interfaces all) p k fits few short there) rest

-- what is written of a packet, behind which others are read
for_step : (long new : Bool) (links : List ℕ) (p : ℕ) (k : RecordValue) (blocks : List SpelledBlock) (others : List RecordValue) → IsPacket k → AreLinkTypes links
    → is_too_long (number_of links k.link) k ≡ long → is_new links k.link ≡ new
    → ((q : ℕ) → blocks_list Little (interfaces (cond long links (links_by new links k.link))) q blocks None ≡ map (λ r. Ok r) others)
    → blocks_list Little (interfaces links) p (blocks_as long new links k ++ blocks) None ≡ map (λ r. Ok r) (cond long [] (packet_read (number_of links k.link) k ∷ []) ++ others)
for_step true new links p k blocks others fits are is_long is_new rest = rest p
for_step false true links p k blocks others fits are is_long is_new rest =
    let place = p + length (block_bytes Little (interface_block k.link)) in
    ap (λ is. blocks_list Little is place (packet_block (number_of links k.link) k ∷ blocks) None) (described links k.link fits.link)
    ∙ packet_step links (links ++ k.link ∷ []) place k blocks (map (λ r. Ok r) others) fits are is_long (number_at true links k.link is_new) rest
for_step false false links p k blocks others fits are is_long is_new rest =
    packet_step links links p k blocks (map (λ r. Ok r) others) fits are is_long (number_at false links k.link is_new) rest

packets_listed : (links : List ℕ) (ks : List RecordValue) → AllByRecursion IsPacket ks → AreLinkTypes links
    → (p : ℕ) → blocks_list Little (interfaces links) p (packets_blocks links ks) None ≡ map (λ r. Ok r) (packets_read links ks)
packets_listed links [] fits are p = refl
packets_listed links (k ∷ ks) fits are p =
    for_step (is_too_long (number_of links k.link) k) (is_new links k.link) links p k (packets_blocks (links_after links k) ks) (packets_read (links_after links k) ks) fits.0 are refl refl
    (packets_listed (links_after links k) ks fits.1 (once links k fits.0 are))

pub no_link_types : AreLinkTypes []
unfolding IsDistinct
no_link_types = record { fit = tt; apart = tt }

pub file_listed : (ks : List RecordValue) → AllByRecursion IsPacket ks → blocks_list Big [] 0 (file_blocks ks) None ≡ items_read ks
file_listed ks fits = packets_listed [] ks fits no_link_types _

pub file_read : (ks : List RecordValue) → AllByRecursion IsPacket ks → items_of (file_of ks) ≡ Ok (items_read ks)
file_read ks fits = blocks_are_read (file_blocks ks) None (file_of ks) (file_spelled ks) ∙ ap (λ (t : List Item). Ok t) (file_listed ks fits)

-- ---- and held

interfaces_as : (long new simple : Bool) (links : List ℕ) (number : ℕ) (k : RecordValue) (blocks : List SpelledBlock) → length links ≤ interface_limit
    → length (cond long links (links_by new links k.link)) ≤ interface_limit → HoldsInterfaces (length (cond long links (links_by new links k.link))) blocks
    → HoldsInterfaces (length links) (cond long [] (cond new (interface_block k.link ∷ []) [] ++ block_as simple number k ∷ []) ++ blocks)
interfaces_as true new simple links number k blocks le le_after rest = rest
interfaces_as false true true links number k blocks le le_after rest =
    let one : length (links ++ k.link ∷ []) ≡ length links + 1 = length-append links (k.link ∷ []) in
    (omega (arith, one, le_after), (omega (arith, one, le_after), subst (λ n. HoldsInterfaces n blocks) one rest))
interfaces_as false true false links number k blocks le le_after rest =
    let one : length (links ++ k.link ∷ []) ≡ length links + 1 = length-append links (k.link ∷ []) in
    (omega (arith, one, le_after), (omega (arith, one, le_after), subst (λ n. HoldsInterfaces n blocks) one rest))
interfaces_as false false true links number k blocks le le_after rest = (le, rest)
interfaces_as false false false links number k blocks le le_after rest = (le, rest)

interfaces_held : (links : List ℕ) (ks : List RecordValue) → AllByRecursion IsPacket ks → AreLinkTypes links → HoldsInterfaces (length links) (packets_blocks links ks)
interfaces_held links [] fits are = tt
interfaces_held links (k ∷ ks) fits are =
    let after = once links k fits.0 are in
    interfaces_as (is_too_long (number_of links k.link) k) (is_new links k.link) (is_simple (number_of links k.link) k) links (number_of links k.link) k (packets_blocks (links_after links k) ks) (most links are) (most (links_after links k) after)
    (interfaces_held (links_after links k) ks fits.1 after)

pub file_held : (ks : List RecordValue) → AllByRecursion IsPacket ks → held_of (file_of ks) ≡ items_read ks
unfolding file_spelled
file_held ks fits =
    let is : IsRecording (items_read ks) (file_of ks) = inr (file_blocks ks, None, file_spelled ks, sym (file_listed ks fits)) in
    held_whole (items_read ks) (file_of ks) is
    (record { blocks_held = (lit≤ tt, blocks_held [] ks); interfaces_held = (lit≤ tt, interfaces_held [] ks fits no_link_types); rest_held = refl })

-- ---- a file grows

-- the block has numbers in the order of those before it
abbrev IsLittle : SpelledBlock → Type 0
IsLittle b = order_by Little b ≡ Little

packet_little_as : (simple : Bool) (number : ℕ) (k : RecordValue) → IsLittle (block_as simple number k)
packet_little_as true number k = refl
packet_little_as false number k = refl

all_little : (links : List ℕ) (ks : List RecordValue) → AllByRecursion IsLittle (packets_blocks links ks)
all_little links ks = all_blocks IsLittle (λ link. refl) (λ number k short. packet_little_as (is_simple number k) number k) links ks

little_step : (order : ByteOrder) (front : List ℕ) (xs ys : List SpelledBlock) → order ≡ Little → blocks_bytes Little (xs ++ ys) ≡ blocks_bytes Little xs ++ blocks_bytes Little ys
    → front ++ blocks_bytes order (xs ++ ys) ≡ (front ++ blocks_bytes order xs) ++ blocks_bytes Little ys
little_step order front xs ys is rest =
    ap (λ o. front ++ blocks_bytes o (xs ++ ys)) is ∙ ap (λ (t : List ℕ). front ++ t) rest ∙ sym (append_assoc front (blocks_bytes Little xs) (blocks_bytes Little ys))
    ∙ ap (λ o. (front ++ blocks_bytes o xs) ++ blocks_bytes Little ys) (sym is)

blocks_append : (xs ys : List SpelledBlock) → AllByRecursion IsLittle xs → blocks_bytes Little (xs ++ ys) ≡ blocks_bytes Little xs ++ blocks_bytes Little ys
blocks_append [] ys little = refl
blocks_append (x ∷ xs) ys little = little_step (order_by Little x) (block_bytes Little x) xs ys little.0 (blocks_append xs ys little.1)

packets_grow : (links : List ℕ) (ks more : List RecordValue) → packets_blocks links (ks ++ more) ≡ packets_blocks links ks ++ packets_blocks (links_of links ks) more
packets_grow links [] more = refl
packets_grow links (x ∷ ks) more =
    ap (λ (t : List SpelledBlock). blocks_for links x ++ t) (packets_grow (links_after links x) ks more)
    ∙ sym (append_assoc (blocks_for links x) (packets_blocks (links_after links x) ks) (packets_blocks (links_of (links_after links x) ks) more))

pub links_grow : (links : List ℕ) (ks more : List RecordValue) → links_of links (ks ++ more) ≡ links_of (links_of links ks) more
links_grow links [] more = refl
links_grow links (x ∷ ks) more = links_grow (links_after links x) ks more

-- what packets add, and others behind them
pub bytes_grow : (links : List ℕ) (ks more : List RecordValue)
    → blocks_bytes Little (packets_blocks links (ks ++ more)) ≡ blocks_bytes Little (packets_blocks links ks) ++ blocks_bytes Little (packets_blocks (links_of links ks) more)
bytes_grow links ks more = ap (blocks_bytes Little) (packets_grow links ks more) ∙ blocks_append (packets_blocks links ks) (packets_blocks (links_of links ks) more) (all_little links ks)

pub file_grows : (ks more : List RecordValue) → file_of (ks ++ more) ≡ file_of ks ++ blocks_bytes Little (packets_blocks (links_of [] ks) more)
file_grows ks more =
    let head = block_bytes Big section_block in
    ap (λ (t : List ℕ). head ++ t) (bytes_grow [] ks more)
    ∙ sym (append_assoc head (blocks_bytes Little (packets_blocks [] ks)) (blocks_bytes Little (packets_blocks (links_of [] ks) more)))

-- ---- what is too long

pub nothing_of : (links : List ℕ) (k : RecordValue) → put_of (number_of links k.link) k ≡ TooLong → (blocks_for links k ≡ []) × (links_after links k ≡ links)
nothing_of links k told =
    let long = told_long (number_of links k.link) k told in
    (ap (λ (l : Bool). blocks_as l (is_new links k.link) links k) long, ap (λ (l : Bool). cond l links (links_by (is_new links k.link) links k.link)) long)
