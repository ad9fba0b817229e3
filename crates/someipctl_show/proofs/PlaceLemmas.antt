-- Where a message begins in its datagram, and the lines that are told from there.
use Rattle.std.proofs.Common.{◌≡◌, ℕ, ◌+◌, List, [], ◌∷◌, ◌++◌, length, drop, Option, None, ◌↔◌, refl, sym, subst, ap, ◌∙◌, append_assoc, length-append, zero-add, arith}
use Rattle.std.specs.List.{flat_map}
use Rattle.std.proofs.lemmas.Grind.{flat_map-append}
use Rattle.std.proofs.lemmas.List.{drop_at}
use Rattle.someip_wire.specs.declared.WireError.{WireError}
use Rattle.someip_wire.specs.Spelling.{MessageValue, header_bytes, spelling}
use Rattle.someip_wire.specs.Datagram.{Datagram, items}
use Rattle.someipctl_show.specs.types.Types.{TypesValue}
use Rattle.someipctl_show.specs.ShownText.{AreLines}
use Rattle.someipctl_show.specs.TextKinds.{Joined}

-- the place of what comes behind a message and others
behind : (place : ℕ) (m : MessageValue) (front : List MessageValue)
    → (place + length (spelling m)) + length (flat_map spelling front) ≡ place + length (spelling m ++ flat_map spelling front)
behind place m front = omega (arith, length-append (spelling m) (flat_map spelling front))

lines_split : (types : TypesValue) (k place : ℕ) (front others : List MessageValue) (end : Option WireError) (text : List ℕ) → AreLines types k place (items (front ++ others) end) text
    → Joined (AreLines types k place (items front None)) (AreLines types k (place + length (flat_map spelling front)) (items others end)) text
lines_split types k place [] others end text are =
    let at : place ≡ place + 0 = omega arith in
    ([], text, refl, refl, subst (λ p. AreLines types k p (items others end) text) at are)
lines_split types k place (m ∷ front) others end text are =
    let next = place + length (spelling m) in
    let rest = lines_split types k next front others end are.1 are.4 in (
      are.0 ++ rest.0,
      rest.1,
      are.2 ∙ ap (λ (t : List ℕ). are.0 ++ t) rest.2 ∙ sym (append_assoc are.0 rest.0 rest.1),
      (are.0, rest.0, refl, are.3, rest.3),
      subst (λ p. AreLines types k p (items others end) rest.1) (behind place m front) rest.4,
    )

lines_join : (types : TypesValue) (k place : ℕ) (front others : List MessageValue) (end : Option WireError) (text : List ℕ)
    → Joined (AreLines types k place (items front None)) (AreLines types k (place + length (flat_map spelling front)) (items others end)) text
    → AreLines types k place (items (front ++ others) end) text
lines_join types k place [] others end text both =
    let at : place + 0 ≡ place = omega arith in
    subst (AreLines types k place (items others end)) (sym (both.2 ∙ ap (λ (t : List ℕ). t ++ both.1) both.3)) (subst (λ p. AreLines types k p (items others end) both.1) at both.4)
lines_join types k place (m ∷ front) others end text both =
    let next = place + length (spelling m) in
    let head = both.3 in
    let more = subst (λ p. AreLines types k p (items others end) both.1) (sym (behind place m front)) both.4 in (
      head.0,
      head.1 ++ both.1,
      both.2 ∙ ap (λ (t : List ℕ). t ++ both.1) head.2 ∙ append_assoc head.0 head.1 both.1,
      head.3,
      lines_join types k next front others end (head.1 ++ both.1) (head.1, both.1, refl, head.4, more),
    )

pub lines_behind : (k : ℕ) (front others : List MessageValue) (end : Option WireError) (types : TypesValue) (text : List ℕ)
    → (AreLines types k 0 (items (front ++ others) end) text
    ↔ Joined (AreLines types k 0 (items front None)) (AreLines types k (length (flat_map spelling front)) (items others end)) text)
lines_behind k front others end types text =
    let at = zero-add (length (flat_map spelling front)) in
    let Both : ℕ → Type 0 = λ n. Joined (AreLines types k 0 (items front None)) (AreLines types k n (items others end)) text in
    (λ are. subst Both at (lines_split types k 0 front others end text are), λ both. lines_join types k 0 front others end text (subst Both (sym at) both))

-- the bytes of messages, one of which is cut after its header
bytes_at : (front : List MessageValue) (m : MessageValue) (others : List MessageValue) (rest : List ℕ)
    → flat_map spelling (front ++ m ∷ others) ++ rest
    ≡ (flat_map spelling front ++ header_bytes m.header (length m.payload)) ++ (m.payload ++ (flat_map spelling others ++ rest))
bytes_at front m others rest =
    let before = flat_map spelling front in
    let header = header_bytes m.header (length m.payload) in
    let behind = flat_map spelling others in
    ap (λ (t : List ℕ). t ++ rest) (flat_map-append spelling front (m ∷ others))
    ∙ append_assoc before (spelling m ++ behind) rest
    ∙ ap (λ (t : List ℕ). before ++ t) (append_assoc (spelling m) behind rest)
    ∙ ap (λ (t : List ℕ). before ++ t) (append_assoc header m.payload (behind ++ rest))
    ∙ sym (append_assoc before header (m.payload ++ (behind ++ rest)))

pub payload_at : (front others : List MessageValue) (m : MessageValue) (end : Option WireError) (bytes : List ℕ) → Datagram (front ++ m ∷ others) end bytes
    → (rest : List ℕ) × (drop (length (flat_map spelling front) + 16) bytes ≡ m.payload ++ rest)
payload_at front others m end bytes d =
    let header = header_bytes m.header (length m.payload) in
    let behind = m.payload ++ (flat_map spelling others ++ d.rest) in
    let at : length (flat_map spelling front ++ header) ≡ length (flat_map spelling front) + 16 = length-append (flat_map spelling front) header in
    (flat_map spelling others ++ d.rest, ap (drop (length (flat_map spelling front) + 16)) (d.parts ∙ bytes_at front m others d.rest) ∙ drop_at (flat_map spelling front ++ header) behind _ at)
