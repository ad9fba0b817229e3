-- The line of a message in parts, and the line after that of a segment's message.
use Rattle.std.proofs.Common.{◌≡◌, ℕ, ◌+◌, ◌<◌, ◌≤◌, Bool, true, List, [], ◌∷◌, ◌++◌, length, drop, Ok, codes, decimal, refl, ap, ◌∙◌, append_assoc, arith}
use Rattle.std.specs.Int.{w32, to_be_bytes}
use Rattle.std.specs.Borrow.{Bor}
use Rattle.std.proofs.lemmas.Bool.{lt-ltb, le-ltb}
use Rattle.std.proofs.lemmas.Nat.{from_be_bytes-to_be_bytes_4}
use Rattle.someip_wire.specs.Kinds.{has_tp_flag}
use Rattle.someip_wire.specs.Spelling.{MessageValue}
use Rattle.someip_reassembly.specs.TpHeader.{reads_segment, tp_header_in}
use Rattle.someip_texts.specs.Words.{bytes_text, hex2, hex4}
use Rattle.someipctl_io.specs.Lines.{joined, type_name, line_behind, flag_text, fault_line, segment_lines}

-- a part in front of others, taken apart
parts3 : (x a b c rest others : List ℕ) → x ≡ a ++ b ++ c → rest ≡ others → x ++ rest ≡ a ++ (b ++ (c ++ others))
parts3 x a b c rest others is same = rw (is, same) (simp append_assoc)

parts4 : (x a b c d rest others : List ℕ) → x ≡ a ++ b ++ c ++ d → rest ≡ others → x ++ rest ≡ a ++ (b ++ (c ++ (d ++ others)))
parts4 x a b c d rest others is same = rw (is, same) (simp append_assoc)

-- the line that tells a message, of which what has the same length in each line is there already
pub line_behind-parts : (k : ℕ) (m : MessageValue) (ids session interface code : List ℕ)
    → session ≡ codes " client " ++ hex4 m.header.client ++ codes " session " ++ hex4 m.header.session
    → interface ≡ codes " interface " ++ hex2 m.header.interface ++ codes " type "
    → code ≡ codes " code " ++ hex2 m.header.code.0 ++ codes " payload "
    → joined (decimal k ∷ ids ∷ decimal (8 + length m.payload) ∷ session ∷ interface ∷ type_name m.header.kind ∷ code ∷ bytes_text m.payload ∷ codes "\n" ∷ []) ≡ line_behind ids k m
line_behind-parts k m ids session interface code s f c =
    ap (λ (t : List ℕ). decimal k ++ (ids ++ (decimal (8 + length m.payload) ++ t)))
    (parts4 session (codes " client ") (hex4 m.header.client) (codes " session ") (hex4 m.header.session) _ _ s
    (parts3 interface (codes " interface ") (hex2 m.header.interface) (codes " type ") _ _ f
    (ap (λ (t : List ℕ). type_name m.header.kind ++ t)
    (parts3 code (codes " code ") (hex2 m.header.code.0) (codes " payload ") (bytes_text m.payload ++ codes "\n") (bytes_text m.payload ++ codes "\n") c refl))))

-- a segment without a TP header has its fault alone
pub segment_lines-fault : (k place : ℕ) (m : MessageValue) → has_tp_flag m.header.kind ≡ true → length m.payload < 4 → segment_lines k place m ≡ fault_line k (codes "NoHeader") place
segment_lines-fault k place m tp short = rw (tp, lt-ltb (length m.payload) 4 short) refl

-- the TP header that a payload begins with
tp_header_in-read : (payload slice : List ℕ) (word : ℕ) → word < 4294967296 → payload ≡ to_be_bytes w32 word ++ slice → tp_header_in payload ≡ word
tp_header_in-read payload slice word fits is = ap tp_header_in is ∙ from_be_bytes-to_be_bytes_4 word fits

-- what was read of a segment's payload is what its line says
pub segment_lines-read : (k place : ℕ) (m : MessageValue) (offset : ℕ) (more : Bool) (slice : Bor (List ℕ)) → has_tp_flag m.header.kind ≡ true → reads_segment m.payload (Ok (offset, more, slice))
    → segment_lines k place m ≡ joined (
    decimal k ∷ codes " segment offset " ∷ decimal offset ∷ codes " more " ∷ flag_text more ∷ codes " bytes " ∷ decimal (length slice.now) ∷ codes "\n" ∷ [])
segment_lines-read k place m offset more slice tp read =
    let word : tp_header_in m.payload ≡ read.0 = tp_header_in-read m.payload slice.now read.0 read.1 read.2 in
    let rest : drop 4 m.payload ≡ slice.now = ap (drop 4) read.2 in
    let long : 4 ≤ length m.payload = omega (arith, ap length read.2) in
    rw (tp, le-ltb (length m.payload) 4 long, word, rest, read.3, read.4) refl
