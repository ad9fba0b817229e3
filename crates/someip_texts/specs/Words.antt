-- The words of a line, byte for byte.
use Rattle.std.specs.Prelude.{ℕ, List, [], ◌∷◌, ◌++◌, codes, decimal}
use Rattle.std.specs.Int.{w16, to_be_bytes}
use Rattle.std.specs.List.{flat_map}
use Rattle.std.specs.Net.Addr.{ipv4_octets}
use Rattle.std.specs.Net.Text.{ipv4_text, socket_v4_text}
use Rattle.hex.specs.Hex.{encode_lower}
use Rattle.someip_texts.specs.declared.word.Word.{Word}
use Rattle.someip_texts.specs.declared.word.Word.TheVariants.{Text, Number, Id, Ids, Byte, Bytes, Address, Endpoint}

-- a number of 16 bits as four hex digits
abbrev pub hex4 : ℕ → List ℕ
hex4 n = encode_lower (to_be_bytes w16 n)

-- a byte as two hex digits
abbrev pub hex2 : ℕ → List ℕ
hex2 n = encode_lower (n ∷ [])

-- two IDs with a dot between them
abbrev pub ids_text : ℕ → ℕ → List ℕ
ids_text first second = hex4 first ++ codes "." ++ hex4 second

-- bytes in hex, or `-` for none
abbrev pub bytes_text : List ℕ → List ℕ
bytes_text [] = codes "-"
bytes_text (b ∷ bytes) = encode_lower (b ∷ bytes)

-- the bytes of a word
abbrev pub word_text : Word → List ℕ
word_text (Text text) = text.now
word_text (Number n) = decimal n
word_text (Id n) = hex4 n
word_text (Ids first second) = ids_text first second
word_text (Byte n) = hex2 n
word_text (Bytes bytes) = bytes_text bytes.now
word_text (Address address) = ipv4_text (ipv4_octets address)
word_text (Endpoint endpoint) = socket_v4_text endpoint

-- words, each after a space
abbrev pub spaced : List (List ℕ) → List ℕ
spaced words = flat_map (λ word. codes " " ++ word) words

-- words with spaces between them
abbrev pub words_text : List (List ℕ) → List ℕ
words_text [] = []
words_text (word ∷ words) = word ++ spaced words
