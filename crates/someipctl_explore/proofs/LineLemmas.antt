-- Lines that are printed, and what their texts are read as.
use Rattle.std.proofs.Common.{◌≡◌, ◌==◌, ℕ, suc, ◌<◌, ◌≤◌, Bool, true, false, List, [], ◌∷◌, ◌++◌, codes, refl, sym, ap, ◌∙◌, arith, append_assoc, append-nil, ne_eqb, eq-eqb}
use Rattle.std.specs.List.{All, AllByRecursion, list_any, slice_split}
use Rattle.std.specs.Str.{is_utf8}
use Rattle.std.proofs.lemmas.List.Elements.{All-append, All-cons, All-head, All-nil, All-tail, All-weaker}
use Rattle.std.proofs.lemmas.List.Splits.{slice_split_at}
use Rattle.std.proofs.lemmas.Str.{IsUtf8-from_ascii, is_utf8-from_IsUtf8}
use Rattle.std.proofs.lemmas.Str.Ascii.{IsAscii-from_all}
use Rattle.someip_texts.specs.Lines.{lines_of}
use Rattle.someip_texts.specs.Words.{spaced}
use Rattle.someip_world_schedule.proofs.LineLemmas.{only_words}
use Rattle.someip_world_schedule.specs.Steps.{IsUnparted, joined_by_blanks, words_in}
use Rattle.someipctl_explore.specs.StepLines.{line_text}
use Rattle.someipctl_explore.proofs.WordLemmas.{IsWord, IsWordByte}

-- the text of a line without its line feed
abbrev pub line_body : List ℕ → List (List ℕ) → List ℕ
line_body head words = head ++ spaced words

-- ---- its words

joined_is : (head : List ℕ) (words : List (List ℕ)) → joined_by_blanks (head ∷ words) ≡ line_body head words
joined_is head [] = sym (append-nil head)
joined_is head (word ∷ words) = ap (λ (t : List ℕ). head ++ 0x20 ∷ t) (joined_is word words)

unparted : (word : List ℕ) → IsWord word → IsUnparted word
unparted [] h = refl
unparted (b ∷ word) h =
    let first = All-head IsWordByte b word h in
    rw (ne_eqb b 0x20 (λ e. omega (arith, first.0, e))) (unparted word (All-tail IsWordByte b word h))

all_unparted : (words : List (List ℕ)) → AllByRecursion IsWord words → AllByRecursion IsUnparted words
all_unparted [] h = tt
all_unparted (word ∷ words) h = (unparted word h.0, all_unparted words h.1)

-- a line has just its words
pub body_words : (head : List ℕ) (words : List (List ℕ)) → IsWord head → AllByRecursion IsWord words → words_in (line_body head words) ≡ head ∷ words
body_words head words h w = ap words_in (sym (joined_is head words)) ∙ only_words head words (unparted head h, all_unparted words w)

-- ---- its bytes

-- a byte that stands in a line: ASCII, and no control character
abbrev pub IsLineByte : ℕ → Type 0
IsLineByte b = (0x20 ≤ b) × (b < 0x80)

word_in_line : (word : List ℕ) → IsWord word → All IsLineByte word
word_in_line word h = All-weaker IsWordByte IsLineByte (λ b s. (omega (arith, s.0), s.1)) word h

spaced_in_line : (words : List (List ℕ)) → AllByRecursion IsWord words → All IsLineByte (spaced words)
spaced_in_line [] h = All-nil IsLineByte
spaced_in_line (word ∷ words) h =
    All-append IsLineByte (0x20 ∷ word) (spaced words) (All-cons IsLineByte 0x20 word (omega arith, omega arith) (word_in_line word h.0)) (spaced_in_line words h.1)

body_bytes : (head : List ℕ) (words : List (List ℕ)) → IsWord head → AllByRecursion IsWord words → All IsLineByte (line_body head words)
body_bytes head words h w = All-append IsLineByte head (spaced words) (word_in_line head h) (spaced_in_line words w)

pub body_utf8 : (head : List ℕ) (words : List (List ℕ)) → IsWord head → AllByRecursion IsWord words → is_utf8 (line_body head words) ≡ true
body_utf8 head words h w =
    let body = line_body head words in
    is_utf8-from_IsUtf8 body (IsUtf8-from_ascii body (IsAscii-from_all body (All-weaker IsLineByte (λ b. b < 128) (λ b s. s.1) body (body_bytes head words h w))))

-- a text that begins with a line has that, and then the lines of the rest
pub first_line : (head : List ℕ) (words : List (List ℕ)) (rest : List ℕ) → IsWord head → AllByRecursion IsWord words
    → lines_of (line_text head words ++ rest) ≡ line_body head words ∷ lines_of rest
first_line head words rest h w =
    let body = line_body head words in
    let no_feed : All (λ b. (b == 0x0a) ≡ false) body = All-weaker IsLineByte (λ b. (b == 0x0a) ≡ false) (λ b s. ne_eqb b 0x0a (λ e. omega (arith, s.0, e))) body (body_bytes head words h w) in
    let text : line_text head words ++ rest ≡ body ++ 0x0a ∷ rest =
    ap (λ (t : List ℕ). t ++ rest) (sym (append_assoc head (spaced words) (codes "\n"))) ∙ append_assoc body (codes "\n") rest in
    ap lines_of text ∙ slice_split_at (λ b. b == 0x0a) body 0x0a rest no_feed refl
