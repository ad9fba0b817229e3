-- The lines of a file of vectors, one after the other.
use Rattle.std.proofs.Common.{◌≡◌, ◌≢◌, ◌≤◌, ℕ, suc, ◌+◌, true, false, true≢false, List, [], ◌∷◌, ◌++◌, length, take, drop, filter, codes, Err, Some, None, ◌-◌, refl, sym, ap, ◌∙◌, subst, arith, length-drop}
use Rattle.std.specs.List.{AllByRecursion, enumerate_from}
use Rattle.std.specs.Str.{IsUtf8}
use Rattle.std.proofs.Math.Seq.{take-add}
use Rattle.std.proofs.lemmas.List.{append-nil, length-take-le, take-append-drop, take_all}
use Rattle.std.proofs.lemmas.List.Elements.{filter-append}
use Rattle.std.proofs.lemmas.List.FromFn.{length-enumerate_from}
use Rattle.someip_payload_values.specs.Check.{depth}
use Rattle.someip_payload_values.specs.Data.{Form}
use Rattle.someip_texts.specs.Lines.{is_left_out}
use Rattle.someipctl_show.specs.declared.vector_lines.LineFault.{LineFault}
use Rattle.someipctl_show.specs.declared.vector_lines.LineFault.TheVariants.{Bad, OutOfMemory}
use Rattle.someipctl_show.specs.Payload.{argument_bytes}
use Rattle.someipctl_show.specs.VectorLines.{AreArguments, of_datagram, of_payload, Said, asks, expects, Says, AsksNothing, IsBadBehind, IsFoundOf, is_counted, EachSays, begins_with_vector, has_vector, AreSaid, IsFirstBadLine}

-- ---- one line

-- a line that asks for nothing, and is no line of expected text, is bad
pub bad_found : (line text : List ℕ) (fault : LineFault) → text ≡ line → is_left_out line ≡ false → (fault ≡ Bad → AsksNothing text)
    → ((rest : List ℕ) → text ≢ codes "> " ++ rest) → IsFoundOf line (Err fault)
bad_found line text Bad is counts none other = λ sayings utf8. (counts, subst AsksNothing is (none refl), λ rest says. absurd (other rest (is ∙ says)))
bad_found line text OutOfMemory is counts none other = tt

abbrev first_byte : List ℕ → ℕ
first_byte [] = 0
first_byte (b ∷ bytes) = b

d_is_no_p : ◌≡◌ {A = ℕ} 100 112 → ⊥
d_is_no_p e = omega (arith, e)

-- a line that begins with another byte than `d` and `p` asks for nothing
asks_of_none : (line : List ℕ) (b : ℕ) → b ≢ 100 → b ≢ 112 → first_byte line ≡ b → AsksNothing line
asks_of_none line b no_d no_p is (of_datagram bytes) shallow says = absurd (no_d (sym is ∙ ap first_byte says.1))
asks_of_none line b no_d no_p is (of_payload shape bytes) shallow says = absurd (no_p (sym is ∙ ap first_byte says.1))

-- a line `payload ARGUMENTS` asks for nothing where the arguments say nothing
pub payload_asks_nothing : (line arguments : List ℕ) → line ≡ codes "payload " ++ arguments
    → ((shape : Form) (bytes : List ℕ) → depth shape ≤ 64 → AreArguments arguments shape bytes → ⊥) → AsksNothing line
payload_asks_nothing line arguments is none (of_datagram bytes) shallow says = absurd (d_is_no_p (ap first_byte (sym says.1 ∙ is)))
payload_asks_nothing line arguments is none (of_payload shape bytes) shallow says =
    let same : says.0 ≡ arguments = ap (drop 8) (sym says.1 ∙ is) in none shape bytes shallow (subst (λ t. AreArguments t shape bytes) same says.2)

expected_asks_none : (line text : List ℕ) → line ≡ codes "> " ++ text → AsksNothing line
expected_asks_none line text is = asks_of_none line 62 (λ e. cc e) (λ e. cc e) (ap first_byte is)

-- a line of expected text is bad where there is no vector before it
pub bad_behind : (sayings : List Said) (line : List ℕ) (said : Said) → is_left_out line ≡ false → Says line said → has_vector sayings said ≡ false
    → IsBadBehind sayings line
bad_behind sayings line (asks asked) counts says none = absurd (true≢false none)
bad_behind [] line (expects text) counts says none =
    λ utf8. (counts, expected_asks_none line text says, λ rest more. refl)
bad_behind (s ∷ sayings) line (expects text) counts says none = absurd (true≢false none)

-- text that is expected of no vector is bad
pub early_text : (text : List ℕ) → IsBadBehind [] (codes "> " ++ text)
early_text text = λ utf8. (refl, expected_asks_none (codes "> " ++ text) text refl, λ rest says. refl)

-- so is `datagram HEX` where HEX is none
pub no_hex : (sayings : List Said) (hex : List ℕ) → argument_bytes hex ≡ None → IsBadBehind sayings (codes "datagram " ++ hex)
no_hex sayings hex none =
    λ utf8. (
      refl,
      asks_nothing,
      λ text says. (let same : 100 ≡ 62 = ap first_byte says in cc same),
    )
  where
    asks_nothing : AsksNothing (codes "datagram " ++ hex)
    asks_nothing (of_datagram bytes) shallow says =
        let same : hex ≡ says.0 = ap (drop 9) says.1 in
        let some : argument_bytes hex ≡ Some bytes = ap argument_bytes same ∙ says.2 in
        let bad : None ≡ Some bytes = sym none ∙ some in absurd (cc bad)
    asks_nothing (of_payload shape bytes) shallow says = absurd (d_is_no_p (ap first_byte says.1))

-- so are `>` alone, and a space
pub bare_text : (sayings : List Said) → IsBadBehind sayings (codes ">")
bare_text sayings =
    λ utf8. (refl, asks_of_none (codes ">") 62 (λ e. cc e) (λ e. cc e) refl, λ text says. (let short : 1 ≡ suc (suc (length text)) = ap length says in absurd (omega (arith, short))))

pub blank_line : (sayings : List Said) → IsBadBehind sayings (codes " ")
blank_line sayings = λ utf8. (refl, asks_of_none (codes " ") 32 (λ e. cc e) (λ e. cc e) refl, λ text says. (let same : 32 ≡ 62 = ap first_byte says in cc same))

-- ---- one line more

utf8_more : (lines : List (List ℕ)) (line : List ℕ) → AllByRecursion IsUtf8 lines → IsUtf8 line → AllByRecursion IsUtf8 (lines ++ line ∷ [])
utf8_more [] line all utf8 = (utf8, tt)
utf8_more (x ∷ lines) line all utf8 = (all.0, utf8_more lines line all.1 utf8)

says_more : (lines : List (List ℕ)) (sayings : List Said) (line : List ℕ) (said : Said) → EachSays lines sayings → Says line said → EachSays (lines ++ line ∷ []) (sayings ++ said ∷ [])
says_more [] [] line said each says = (says, tt)
says_more [] (s ∷ sayings) line said each says = absurd each
says_more (x ∷ lines) [] line said each says = absurd each
says_more (x ∷ lines) (s ∷ sayings) line said each says = (each.0, says_more lines sayings line said each.1 says)

first_more : (sayings : List Said) (said : Said) → begins_with_vector sayings ≡ true → has_vector sayings said ≡ true → begins_with_vector (sayings ++ said ∷ []) ≡ true
first_more [] (asks asked) first has = refl
first_more [] (expects text) first has = absurd (true≢false (sym has))
first_more (asks asked ∷ sayings) said first has = refl
first_more (expects text ∷ sayings) said first has = absurd (true≢false (sym first))

said_nothing : (lines : List (List ℕ)) (sayings : List Said) (line : List ℕ) → AreSaid lines sayings → IsUtf8 line → is_left_out line ≡ true → AreSaid (lines ++ line ∷ []) sayings
said_nothing lines sayings line h utf8 out =
    let same : filter is_counted (lines ++ line ∷ []) ≡ filter is_counted lines =
    filter-append is_counted lines (line ∷ []) ∙ rw out (append-nil (filter is_counted lines)) in
    record { utf8 = utf8_more lines line h.utf8 utf8; each = subst (λ (ls : List (List ℕ)). EachSays ls sayings) (sym same) h.each; vectors_first = h.vectors_first }

said_more : (lines : List (List ℕ)) (sayings : List Said) (line : List ℕ) (said : Said) → AreSaid lines sayings → IsUtf8 line → is_left_out line ≡ false → Says line said
    → has_vector sayings said ≡ true → AreSaid (lines ++ line ∷ []) (sayings ++ said ∷ [])
said_more lines sayings line said h utf8 counts says has =
    let same : filter is_counted (lines ++ line ∷ []) ≡ filter is_counted lines ++ line ∷ [] =
    filter-append is_counted lines (line ∷ []) ∙ rw counts refl in
    record {
      utf8 = utf8_more lines line h.utf8 utf8;
      each = subst (λ (ls : List (List ℕ)). EachSays ls (sayings ++ said ∷ [])) (sym same) (says_more (filter is_counted lines) sayings line said h.each says);
      vectors_first = first_more sayings said h.vectors_first has;
    }

-- ---- the lines up to a place

-- the line after the first n
take_next : (lines : List (List ℕ)) (n : ℕ) (line : List ℕ) → drop n lines ≡ line ∷ drop (n + 1) lines → take (n + 1) lines ≡ take n lines ++ line ∷ []
take_next lines n line next = take-add n 1 lines ∙ ap (λ (ls : List (List ℕ)). take n lines ++ take 1 ls) next

pub up_to_nothing : (lines : List (List ℕ)) (n : ℕ) (line : List ℕ) (sayings : List Said) → drop n lines ≡ line ∷ drop (n + 1) lines
    → AreSaid (take n lines) sayings → IsUtf8 line → is_left_out line ≡ true → AreSaid (take (n + 1) lines) sayings
up_to_nothing lines n line sayings next h utf8 out = rw (take_next lines n line next) (said_nothing (take n lines) sayings line h utf8 out)

pub up_to_more : (lines : List (List ℕ)) (n : ℕ) (line : List ℕ) (sayings : List Said) (said : Said) → drop n lines ≡ line ∷ drop (n + 1) lines
    → AreSaid (take n lines) sayings → IsUtf8 line → is_left_out line ≡ false → Says line said → has_vector sayings said ≡ true
    → AreSaid (take (n + 1) lines) (sayings ++ said ∷ [])
up_to_more lines n line sayings said next h utf8 counts says has = rw (take_next lines n line next) (said_more (take n lines) sayings line said h utf8 counts says has)

pub up_to_bad : (lines : List (List ℕ)) (n i : ℕ) (line : List ℕ) (sayings : List Said) → (i ≡ n) × (drop n lines ≡ line ∷ drop (n + 1) lines)
    → AreSaid (take n lines) sayings → IsBadBehind sayings line → IsFirstBadLine lines (i + 1)
up_to_bad lines n i line sayings next h bad =
    let some : length lines - n ≡ suc (length (drop (n + 1) lines)) = sym (length-drop n lines) ∙ ap length next.1 in
    let within : n ≤ length lines = omega (arith, some) in
    let count : length (take n lines) ≡ n = length-take-le n lines within in
    record {
      front = take n lines;
      line = line;
      others = drop (n + 1) lines;
      parts = sym (take-append-drop n lines) ∙ ap (λ (ls : List (List ℕ)). take n lines ++ ls) next.1;
      counted = omega (arith, count, next.0);
      sayings = sayings;
      good = h;
      bad = bad;
    }

pub up_to_end : (lines : List (List ℕ)) (n : ℕ) (sayings : List Said) → n ≡ length (enumerate_from 0 lines) → AreSaid (take n lines) sayings → AreSaid lines sayings
up_to_end lines n sayings count h =
    let end : length lines ≤ n = omega (arith, count, length-enumerate_from 0 lines) in
    subst (λ (ls : List (List ℕ)). AreSaid ls sayings) (take_all n lines end) h
