-- What is read of a text is a value that has it.
use Rattle.std.proofs.Common.{◌≡◌, ℕ, zero, suc, ◌+◌, ◌<◌, inl, inr, Bool, true, false, cond, eqb, List, [], ◌∷◌, ◌++◌, length, drop, codes, Option, Some, None, refl, sym, ap, subst, ◌∙◌, append_assoc, append-nil, arith, eqb-true}
use Rattle.std.specs.Prelude.{ℤ, nat_lt, is_nan, Result, Ok, Err}
use Rattle.std.specs.Int.{from_be_bytes}
use Rattle.std.specs.List.{list_all, flat_map, AllByRecursion}
use Rattle.std.specs.Str.{bytes_eq, is_utf8}
use Rattle.std.specs.Float.Ieee.{to_bits, nan_bits}
use Rattle.std.proofs.lemmas.Slice.Eq.{bytes_eq-Decides}
use Rattle.fast_float.specs.Parse.{parse_float}
use Rattle.hex.specs.Hex.{encode_lower}
use Rattle.hex.specs.declared.error.FromHexError.{FromHexError}
use Rattle.someip_payload_values.specs.Data.{Form, bool, unsigned, signed, float, string, padded, array, fixed, «struct», union, tagged, named, enumerated, Data, truth, uint, int, real, phrase, list, Items, no_items, item}
use Rattle.someip_payload_values.specs.Floats.{Precision, format_of, bits_size, nan_text}
use Rattle.someip_payload_values.specs.Numbers.{width_of, number, limit_of}
use Rattle.someip_payload_values.specs.ValueText.{listed, behind_comma}
use Rattle.someip_payload.specs.Fronts.{common}
use Rattle.someip_payload.specs.ReadValues.{Read, ◌>>=◌, token, past_token, after, truth_of, natural_of, long_of, number_of, signed_of, unsigned_by, signed_by, unsigned_of, integer_of, bits_of, float_of, nan_with, nan_from, nan_of, nan_in, float_in, byte_of, escapes, escape_in, byte_in, unquoted, as_text, string_in, elements_in, list_in, enum_in}
use Rattle.someip_payload.specs.ValueReading.{IsTextOfUnsigned, IsTextOfSigned, IsTextOfEnum, IsTextOfFloat, truth_text, escaped_byte, IsTextOfPhrase, AreTextsOfElements, is_plain, begins_word, labelled, is_control}
use Rattle.someip_payload.proofs.ValueSteps.{none_some, some_is, pair_is, some_then, if_then, if_either, or_either, token_whole, after_is, Found, atom_found, number_is, natural_is, long_is, signed_is}
use Rattle.someip_payload.proofs.ValueTokens.{true_lt}

-- ---- atoms

pub truth_found : (t : List ℕ) (d : Data) → list_all is_plain t ≡ true → truth_of t ≡ Some d → (b : Bool) × (d ≡ truth b) × (t ≡ truth_text b)
unfolding truth_of
truth_found t d plain is = elim (if_either (bytes_eq t (codes "true")) (Some (truth true)) _ d is) [
  | inl yes_ ↦ (true, sym (some_is (truth true) d yes_.1), (bytes_eq-Decides t (codes "true")).0 yes_.0)
  | inr other ↦ let p = if_then (bytes_eq t (codes "false")) (Some (truth false)) d other.1 in (false, sym (some_is (truth false) d p.1), (bytes_eq-Decides t (codes "false")).0 p.0)
]

pub unsigned_found : (ls : List (ℤ × List ℕ)) (t : List ℕ) (d : Data) → list_all is_plain t ≡ true → unsigned_of ls t ≡ Some d → IsTextOfUnsigned ls d t
unfolding unsigned_of unsigned_by
unsigned_found ls t d plain is =
    let s = some_then (unsigned_by ls t) (λ n. Some (uint n)) d is in
    let own : d ≡ uint s.0 = sym (some_is (uint s.0) d s.2) in
    elim (if_either (begins_word t) (labelled ls t >>= natural_of) (number_of t) s.0 s.1) [
      | inl word ↦
          let l = some_then (labelled ls t) natural_of s.0 word.1 in
          let z = natural_is l.0 s.0 l.2 in
          (s.0, own, z.1, inr ((word.0, plain), l.1 ∙ ap (λ (x : ℤ). Some x) z.0))
      | inr digits_ ↦ let n = number_is t s.0 digits_.1 in (s.0, own, n.1, inl n.0)
    ]

pub signed_found : (ls : List (ℤ × List ℕ)) (t : List ℕ) (d : Data) → list_all is_plain t ≡ true → integer_of ls t ≡ Some d → IsTextOfSigned ls d t
unfolding integer_of signed_by
signed_found ls t d plain is =
    let s = some_then (signed_by ls t) (λ z. Some (int z)) d is in
    let own : d ≡ int s.0 = sym (some_is (int s.0) d s.2) in
    elim (if_either (begins_word t) (labelled ls t >>= long_of) (signed_of t) s.0 s.1) [
      | inl word ↦
          let l = some_then (labelled ls t) long_of s.0 word.1 in
          let z = long_is l.0 s.0 l.2 in
          (s.0, own, z.1, inr ((word.0, plain), l.1 ∙ ap (λ (x : ℤ). Some x) z.0))
      | inr digits_ ↦ let z = signed_is t s.0 digits_.1 in (s.0, own, z.1, inl z.0)
    ]

pub enum_found : (f : Form) (ls : List (ℤ × List ℕ)) (text : List ℕ) (d : Data) (rest : List ℕ) → enum_in f ls text ≡ Some (d, rest) → Found (IsTextOfEnum f ls d) text rest
unfolding enum_in
enum_found (unsigned order size) ls text d rest is = atom_found (unsigned_of ls) (IsTextOfUnsigned ls) (unsigned_found ls) text d rest is
enum_found (signed order size) ls text d rest is = atom_found (integer_of ls) (IsTextOfSigned ls) (signed_found ls) text d rest is
enum_found bool ls text d rest is = absurd (none_some (d, rest) is)
enum_found (float order p) ls text d rest is = absurd (none_some (d, rest) is)
enum_found (string encoding width) ls text d rest is = absurd (none_some (d, rest) is)
enum_found (padded encoding n) ls text d rest is = absurd (none_some (d, rest) is)
enum_found (array width most element) ls text d rest is = absurd (none_some (d, rest) is)
enum_found (fixed width n element) ls text d rest is = absurd (none_some (d, rest) is)
enum_found («struct» width fs) ls text d rest is = absurd (none_some (d, rest) is)
enum_found (union width type vs) ls text d rest is = absurd (none_some (d, rest) is)
enum_found (tagged width ms) ls text d rest is = absurd (none_some (d, rest) is)
enum_found (named n f) ls text d rest is = absurd (none_some (d, rest) is)
enum_found (enumerated f labels) ls text d rest is = absurd (none_some (d, rest) is)

-- ---- floats

float_of_found : (p : Precision) (t : List ℕ) (d : Data) → list_all is_plain t ≡ true → float_of p t ≡ Some d → IsTextOfFloat p d t
unfolding float_of bits_of
float_of_found p t d plain is =
    let s = some_then (bits_of p t) (λ bits. Some (real p bits)) d is in
    let x = some_then (parse_float (format_of p) t) _ s.0 s.1 in
    elim (if_either (is_nan x.0) None (Some (to_bits (format_of p) x.0)) s.0 x.2) [
      | inl nan_ ↦ absurd (none_some s.0 nan_.1)
      | inr number_ ↦ (s.0, sym (some_is (real p s.0) d s.2), inr (x.0, x.1, number_.0, sym (some_is (to_bits (format_of p) x.0) s.0 number_.1)))
    ]

nan_with_is : (p : Precision) (ds : List ℕ) (n bits : ℕ) → nan_with p ds n ≡ Some bits → (nan_bits (format_of p) bits ≡ true) × (bits < limit_of (bits_size p)) × (ds ≡ encode_lower (number (bits_size p) bits))
nan_with_is p ds n bits is =
    let a = if_then (bytes_eq (encode_lower (number (bits_size p) n)) ds) _ bits is in
    let b = if_then (nan_bits (format_of p) n) _ bits a.1 in
    let c = if_then (nat_lt n (limit_of (bits_size p))) (Some n) bits b.1 in
    let same : n ≡ bits = some_is n bits c.1 in (
      sym (ap (nan_bits (format_of p)) same) ∙ b.0,
      subst (λ (k : ℕ). k < limit_of (bits_size p)) same (true_lt n (limit_of (bits_size p)) c.0),
      sym ((bytes_eq-Decides (encode_lower (number (bits_size p) n)) ds).0 a.0) ∙ ap (λ k. encode_lower (number (bits_size p) k)) same,
    )

nan_from_is : (p : Precision) (ds : List ℕ) (r : Result (List ℕ) FromHexError) (bits : ℕ) → nan_from p ds r ≡ Some bits → (nan_bits (format_of p) bits ≡ true) × (bits < limit_of (bits_size p)) × (ds ≡ encode_lower (number (bits_size p) bits))
nan_from_is p ds (Ok bytes) bits is = nan_with_is p ds (from_be_bytes (width_of (bits_size p)) bytes) bits is
nan_from_is p ds (Err e) bits is = absurd (none_some bits is)

nan_found : (p : Precision) (text : List ℕ) (d : Data) (rest : List ℕ) → token text ≡ codes "nan" → nan_in p (past_token text) ≡ Some (d, rest) → Found (IsTextOfFloat p d) text rest
unfolding nan_in nan_of
nan_found p text d rest word is =
    let a = some_then (after 40 (past_token text)) _ (d, rest) is in
    let b = some_then (nan_of p (token a.0)) _ (d, rest) a.2 in
    let c = some_then (after 41 (past_token a.0)) _ (d, rest) b.2 in
    let same = pair_is (real p b.0) d c.0 rest c.2 in
    let nan_ = nan_from_is p (token a.0) _ b.0 b.1 in
    let hex : List ℕ = encode_lower (number (bits_size p) b.0) in
    let tail : a.0 ≡ hex ++ (41 ∷ rest) = sym (token_whole a.0) ∙ ap (λ (t : List ℕ). t ++ past_token a.0) nan_.2 ∙ ap (λ (t : List ℕ). hex ++ t) (after_is 41 (past_token a.0) c.0 c.1 ∙ ap (λ (t : List ℕ). 41 ∷ t) same.1) in
    let whole : text ≡ codes "nan(" ++ (hex ++ (41 ∷ rest)) =
    sym (token_whole text) ∙ ap (λ (t : List ℕ). t ++ past_token text) word ∙ ap (λ (t : List ℕ). codes "nan" ++ t) (after_is 40 (past_token text) a.0 a.1) ∙ ap (λ (t : List ℕ). codes "nan(" ++ t) tail in
    (nan_text p b.0, (b.0, sym same.0, inl (nan_.0, nan_.1, refl)), whole ∙ ap (λ (t : List ℕ). codes "nan(" ++ t) (sym (append_assoc hex (codes ")") rest)))

pub float_found : (p : Precision) (text : List ℕ) (d : Data) (rest : List ℕ) → float_in p text ≡ Some (d, rest) → Found (IsTextOfFloat p d) text rest
unfolding float_in
float_found p text d rest is = elim (if_either (bytes_eq (token text) (codes "nan")) _ _ (d, rest) is) [
  | inl word ↦ nan_found p text d rest ((bytes_eq-Decides (token text) (codes "nan")).0 word.0) word.1
  | inr number_ ↦ atom_found (float_of p) (IsTextOfFloat p) (float_of_found p) text d rest number_.1
]

-- ---- texts

common_is : (w text : List ℕ) → common w text ≡ length w → text ≡ w ++ drop (length w) text
common_is [] text is = refl
common_is (x ∷ xs) [] is = absurd (omega (arith, is))
common_is (x ∷ xs) (y ∷ ys) is = by (eqb x y) refl is (common_is xs ys)
  where
    by : (b : Bool) → eqb x y ≡ b → cond b (common xs ys + 1) 0 ≡ length (x ∷ xs) → (common xs ys ≡ length xs → ys ≡ xs ++ drop (length xs) ys) → y ∷ ys ≡ x ∷ (xs ++ drop (length xs) ys)
    by true same both_ rest = let first = eqb-true x y same in let others = rest (omega (arith, both_)) in λ i. sym first i ∷ others i
    by false same both_ rest = absurd (omega (arith, both_))

byte_of_found : (ws : List (List ℕ × ℕ)) (text : List ℕ) (b : ℕ) (rest : List ℕ) → AllByRecursion (λ (w : List ℕ × ℕ). 92 ∷ w.0 ≡ escaped_byte w.1) ws → byte_of ws text ≡ Some (b, rest) → 92 ∷ text ≡ escaped_byte b ++ rest
unfolding byte_of
byte_of_found [] text b rest all is = absurd (none_some (b, rest) is)
byte_of_found (w ∷ ws) text b rest all is = elim (if_either (eqb (common w.0 text) (length w.0)) (Some (w.1, drop (length w.0) text)) (byte_of ws text) (b, rest) is) [
  | inl here ↦
      let same = pair_is w.1 b (drop (length w.0) text) rest here.1 in
      ap (λ (t : List ℕ). 92 ∷ t) (common_is w.0 text (eqb-true (common w.0 text) (length w.0) here.0)) ∙ ap (λ (t : List ℕ). t ++ drop (length w.0) text) (all.0 ∙ ap escaped_byte same.0) ∙ ap (λ (t : List ℕ). escaped_byte b ++ t) same.1
  | inr others ↦ byte_of_found ws text b rest all.1 others.1
]

escapes_are : AllByRecursion (λ (w : List ℕ × ℕ). 92 ∷ w.0 ≡ escaped_byte w.1) escapes
escapes_are = (refl, (refl, (refl, (refl, (refl, (refl, (refl, (refl, (refl, (refl, (refl, (refl, (refl, (refl, (refl, (refl, (refl, (refl, (refl, (refl, (refl, (refl, (refl, (refl, (refl, (refl, (refl, (refl, (refl, (refl, (refl, (refl, (refl, (refl, (refl, tt)))))))))))))))))))))))))))))))))))

if_not : {A : Type 0} (b : Bool) (o : Option A) (y : A) → cond b None o ≡ Some y → (b ≡ false) × (o ≡ Some y)
if_not true o y is = absurd (none_some y is)
if_not false o y is = (refl, is)

byte_by : (b : ℕ) (bs : List ℕ) (quote back control : Bool) (c : ℕ) (rest : List ℕ) → eqb b 34 ≡ quote → eqb b 92 ≡ back → is_control b ≡ control → quote ≡ false
    → cond back (escape_in bs) (cond control None (Some (b, bs))) ≡ Some (c, rest) → b ∷ bs ≡ escaped_byte c ++ rest
unfolding escape_in
byte_by b bs quote true control c rest isq isb isc noq is = ap (λ n. n ∷ bs) (eqb-true b 92 isb) ∙ byte_of_found escapes bs c rest escapes_are is
byte_by b bs quote false true c rest isq isb isc noq is = absurd (none_some (c, rest) is)
byte_by b bs quote false false c rest isq isb isc noq is =
    let same = pair_is b c bs rest is in
    let plain : escaped_byte b ≡ b ∷ [] = rw (isq, noq, isb, isc) refl in
    ap (λ (t : List ℕ). t ++ bs) (sym plain) ∙ ap (λ n. escaped_byte n ++ bs) same.0 ∙ ap (λ (t : List ℕ). escaped_byte c ++ t) same.1

no_quote : (b : ℕ) (bs : List ℕ) (q : Bool) → eqb b 34 ≡ q → cond q (Some bs) None ≡ None → q ≡ false
no_quote b bs true is none = absurd (none_some bs (sym none))
no_quote b bs false is none = refl

byte_found : (text : List ℕ) (c : ℕ) (rest : List ℕ) → after 34 text ≡ None → byte_in text ≡ Some (c, rest) → text ≡ escaped_byte c ++ rest
unfolding byte_in after
byte_found [] c rest none is = absurd (none_some (c, rest) is)
byte_found (b ∷ bs) c rest none is = byte_by b bs (eqb b 34) (eqb b 92) (is_control b) c rest refl refl refl (no_quote b bs (eqb b 34) refl none) is

unquoted_found : (left : ℕ) (text s rest : List ℕ) → unquoted left text ≡ Some (s, rest) → text ≡ flat_map escaped_byte s ++ (34 ∷ rest)
unfolding unquoted
unquoted_found zero text s rest is = absurd (none_some (s, rest) is)
unquoted_found (suc left) text s rest is = elim (or_either (after 34 text) _ _ (s, rest) is) [
  | inl end ↦
      let same = pair_is [] s end.0 rest end.2 in
      after_is 34 text end.0 end.1 ∙ ap (λ (t : List ℕ). 34 ∷ t) same.1 ∙ ap (λ (t : List ℕ). flat_map escaped_byte t ++ (34 ∷ rest)) same.0
  | inr more ↦
      let a = some_then (byte_in text) _ (s, rest) more.1 in
      let b = some_then (unquoted left a.0.1) _ (s, rest) a.2 in
      let same = pair_is (a.0.0 ∷ b.0.0) s b.0.1 rest b.2 in
      let others = unquoted_found left a.0.1 b.0.0 b.0.1 b.1 in
      byte_found text a.0.0 a.0.1 more.0 a.1 ∙ ap (λ (t : List ℕ). escaped_byte a.0.0 ++ t) others ∙ sym (append_assoc (escaped_byte a.0.0) (flat_map escaped_byte b.0.0) (34 ∷ b.0.1))
      ∙ ap (λ (t : List ℕ). flat_map escaped_byte t ++ (34 ∷ b.0.1)) same.0 ∙ ap (λ (t : List ℕ). flat_map escaped_byte s ++ (34 ∷ t)) same.1
]

pub string_found : (text : List ℕ) (d : Data) (rest : List ℕ) → string_in text ≡ Some (d, rest) → Found (IsTextOfPhrase d) text rest
unfolding string_in as_text
string_found text d rest is =
    let a = some_then (after 34 text) _ (d, rest) is in
    let b = some_then (unquoted (length a.0) a.0) _ (d, rest) a.2 in
    let c = some_then (as_text b.0.0) _ (d, rest) b.2 in
    let t = if_then (is_utf8 b.0.0) (Some b.0.0) c.0 c.1 in
    let same = pair_is (phrase c.0) d b.0.1 rest c.2 in
    let own : b.0.0 ≡ c.0 = some_is b.0.0 c.0 t.1 in
    let inner = unquoted_found (length a.0) a.0 b.0.0 b.0.1 b.1 in (
      codes "\"" ++ (flat_map escaped_byte c.0 ++ codes "\""),
      (c.0, sym same.0, ap is_utf8 (sym own) ∙ t.0, refl),
      after_is 34 text a.0 a.1 ∙ ap (λ (x : List ℕ). 34 ∷ x) inner ∙ ap (λ (x : List ℕ). 34 ∷ (flat_map escaped_byte x ++ (34 ∷ b.0.1))) own ∙ ap (λ (x : List ℕ). 34 ∷ (flat_map escaped_byte c.0 ++ (34 ∷ x))) same.1
          ∙ ap (λ (x : List ℕ). 34 ∷ x) (sym (append_assoc (flat_map escaped_byte c.0) (codes "\"") rest)),
    )

-- ---- elements

abbrev Elements : (Data → List ℕ → Type 0) → Items → List ℕ → List ℕ → Type 0
Elements IsText ds text rest = (t : List ℕ) × (ts : List (List ℕ)) × AreTextsOfElements IsText ds (t ∷ ts) × (text ≡ listed (t ∷ ts) ++ (93 ∷ rest))

elements_found : (one : List ℕ → Read Data) (IsText : Data → List ℕ → Type 0) → ((text : List ℕ) (d : Data) (rest : List ℕ) → one text ≡ Some (d, rest) → Found (IsText d) text rest)
    → (left : ℕ) (text : List ℕ) (ds : Items) (rest : List ℕ) → elements_in one left text ≡ Some (ds, rest) → Elements IsText ds text rest
unfolding elements_in
elements_found one IsText each zero text ds rest is = absurd (none_some (ds, rest) is)
elements_found one IsText each (suc left) text ds rest is =
    let a = some_then (one text) _ (ds, rest) is in
    let own = each text a.0.0 a.0.1 a.1 in
    elim (or_either (after 93 a.0.1) _ _ (ds, rest) a.2) [
      | inl end ↦
          let same = pair_is (item a.0.0 no_items) ds end.0 rest end.2 in (
            own.0,
            [],
            subst (λ (x : Items). AreTextsOfElements IsText x (own.0 ∷ [])) same.0 (own.1, tt),
            own.2 ∙ ap (λ (t : List ℕ). own.0 ++ t) (after_is 93 a.0.1 end.0 end.1 ∙ ap (λ (t : List ℕ). 93 ∷ t) same.1) ∙ ap (λ (t : List ℕ). t ++ (93 ∷ rest)) (sym (append-nil own.0)),
          )
      | inr more ↦
          let b = some_then (after 44 a.0.1) _ (ds, rest) more.1 in
          let c = some_then (elements_in one left b.0) _ (ds, rest) b.2 in
          let same = pair_is (item a.0.0 c.0.0) ds c.0.1 rest c.2 in
          let others = elements_found one IsText each left b.0 c.0.0 c.0.1 c.1 in
          let tail : List ℕ = flat_map behind_comma (others.0 ∷ others.1) in (
            own.0,
            others.0 ∷ others.1,
            subst (λ (x : Items). AreTextsOfElements IsText x (own.0 ∷ others.0 ∷ others.1)) same.0 (own.1, others.2),
            own.2 ∙ ap (λ (t : List ℕ). own.0 ++ t) (after_is 44 a.0.1 b.0 b.1 ∙ ap (λ (t : List ℕ). 44 ∷ t) others.3 ∙ ap (λ (t : List ℕ). tail ++ (93 ∷ t)) same.1) ∙ sym (append_assoc own.0 tail (93 ∷ rest)),
          )
    ]

abbrev IsTextOfList : (Data → List ℕ → Type 0) → Data → List ℕ → Type 0
IsTextOfList IsText d text = (ds : Items) × (ts : List (List ℕ)) × (d ≡ list ds) × AreTextsOfElements IsText ds ts × (text ≡ codes "[" ++ (listed ts ++ codes "]"))

pub list_found : (one : List ℕ → Read Data) (IsText : Data → List ℕ → Type 0) → ((text : List ℕ) (d : Data) (rest : List ℕ) → one text ≡ Some (d, rest) → Found (IsText d) text rest)
    → (text : List ℕ) (d : Data) (rest : List ℕ) → list_in one text ≡ Some (d, rest) → Found (IsTextOfList IsText d) text rest
unfolding list_in
list_found one IsText each text d rest is =
    let a = some_then (after 91 text) _ (d, rest) is in
    elim (or_either (after 93 a.0) _ _ (d, rest) a.2) [
      | inl none ↦
          let same = pair_is (list no_items) d none.0 rest none.2 in (
            codes "[]",
            (no_items, [], sym same.0, tt, refl),
            after_is 91 text a.0 a.1 ∙ ap (λ (t : List ℕ). 91 ∷ t) (after_is 93 a.0 none.0 none.1 ∙ ap (λ (t : List ℕ). 93 ∷ t) same.1),
          )
      | inr some ↦
          let b = some_then (elements_in one (length a.0) a.0) _ (d, rest) some.1 in
          let same = pair_is (list b.0.0) d b.0.1 rest b.2 in
          let e = elements_found one IsText each (length a.0) a.0 b.0.0 b.0.1 b.1 in
          let whole : List ℕ = listed (e.0 ∷ e.1) in (
            codes "[" ++ (whole ++ codes "]"),
            (b.0.0, e.0 ∷ e.1, sym same.0, e.2, refl),
            after_is 91 text a.0 a.1 ∙ ap (λ (t : List ℕ). 91 ∷ t) (e.3 ∙ ap (λ (t : List ℕ). whole ++ (93 ∷ t)) same.1) ∙ ap (λ (t : List ℕ). 91 ∷ t) (sym (append_assoc whole (codes "]") rest)),
          )
    ]
