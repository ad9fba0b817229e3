-- A text says the same over names that agree on those that it refers to, and these all stand for something.
use Rattle.std.proofs.Common.{◌≡◌, ℕ, ℤ, pos, negsuc, ◌+◌, ◌%◌, ◌<◌, ◌≤◌, ◌^◌, ◌==◌, ◌⊎◌, inl, inr, ⊎_elim, Bool, true, false, not, List, [], ◌∷◌, ◌++◌, codes, Option, Some, None, append-nil, append_assoc, refl, sym, ap, ◌∙◌, subst, arith}
use Rattle.std.specs.Fmt.{decimal}
use Rattle.std.specs.List.{list_all}
use Rattle.std.specs.Option.{is_some}
use Rattle.std.proofs.lemmas.Bool.{and_parts}
use Rattle.std.proofs.lemmas.Bool.Decides.{nat_tests}
use Rattle.std.proofs.lemmas.Fmt.{decimal_by_steps}
use Rattle.someip_payload_values.specs.Data.{Form, Forms, Variants, Members}
use Rattle.someip_payload_values.specs.declared.shape.Width.{Width}
use Rattle.someip_payload_values.specs.declared.shape.Width.TheVariants.{W8, W16, W32}
use Rattle.someip_payload.specs.Named.{NamedForms}
use Rattle.someip_payload.specs.References.{HasNoSign}
use Rattle.someip_payload.specs.ShapeText.{EndsName, IsNameIfAny, IsValue, name_text, width_text, widths_text, mark_text, value_text, room_text, repeated_text, tagged_member_text, IsTextOfLabel, IsTextOfLabels, last_label, next_label, IsInteger, u8_text, u16_text, u32_text, u64_text, i8_text, i16_text, i32_text, i64_text, u16le_text, u32le_text, u64le_text, i16le_text, i32le_text, i64le_text, IsFloat, f32_text, f64_text, f32le_text, f64le_text, IsTextIn, bool_text, integer_text, float_text, enum_text, utf8_text, utf16_text, utf8fix_text, utf16fix_text, array_text, fixed_text, struct_text, union_text, tagged_text, reference_text, IsTextOfMember, member_text, IsTextOfMembers, last_member, next_member, IsTextOfVariants, last_variant, next_variant, IsTextOfTagged, tagged_one, IsTextOfTaggedMembers, last_tagged, next_tagged}
use Rattle.someipctl_show.specs.types.References.{references, Agrees, IsOneOf, Knows, KnowsAll}
use Rattle.someipctl_show.proofs.about_types.ReferenceLemmas.{no_sign_before, references-append, name_parts, no_sign_later, name_alone}

-- ---- texts without an `@`

no_sign-append : (a b : List ℕ) → HasNoSign a → HasNoSign b → HasNoSign (a ++ b)
no_sign-append [] b none more = more
no_sign-append (x ∷ xs) b none more = (none.0, no_sign-append xs b none.1 more)

digit_sign : (d : ℕ) → d < 10 → HasNoSign ((48 + d) ∷ [])
digit_sign d lt = (λ e. omega (arith, e, lt), tt)

decimal_sign : (n : ℕ) → n < 2 ^ 64 → HasNoSign (decimal n)
decimal_sign n small =
    decimal_by_steps (λ k ds. k < 2 ^ 64 → HasNoSign ds) (λ k lt fits. digit_sign k lt)
    (λ k ds le rest fits. no_sign-append ds ((48 + k % 10) ∷ []) (rest (omega arith)) (digit_sign (k % 10) (omega arith))) n small small

-- a number of fewer bits
small_sign : (n k : ℕ) → n < k → k ≤ 2 ^ 64 → HasNoSign (decimal n)
small_sign n k lt le = decimal_sign n (omega arith)

-- a text that can be looked through
no_sign : (t : List ℕ) → list_all (λ b. not (b == 64)) t ≡ true → HasNoSign t
no_sign [] all = tt
no_sign (b ∷ bs) all =
    let (here, rest) = and_parts (not (b == 64)) (list_all (λ c. not (c == 64)) bs) all in
    (λ e. other b e here, no_sign bs rest)
  where
    other : (b : ℕ) → b ≡ 64 → not (b == 64) ≡ true → ⊥
    other b e h = grind (arith, nat_tests)

width_sign : (w : Option Width) → HasNoSign (width_text w)
width_sign None = tt
width_sign (Some W8) = no_sign (codes "/8") refl
width_sign (Some W16) = no_sign (codes "/16") refl
width_sign (Some W32) = no_sign (codes "/32") refl

widths_sign : (ws : Option (Width × Width)) → HasNoSign (widths_text ws)
widths_sign None = tt
widths_sign (Some ws) = no_sign-append (width_text (Some ws.0)) (width_text (Some ws.1)) (width_sign (Some ws.0)) (width_sign (Some ws.1))

mark_sign : (optional : Bool) → HasNoSign (mark_text optional)
mark_sign true = no_sign (codes "?") refl
mark_sign false = tt

name_sign : (name : Option (List ℕ)) → IsNameIfAny name → HasNoSign (name_text name)
name_sign None is = tt
name_sign (Some n) is = no_sign-append n (codes ":") (no_sign_later n (name_parts n is).0) (no_sign (codes ":") refl)

value_sign : (v : ℤ) → IsValue v → HasNoSign (value_text v)
value_sign (pos n) small = decimal_sign n small
value_sign (negsuc n) small = no_sign-append (codes "-") (decimal (n + 1)) (no_sign (codes "-") refl) (decimal_sign (n + 1) (omega (arith, small)))

label_sign : (l : ℤ × List ℕ) (text : List ℕ) → IsTextOfLabel l text → HasNoSign text
label_sign l text is =
    subst HasNoSign (sym is.2)
    (no_sign-append (value_text l.0) (codes "=" ++ l.1) (value_sign l.0 is.0) (no_sign-append (codes "=") l.1 (no_sign (codes "=") refl) (no_sign_later l.1 (name_parts l.1 is.1).0)))

labels_sign : (ls : List (ℤ × List ℕ)) (text : List ℕ) → IsTextOfLabels ls text → HasNoSign text
labels_sign _ _ (last_label l text is) = label_sign l text is
labels_sign _ _ (next_label l ls text others is are) =
    no_sign-append text (codes "," ++ others) (label_sign l text is) (no_sign-append (codes ",") others (no_sign (codes ",") refl) (labels_sign ls others are))

integer_sign : (f : Form) (text : List ℕ) → IsInteger f text → HasNoSign text
integer_sign f text u8_text = no_sign (codes "u8") refl
integer_sign f text u16_text = no_sign (codes "u16") refl
integer_sign f text u32_text = no_sign (codes "u32") refl
integer_sign f text u64_text = no_sign (codes "u64") refl
integer_sign f text i8_text = no_sign (codes "i8") refl
integer_sign f text i16_text = no_sign (codes "i16") refl
integer_sign f text i32_text = no_sign (codes "i32") refl
integer_sign f text i64_text = no_sign (codes "i64") refl
integer_sign f text u16le_text = no_sign (codes "u16le") refl
integer_sign f text u32le_text = no_sign (codes "u32le") refl
integer_sign f text u64le_text = no_sign (codes "u64le") refl
integer_sign f text i16le_text = no_sign (codes "i16le") refl
integer_sign f text i32le_text = no_sign (codes "i32le") refl
integer_sign f text i64le_text = no_sign (codes "i64le") refl

float_sign : (f : Form) (text : List ℕ) → IsFloat f text → HasNoSign text
float_sign f text f32_text = no_sign (codes "f32") refl
float_sign f text f64_text = no_sign (codes "f64") refl
float_sign f text f32le_text = no_sign (codes "f32le") refl
float_sign f text f64le_text = no_sign (codes "f64le") refl

room_sign : (n : ℕ) → n < 2 ^ 32 → HasNoSign (room_text n)
room_sign n small = no_sign-append (codes "<") (decimal n ++ codes ">") (no_sign (codes "<") refl) (no_sign-append (decimal n) (codes ">") (decimal_sign n (omega (arith, small))) (no_sign (codes ">") refl))

-- ---- names and those that a text refers to

-- what is said over names: they know these, and it is said over all that agree with them on these
pub record Linked (a : NamedForms) (Says : NamedForms → Type 0) (ns : List (List ℕ)) : Type 0 where
  pub known : KnowsAll a ns
  pub again : (b : NamedForms) → Agrees a b ns → Says b

one_left : (n : List ℕ) (ms ks : List (List ℕ)) → IsOneOf n ms → IsOneOf n (ms ++ ks)
one_left n [] ks one = absurd one
one_left n (m ∷ ms) ks one = ⊎_elim (λ same. inl same) (λ later. inr (one_left n ms ks later)) one

pub one_right : (n : List ℕ) (ms ks : List (List ℕ)) → IsOneOf n ks → IsOneOf n (ms ++ ks)
one_right n [] ks one = one
one_right n (m ∷ ms) ks one = inr (one_right n ms ks one)

pub one_of_both : (n : List ℕ) (ms ks : List (List ℕ)) → IsOneOf n (ms ++ ks) → IsOneOf n ms ⊎ IsOneOf n ks
one_of_both n [] ks one = inr one
one_of_both n (m ∷ ms) ks one = ⊎_elim (λ same. inl (inl same)) (λ later. ⊎_elim (λ l. inl (inr l)) (λ r. inr r) (one_of_both n ms ks later)) one

module _ (a : NamedForms) (P Q R : NamedForms → Type 0) where
  linked_none : (ns : List (List ℕ)) → ns ≡ [] → ((b : NamedForms) → R b) → Linked a R ns
  linked_none ns is says = record { known = λ n one. absurd (subst (IsOneOf n) is one); again = λ b agrees. says b }

  linked_one : (ms ns : List (List ℕ)) → ns ≡ ms → Linked a P ms → ((b : NamedForms) → P b → R b) → Linked a R ns
  linked_one ms ns is h says = record {
    known = λ n one. h.known n (subst (IsOneOf n) is one);
    again = λ b agrees. says b (h.again b (λ n f one. agrees n f (subst (IsOneOf n) (sym is) one)));
  }

  linked_both : (ms ks ns : List (List ℕ)) → ns ≡ ms ++ ks → Linked a P ms → Linked a Q ks → ((b : NamedForms) → P b → Q b → R b) → Linked a R ns
  linked_both ms ks ns is h g says = record {
    known = λ n one. ⊎_elim (h.known n) (g.known n) (one_of_both n ms ks (subst (IsOneOf n) is one));
    again = λ b agrees.
        says b (h.again b (λ n f one. agrees n f (subst (IsOneOf n) (sym is) (one_left n ms ks one)))) (g.again b (λ n f one. agrees n f (subst (IsOneOf n) (sym is) (one_right n ms ks one))));
  }

refs_none : (t : List ℕ) → HasNoSign t → references t ≡ []
refs_none t none = ap references (sym (append-nil t)) ∙ no_sign_before t [] none

-- a text between others that refer to nothing
refs_inner : (t a s c : List ℕ) → t ≡ a ++ (s ++ c) → HasNoSign a → EndsName c → HasNoSign c → references t ≡ references s
refs_inner t a s c is before ends after =
    ap references is ∙ no_sign_before a (s ++ c) before ∙ references-append s c ends ∙ ap (λ (ns : List (List ℕ)). references s ++ ns) (refs_none c after) ∙ append-nil (references s)

-- repetitions of what a text says
abbrev repeated_head : Option Width → ℕ → List ℕ
repeated_head w n = width_text w ++ (codes "<" ++ (decimal n ++ codes ","))

repeated_sign : (w : Option Width) (n : ℕ) → n < 2 ^ 32 → HasNoSign (repeated_head w n)
repeated_sign w n small =
    no_sign-append (width_text w) (codes "<" ++ (decimal n ++ codes ",")) (width_sign w)
    (no_sign-append (codes "<") (decimal n ++ codes ",") (no_sign (codes "<") refl) (no_sign-append (decimal n) (codes ",") (decimal_sign n (omega (arith, small))) (no_sign (codes ",") refl)))

angle_end : EndsName (codes ">") × HasNoSign (codes ">")
angle_end = (refl, no_sign (codes ">") refl)

bracket_end : EndsName (codes ")") × HasNoSign (codes ")")
bracket_end = (refl, no_sign (codes ")") refl)

repeated_refs : (word : List ℕ) (w : Option Width) (n : ℕ) (text : List ℕ) → HasNoSign word → n < 2 ^ 32 → references (word ++ (width_text w ++ repeated_text n text)) ≡ references text
repeated_refs word w n text none small =
    refs_inner (word ++ (width_text w ++ repeated_text n text)) (word ++ repeated_head w n) text (codes ">") (simp append_assoc)
    (no_sign-append word (repeated_head w n) none (repeated_sign w n small)) angle_end.0 angle_end.1

-- members in brackets
bracket_refs : (word widths text : List ℕ) → HasNoSign word → HasNoSign widths → references (word ++ (widths ++ (codes "(" ++ (text ++ codes ")")))) ≡ references text
bracket_refs word widths text none none_more =
    refs_inner (word ++ (widths ++ (codes "(" ++ (text ++ codes ")")))) (word ++ (widths ++ codes "(")) text (codes ")") (simp append_assoc)
    (no_sign-append word (widths ++ codes "(") none (no_sign-append widths (codes "(") none_more (no_sign (codes "(") refl))) bracket_end.0 bracket_end.1

variant_refs : (n : ℕ) (text : List ℕ) → n < 2 ^ 32 → references (decimal n ++ (codes ":" ++ text)) ≡ references text
variant_refs n text small = no_sign_before (decimal n) (codes ":" ++ text) (decimal_sign n (omega (arith, small)))

tagged_refs : (name : Option (List ℕ)) (id : ℕ) (optional : Bool) (text : List ℕ) → IsNameIfAny name → id < 2 ^ 12 → references (name_text name ++ tagged_member_text id optional text) ≡ references text
tagged_refs name id optional text is small =
    no_sign_before (name_text name) (tagged_member_text id optional text) (name_sign name is)
    ∙ no_sign_before (decimal id) (mark_text optional ++ (codes ":" ++ text)) (decimal_sign id (omega (arith, small)))
    ∙ no_sign_before (mark_text optional) (codes ":" ++ text) (mark_sign optional)

comma_refs : (text others : List ℕ) → references (text ++ (codes "," ++ others)) ≡ references text ++ references others
comma_refs text others = references-append text (codes "," ++ others) refl

plain : (a : NamedForms) (f : Form) (text : List ℕ) → HasNoSign text → ((b : NamedForms) → IsTextIn b f text) → Linked a (λ b. IsTextIn b f text) (references text)
plain a f text none says = linked_none a (λ b. ⊥) (λ b. ⊥) (λ b. IsTextIn b f text) (references text) (refs_none text none) says

mutual
  pub link : (a : NamedForms) (f : Form) (text : List ℕ) → IsTextIn a f text → Linked a (λ b. IsTextIn b f text) (references text)
  link a _ _ bool_text = plain a _ _ (no_sign (codes "bool") refl) (λ b. bool_text)
  link a _ _ (integer_text f text is) = plain a f text (integer_sign f text is) (λ b. integer_text f text is)
  link a _ _ (float_text f text is) = plain a f text (float_sign f text is) (λ b. float_text f text is)
  link a _ _ (enum_text f word ls text is are) =
      plain a _ _
      (no_sign-append word (codes "{" ++ (text ++ codes "}")) (integer_sign f word is)
      (no_sign-append (codes "{") (text ++ codes "}") (no_sign (codes "{") refl) (no_sign-append text (codes "}") (labels_sign ls text are) (no_sign (codes "}") refl))))
      (λ b. enum_text f word ls text is are)
  link a _ _ (utf8_text w) = plain a _ _ (no_sign-append (codes "utf8") (width_text w) (no_sign (codes "utf8") refl) (width_sign w)) (λ b. utf8_text w)
  link a _ _ (utf16_text w) = plain a _ _ (no_sign-append (codes "utf16") (width_text w) (no_sign (codes "utf16") refl) (width_sign w)) (λ b. utf16_text w)
  link a _ _ (utf8fix_text n small) = plain a _ _ (no_sign-append (codes "utf8fix") (room_text n) (no_sign (codes "utf8fix") refl) (room_sign n small)) (λ b. utf8fix_text n small)
  link a _ _ (utf16fix_text n small) = plain a _ _ (no_sign-append (codes "utf16fix") (room_text n) (no_sign (codes "utf16fix") refl) (room_sign n small)) (λ b. utf16fix_text n small)
  link a _ _ (array_text w n f text small is) =
      linked_one a (λ b. IsTextIn b f text) (λ b. ⊥) (λ b. IsTextIn b _ _) (references text) _ (repeated_refs (codes "array") w n text (no_sign (codes "array") refl) small) (link a f text is) (λ b h. array_text w n f text small h)
  link a _ _ (fixed_text w n f text small is) =
      linked_one a (λ b. IsTextIn b f text) (λ b. ⊥) (λ b. IsTextIn b _ _) (references text) _ (repeated_refs (codes "fixed") w n text (no_sign (codes "fixed") refl) small) (link a f text is) (λ b h. fixed_text w n f text small h)
  link a _ _ (struct_text w fs text are) =
      linked_one a (λ b. IsTextOfMembers b fs text) (λ b. ⊥) (λ b. IsTextIn b _ _) (references text) _ (bracket_refs (codes "struct") (width_text w) text (no_sign (codes "struct") refl) (width_sign w)) (link_members a fs text are)
      (λ b h. struct_text w fs text h)
  link a _ _ (union_text ws vs text are) =
      linked_one a (λ b. IsTextOfVariants b vs text) (λ b. ⊥) (λ b. IsTextIn b _ _) (references text) _ (bracket_refs (codes "union") (widths_text ws) text (no_sign (codes "union") refl) (widths_sign ws)) (link_variants a vs text are)
      (λ b h. union_text ws vs text h)
  link a _ _ (tagged_text w ms text are) =
      linked_one a (λ b. IsTextOfTaggedMembers b ms text) (λ b. ⊥) (λ b. IsTextIn b _ _) (references text) _ (bracket_refs (codes "tagged") (width_text w) text (no_sign (codes "tagged") refl) (width_sign w))
      (link_tagged_members a ms text are) (λ b h. tagged_text w ms text h)
  link a _ _ (reference_text n f name stands) = record {
    known = λ m one. ⊎_elim (λ same. subst (Knows a) (sym same) (ap is_some stands)) (λ never. absurd never) (subst (IsOneOf m) (name_alone n name) one);
    again = λ b agrees. reference_text n f name (agrees n f (subst (IsOneOf n) (sym (name_alone n name)) (inl refl)) stands);
  }

  link_member : (a : NamedForms) (f : Form) (text : List ℕ) → IsTextOfMember a f text → Linked a (λ b. IsTextOfMember b f text) (references text)
  link_member a _ _ (member_text name f text named is) =
      linked_one a (λ b. IsTextIn b f text) (λ b. ⊥) (λ b. IsTextOfMember b _ _) (references text) _ (no_sign_before (name_text name) text (name_sign name named)) (link a f text is) (λ b h. member_text name f text named h)

  link_members : (a : NamedForms) (fs : Forms) (text : List ℕ) → IsTextOfMembers a fs text → Linked a (λ b. IsTextOfMembers b fs text) (references text)
  link_members a _ _ (last_member f text is) =
      linked_one a (λ b. IsTextOfMember b f text) (λ b. ⊥) (λ b. IsTextOfMembers b _ text) (references text) (references text) refl (link_member a f text is) (λ b h. last_member f text h)
  link_members a _ _ (next_member f fs text others is are) =
      linked_both a (λ b. IsTextOfMember b f text) (λ b. IsTextOfMembers b fs others) (λ b. IsTextOfMembers b _ _) (references text) (references others) _ (comma_refs text others) (link_member a f text is) (link_members a fs others are)
      (λ b h g. next_member f fs text others h g)

  link_variants : (a : NamedForms) (vs : Variants) (text : List ℕ) → IsTextOfVariants a vs text → Linked a (λ b. IsTextOfVariants b vs text) (references text)
  link_variants a _ _ (last_variant n f text small is) =
      linked_one a (λ b. IsTextIn b f text) (λ b. ⊥) (λ b. IsTextOfVariants b _ _) (references text) _ (variant_refs n text small) (link a f text is) (λ b h. last_variant n f text small h)
  link_variants a _ _ (next_variant n f vs text others small is are) =
      linked_both a (λ b. IsTextIn b f text) (λ b. IsTextOfVariants b vs others) (λ b. IsTextOfVariants b _ _) (references text) (references others) _
      (comma_refs (decimal n ++ (codes ":" ++ text)) others ∙ ap (λ (ns : List (List ℕ)). ns ++ references others) (variant_refs n text small)) (link a f text is) (link_variants a vs others are)
      (λ b h g. next_variant n f vs text others small h g)

  link_tagged : (a : NamedForms) (id : ℕ) (optional : Bool) (f : Form) (text : List ℕ) → IsTextOfTagged a id optional f text → Linked a (λ b. IsTextOfTagged b id optional f text) (references text)
  link_tagged a _ _ _ _ (tagged_one name id optional f text named small is) =
      linked_one a (λ b. IsTextIn b f text) (λ b. ⊥) (λ b. IsTextOfTagged b _ _ _ _) (references text) _ (tagged_refs name id optional text named small) (link a f text is) (λ b h. tagged_one name id optional f text named small h)

  link_tagged_members : (a : NamedForms) (ms : Members) (text : List ℕ) → IsTextOfTaggedMembers a ms text → Linked a (λ b. IsTextOfTaggedMembers b ms text) (references text)
  link_tagged_members a _ _ (last_tagged id optional f text is) =
      linked_one a (λ b. IsTextOfTagged b id optional f text) (λ b. ⊥) (λ b. IsTextOfTaggedMembers b _ text) (references text) (references text) refl (link_tagged a id optional f text is) (λ b h. last_tagged id optional f text h)
  link_tagged_members a _ _ (next_tagged id optional f ms text others is are) =
      linked_both a (λ b. IsTextOfTagged b id optional f text) (λ b. IsTextOfTaggedMembers b ms others) (λ b. IsTextOfTaggedMembers b _ _) (references text) (references others) _ (comma_refs text others) (link_tagged a id optional f text is)
      (link_tagged_members a ms others are) (λ b h g. next_tagged id optional f ms text others h g)
