-- Forms as trees of numbers, by which proofs tell them apart.
use Rattle.std.specs.Prelude.{ℕ, ℤ, pos, negsuc, [], ◌∷◌, ◌==◌, Bool, true, false, if◌then◌else◌, List, Option, Some, None, ◌≡◌, refl}
use Rattle.std.proofs.Common.{ap, ◌∙◌}
use Rattle.std.specs.Coded.{Coded, code_by, coded×, coded_ℕ, coded_list}
use base.Stored.{Gv, gnil, gnum, gcons, num}
use Rattle.someip_payload_values.specs.declared.number.Order.{Order}
use Rattle.someip_payload_values.specs.declared.number.Order.TheVariants.{Big, Little}
use Rattle.someip_payload_values.specs.declared.number.Size.{Size}
use Rattle.someip_payload_values.specs.declared.number.Size.TheVariants.{S8, S16, S32, S64}
use Rattle.someip_payload_values.specs.declared.shape.Width.{Width}
use Rattle.someip_payload_values.specs.declared.shape.Width.TheVariants.{W8, W16, W32}
use Rattle.someip_payload_values.specs.declared.shape.Encoding.{Encoding}
use Rattle.someip_payload_values.specs.declared.shape.Encoding.TheVariants.{Utf8, Utf16}
use Rattle.someip_payload_values.specs.Floats.{Precision, single, double}
use Rattle.someip_payload_values.specs.Numbers.{bit_of}
use Rattle.someip_payload_values.specs.Data.{Form, bool, unsigned, signed, float, string, padded, array, fixed, «struct», union, tagged, named, enumerated, Forms, no_forms, form_then, Variants, no_variants, variant, Members, no_members, member_then}
use Rattle.someip_payload.specs.Named.{NamedForms}

-- ---- the numbers of what has no parts

abbrev pub size_number : Size → ℕ
size_number S8 = 0
size_number S16 = 1
size_number S32 = 2
size_number S64 = 3

abbrev pub numbered_size : ℕ → Size
numbered_size n = if n == 0 then S8 else if n == 1 then S16 else if n == 2 then S32 else S64

pub same_size : (size : Size) → numbered_size (size_number size) ≡ size
same_size S8 = refl
same_size S16 = refl
same_size S32 = refl
same_size S64 = refl

abbrev pub order_number : Order → ℕ
order_number Big = 0
order_number Little = 1

abbrev pub numbered_order : ℕ → Order
numbered_order n = if n == 0 then Big else Little

pub same_order : (order : Order) → numbered_order (order_number order) ≡ order
same_order Big = refl
same_order Little = refl

abbrev pub precision_number : Precision → ℕ
precision_number single = 0
precision_number double = 1

abbrev pub numbered_precision : ℕ → Precision
numbered_precision n = if n == 0 then single else double

pub same_precision : (p : Precision) → numbered_precision (precision_number p) ≡ p
same_precision single = refl
same_precision double = refl

abbrev pub width_number : Width → ℕ
width_number W8 = 0
width_number W16 = 1
width_number W32 = 2

abbrev pub numbered_width : ℕ → Width
numbered_width n = if n == 0 then W8 else if n == 1 then W16 else W32

pub same_width : (width : Width) → numbered_width (width_number width) ≡ width
same_width W8 = refl
same_width W16 = refl
same_width W32 = refl

abbrev pub width_number_or : Option Width → ℕ
width_number_or None = 3
width_number_or (Some width) = width_number width

abbrev pub numbered_width_or : ℕ → Option Width
numbered_width_or n = if n == 3 then None else Some (numbered_width n)

pub same_width_or : (width : Option Width) → numbered_width_or (width_number_or width) ≡ width
same_width_or None = refl
same_width_or (Some W8) = refl
same_width_or (Some W16) = refl
same_width_or (Some W32) = refl

abbrev pub encoding_number : Encoding → ℕ
encoding_number Utf8 = 0
encoding_number Utf16 = 1

abbrev pub numbered_encoding : ℕ → Encoding
numbered_encoding n = if n == 0 then Utf8 else Utf16

pub same_encoding : (encoding : Encoding) → numbered_encoding (encoding_number encoding) ≡ encoding
same_encoding Utf8 = refl
same_encoding Utf16 = refl

abbrev pub numbered_bit : ℕ → Bool
numbered_bit n = n == 1

pub same_bit : (b : Bool) → numbered_bit (bit_of b) ≡ b
same_bit true = refl
same_bit false = refl

both : {A B C : Type 0} (f : A → B → C) {a c : A} {b d : B} → a ≡ c → b ≡ d → f a b ≡ f c d
both f {c = c} {b = b} p q = ap (λ x. f x b) p ∙ ap (f c) q

-- ---- trees of names

abbrev pub bytes_tree : List ℕ → Gv
bytes_tree [] = gnil
bytes_tree (b ∷ bs) = gcons (gnum b) (bytes_tree bs)

abbrev pub bytes_of_tree : Gv → List ℕ
bytes_of_tree (gcons b rest) = num b ∷ bytes_of_tree rest
bytes_of_tree _ = []

pub same_bytes : (bs : List ℕ) → bytes_of_tree (bytes_tree bs) ≡ bs
same_bytes [] = refl
same_bytes (b ∷ bs) = ap (λ (x : List ℕ). b ∷ x) (same_bytes bs)

abbrev pub int_tree : ℤ → Gv
int_tree (pos n) = gcons (gnum 0) (gnum n)
int_tree (negsuc n) = gcons (gnum 1) (gnum n)

abbrev pub int_of_tree : Gv → ℤ
int_of_tree (gcons sign n) = if num sign == 0 then pos (num n) else negsuc (num n)
int_of_tree _ = pos 0

pub same_int : (z : ℤ) → int_of_tree (int_tree z) ≡ z
same_int (pos n) = refl
same_int (negsuc n) = refl

abbrev pub labels_tree : List (ℤ × List ℕ) → Gv
labels_tree [] = gnil
labels_tree (l ∷ labels) = gcons (gcons (int_tree l.0) (bytes_tree l.1)) (labels_tree labels)

abbrev pub labels_of_tree : Gv → List (ℤ × List ℕ)
labels_of_tree (gcons (gcons value name) rest) = (int_of_tree value, bytes_of_tree name) ∷ labels_of_tree rest
labels_of_tree _ = []

pub same_labels : (labels : List (ℤ × List ℕ)) → labels_of_tree (labels_tree labels) ≡ labels
same_labels [] = refl
same_labels (l ∷ labels) =
    both (λ (x : ℤ × List ℕ) (y : List (ℤ × List ℕ)). x ∷ y) (both (λ (z : ℤ) (n : List ℕ). (z, n)) (same_int l.0) (same_bytes l.1)) (same_labels labels)

-- ---- trees of forms

abbrev pub node : ℕ → Gv → Gv → Gv → Gv
node tag a b c = gcons (gnum tag) (gcons a (gcons b c))

abbrev mutual
  pub form_tree : Form → Gv
  form_tree bool = node 0 gnil gnil gnil
  form_tree (unsigned order size) = node 1 (gnum (size_number size)) (gnum (order_number order)) gnil
  form_tree (signed order size) = node 2 (gnum (size_number size)) (gnum (order_number order)) gnil
  form_tree (string encoding width) = node 3 (gnum (encoding_number encoding)) (gnum (width_number width)) gnil
  form_tree (array width n f) = node 4 (gnum (width_number width)) (gnum n) (form_tree f)
  form_tree (fixed width n f) = node 5 (gnum n) (gnum (width_number_or width)) (form_tree f)
  form_tree («struct» width fs) = node 6 (gnum (width_number_or width)) gnil (forms_tree fs)
  form_tree (union width type vs) = node 7 (gnum (width_number width)) (gnum (width_number type)) (variants_tree vs)
  form_tree (tagged width ms) = node 8 (gnum (width_number width)) gnil (members_tree ms)
  form_tree (padded encoding n) = node 9 (gnum (encoding_number encoding)) (gnum n) gnil
  form_tree (named n f) = node 10 (bytes_tree n) gnil (form_tree f)
  form_tree (enumerated f labels) = node 11 (labels_tree labels) gnil (form_tree f)
  form_tree (float order p) = node 12 (gnum (precision_number p)) (gnum (order_number order)) gnil

  pub forms_tree : Forms → Gv
  forms_tree no_forms = gnil
  forms_tree (form_then f fs) = gcons (form_tree f) (forms_tree fs)

  pub variants_tree : Variants → Gv
  variants_tree no_variants = gnil
  variants_tree (variant n f vs) = gcons (gnum n) (gcons (form_tree f) (variants_tree vs))

  pub members_tree : Members → Gv
  members_tree no_members = gnil
  members_tree (member_then id optional f ms) = gcons (gnum id) (gcons (gnum (bit_of optional)) (gcons (form_tree f) (members_tree ms)))

abbrev mutual
  pub form_of_tree : Gv → Form
  form_of_tree (gcons (gnum tag) (gcons a (gcons b c))) =
      if tag == 0 then bool
      else if tag == 1 then unsigned (numbered_order (num b)) (numbered_size (num a))
      else if tag == 2 then signed (numbered_order (num b)) (numbered_size (num a))
      else if tag == 3 then string (numbered_encoding (num a)) (numbered_width (num b))
      else if tag == 4 then array (numbered_width (num a)) (num b) (form_of_tree c)
      else if tag == 5 then fixed (numbered_width_or (num b)) (num a) (form_of_tree c)
      else if tag == 6 then «struct» (numbered_width_or (num a)) (forms_of_tree c)
      else if tag == 7 then union (numbered_width (num a)) (numbered_width (num b)) (variants_of_tree c)
      else if tag == 8 then tagged (numbered_width (num a)) (members_of_tree c)
      else if tag == 9 then padded (numbered_encoding (num a)) (num b)
      else if tag == 10 then named (bytes_of_tree a) (form_of_tree c)
      else if tag == 11 then enumerated (form_of_tree c) (labels_of_tree a)
      else float (numbered_order (num b)) (numbered_precision (num a))
  form_of_tree _ = bool

  pub forms_of_tree : Gv → Forms
  forms_of_tree (gcons a b) = form_then (form_of_tree a) (forms_of_tree b)
  forms_of_tree _ = no_forms

  pub variants_of_tree : Gv → Variants
  variants_of_tree (gcons n (gcons a b)) = variant (num n) (form_of_tree a) (variants_of_tree b)
  variants_of_tree _ = no_variants

  pub members_of_tree : Gv → Members
  members_of_tree (gcons n (gcons o (gcons a b))) = member_then (num n) (numbered_bit (num o)) (form_of_tree a) (members_of_tree b)
  members_of_tree _ = no_members

mutual
  pub same_form : (f : Form) → form_of_tree (form_tree f) ≡ f
  same_form bool = refl
  same_form (unsigned order size) = both unsigned (same_order order) (same_size size)
  same_form (signed order size) = both signed (same_order order) (same_size size)
  same_form (float order p) = both float (same_order order) (same_precision p)
  same_form (padded encoding n) = ap (λ e. padded e n) (same_encoding encoding)
  same_form (named n f) = both named (same_bytes n) (same_form f)
  same_form (enumerated f labels) = both enumerated (same_form f) (same_labels labels)
  same_form (string encoding width) = both string (same_encoding encoding) (same_width width)
  same_form (array width n f) = both (λ w g. array w n g) (same_width width) (same_form f)
  same_form (fixed width n f) = both (λ w g. fixed w n g) (same_width_or width) (same_form f)
  same_form («struct» width fs) = both «struct» (same_width_or width) (same_forms fs)
  same_form (union width type vs) = ap (λ w. union w (numbered_width (width_number type)) (variants_of_tree (variants_tree vs))) (same_width width) ∙ both (union width) (same_width type) (same_variants vs)
  same_form (tagged width ms) = both tagged (same_width width) (same_members ms)

  pub same_forms : (fs : Forms) → forms_of_tree (forms_tree fs) ≡ fs
  same_forms no_forms = refl
  same_forms (form_then f fs) = both form_then (same_form f) (same_forms fs)

  pub same_variants : (vs : Variants) → variants_of_tree (variants_tree vs) ≡ vs
  same_variants no_variants = refl
  same_variants (variant n f vs) = both (variant n) (same_form f) (same_variants vs)

  pub same_members : (ms : Members) → members_of_tree (members_tree ms) ≡ ms
  same_members no_members = refl
  same_members (member_then id optional f ms) =
      ap (λ o. member_then id o (form_of_tree (form_tree f)) (members_of_tree (members_tree ms))) (same_bit optional)
      ∙ both (member_then id optional) (same_form f) (same_members ms)

-- ---- codes

-- a tree is stored as itself
abbrev pub coded_tree : Coded Gv
coded_tree = record { code = λ tree. tree; inj = λ x y same. same }

-- a form is stored as its tree
abbrev pub coded_form : Coded Form
coded_form = code_by Gv coded_tree form_tree form_of_tree same_form

-- names and forms are stored in pairs
abbrev pub coded_named_forms : Coded NamedForms
coded_named_forms = coded_list (coded× (coded_list coded_ℕ) coded_form)
