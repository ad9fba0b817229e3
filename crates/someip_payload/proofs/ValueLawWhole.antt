-- What is printed of a value of a form is a text of it: each kind of value, and the whole.
use Rattle.std.proofs.Common.{◌≡◌, ℕ, ◌<◌, ◌^◌, inl, inr, Bool, true, false, not, ◌&&◌, cond, eqb, List, [], ◌∷◌, ◌++◌, length, codes, map, None, Ok, Err, refl, sym, ap, subst, ◌∙◌, append-nil}
use Rattle.std.specs.Prelude.{ℤ, pos, nat_lt}
use Rattle.std.specs.Bool.{MatchBool}
use Rattle.std.specs.List.{list_all}
use Rattle.std.specs.Fmt.{decimal}
use Rattle.std.specs.Str.{is_utf8}
use Rattle.std.proofs.lemmas.Bool.{false≢true}
use Rattle.std.proofs.lemmas.List.Folds.{list_all-append}
use Rattle.someip_payload_values.specs.declared.error.PayloadError.TheVariants.{TooDeep, BadShape}
use Rattle.someip_payload_values.specs.Check.{depth, has_members, has_variants, has_tagged_members, is_fixed, can_be_tagged, are_numbers, fit_field, are_ids, is_name, are_names, name_in, names_of, names_of_members, are_values, is_form, are_forms, are_variants, are_tagged, checked}
use Rattle.someip_payload_values.specs.Data.{Form, bool, unsigned, signed, float, string, padded, array, fixed, «struct», union, tagged, named, enumerated, Forms, no_forms, form_then, Variants, no_variants, variant, Members, no_members, member_then, Data, truth, uint, int, real, said, phrase, list, tuple, nothing, chosen, slotted, Items, no_items, item, Slots, no_slots, present, absent}
use Rattle.someip_payload_values.specs.Floats.{Precision, bits_size}
use Rattle.someip_payload_values.specs.Numbers.{limit_of}
use Rattle.someip_payload_values.specs.ToldText.{IsToldOf, AreToldOf, AreSlotsToldOf, SaysData}
use Rattle.someip_payload_values.specs.ValueText.{quoted, listed, labels_in, element_in, members_in, variants_in, tagged_in, number_said, name_text, variant_of, data_text, element_texts, member_texts, slot_texts}
use Rattle.someip_payload_values.proofs.StepLemmas.{passed, kept}
use Rattle.someip_payload.specs.ValueReading.{SaysNumber, IsLong, IsTextOfUnsigned, IsTextOfSigned, IsTextOfEnum, IsTextOfFloat, IsTextOfPhrase, truth_text, IsNameOf, IsTextOfMember, AreTextsOfElements, IsTextOfValue, AreTextsOfMembers, IsTextOfVariant, AreTextsOfSlots, AreOfForm, IsOfForm, AreMembers, IsOfVariant, AreSlots}
use Rattle.someip_payload.proofs.Fronts.{both}
use Rattle.someip_payload.proofs.ValueLaw.{name_word, says_number}
use Rattle.someip_payload.proofs.ValueLawTexts.{quoted_bytes, bits_said}

-- ---- names of members

names_all : (earlier ns : List (List ℕ)) → are_names earlier ns ≡ true → list_all is_name ns ≡ true
names_all earlier [] is = refl
names_all earlier (n ∷ ns) is =
    let a = both (is_name n) _ is in
    let b = both _ (are_names (n ∷ earlier) ns) a.1 in
    rw (a.0, names_all (n ∷ earlier) ns b.1) refl

first_names : (xs ys : List (List ℕ)) → list_all is_name (xs ++ ys) ≡ true → (list_all is_name xs ≡ true) × (list_all is_name ys ≡ true)
first_names xs ys is = both (list_all is_name xs) (list_all is_name ys) (sym (list_all-append is_name xs ys) ∙ is)

-- the name before a member's value is one that may stand there
name_said : (f : Form) → list_all is_name (name_in f) ≡ true → IsNameOf (name_in f) (name_text f)
name_said (named n f) is = let word = name_word n (both (is_name n) true is).0 in inr (word.1, append-nil (n ++ codes "="))
name_said bool is = refl
name_said (unsigned order size) is = refl
name_said (signed order size) is = refl
name_said (float order p) is = refl
name_said (string encoding width) is = refl
name_said (padded encoding n) is = refl
name_said (array width most element) is = refl
name_said (fixed width n element) is = refl
name_said («struct» width fs) is = refl
name_said (union width type vs) is = refl
name_said (tagged width ms) is = refl
name_said (enumerated f labels) is = refl

member_said : (f : Form) (IsText : List ℕ → Type 0) (own : List ℕ) → list_all is_name (name_in f) ≡ true → IsText own → IsTextOfMember (name_in f) IsText (name_text f ++ own)
member_said f IsText own names is = (name_text f, own, name_said f names, is, refl)

-- ---- values

-- what is said of a value of the form, however its floats are told
abbrev IsSaid : Form → Type 0
IsSaid f = (d t : Data) → IsOfForm f d → IsToldOf d t → IsTextOfValue f d (data_text f t)

-- a name of a form changes nothing in the text of a value
named_text : (n : List ℕ) (f : Form) (t : Data) → data_text (named n f) t ≡ data_text f t
unfolding data_text
named_text n f (truth b) = refl
named_text n f (uint m) = refl
named_text n f (int z) = refl
named_text n f (real p bits) = refl
named_text n f (said text) = refl
named_text n f (phrase s) = refl
named_text n f (list ds) = refl
named_text n f (tuple ds) = refl
named_text n f nothing = refl
named_text n f (chosen kind d) = refl
named_text n f (slotted ss) = refl

-- a value of a kind, and what is told of it
by_kind : (d x t : Data) (P : Data → Type 0) → d ≡ x → IsToldOf d t → (IsToldOf x t → P x) → P d
by_kind d x t P is told go = subst P (sym is) (go (subst (λ (y : Data). IsToldOf y t) is told))

truth_said : (f : Form) (b : Bool) (t : Data) → IsToldOf (truth b) t → (c : Bool) × (truth b ≡ truth c) × (data_text f t ≡ truth_text c)
unfolding IsToldOf data_text
truth_said f b (truth true) told = (true, ap truth told, refl)
truth_said f b (truth false) told = (false, ap truth told, refl)
truth_said f b _ told = absurd told

unsigned_said : (f : Form) (n : ℕ) (t : Data) → are_names [] (map (λ l. l.1) (labels_in f)) ≡ true → n < 2 ^ 64 → IsToldOf (uint n) t → IsTextOfUnsigned (labels_in f) (uint n) (data_text f t)
unfolding IsToldOf data_text
unsigned_said f n (uint m) names small told =
    (n, refl, small, subst (λ (k : ℕ). SaysNumber (labels_in f) (pos n) (number_said (labels_in f) (pos k))) told (says_number (labels_in f) (pos n) names))
unsigned_said f n _ names small told = absurd told

signed_said : (f : Form) (z : ℤ) (t : Data) → are_names [] (map (λ l. l.1) (labels_in f)) ≡ true → IsLong z → IsToldOf (int z) t → IsTextOfSigned (labels_in f) (int z) (data_text f t)
unfolding IsToldOf data_text
signed_said f z (int y) names long told = (z, refl, long, subst (λ (k : ℤ). SaysNumber (labels_in f) z (number_said (labels_in f) k)) told (says_number (labels_in f) z names))
signed_said f z _ names long told = absurd told

enum_parts : (f : Form) (ls : List (ℤ × List ℕ)) → is_form (enumerated f ls) ≡ true
    → (nat_lt 0 (length ls) ≡ true) × (are_values f None ls ≡ true) × (are_names [] (map (λ l. l.1) ls) ≡ true)
enum_parts f ls good =
    let a = both (nat_lt 0 (length ls)) (are_values f None ls && are_names [] (map (λ l. l.1) ls)) good in
    let b = both (are_values f None ls) (are_names [] (map (λ l. l.1) ls)) a.1 in
    (a.0, b.0, b.1)

enum_said : (f : Form) (ls : List (ℤ × List ℕ)) (d t : Data) → is_form (enumerated f ls) ≡ true → IsOfForm f d → IsToldOf d t → IsTextOfEnum f ls d (data_text (enumerated f ls) t)
enum_said (unsigned order size) ls d t good own told =
    let f : Form = enumerated (unsigned order size) ls in
    by_kind d (uint own.0) t (λ (x : Data). IsTextOfUnsigned ls x (data_text f t)) own.1 told (unsigned_said f own.0 t (enum_parts (unsigned order size) ls good).2 own.2)
enum_said (signed order size) ls d t good own told =
    let f : Form = enumerated (signed order size) ls in
    by_kind d (int own.0) t (λ (x : Data). IsTextOfSigned ls x (data_text f t)) own.1 told (signed_said f own.0 t (enum_parts (signed order size) ls good).2 own.2)
enum_said f [] d t good own told = absurd (false≢true (enum_parts f [] good).0)
enum_said f (l ∷ ls) d t good own told = absurd (false≢true (enum_parts f (l ∷ ls) good).1)

float_said : (f : Form) (p : Precision) (bits : ℕ) (t : Data) → bits < limit_of (bits_size p) → IsToldOf (real p bits) t → IsTextOfFloat p (real p bits) (data_text f t)
unfolding IsToldOf data_text
float_said f p bits (said text) small told = (bits, refl, bits_said p bits text small told)
float_said f p bits _ small told = absurd told

phrase_said : (f : Form) (s : List ℕ) (t : Data) → is_utf8 s ≡ true → IsToldOf (phrase s) t → IsTextOfPhrase (phrase s) (data_text f t)
unfolding IsToldOf data_text
phrase_said f s (phrase u) utf8 told = (s, refl, utf8, ap quoted (sym told) ∙ quoted_bytes s utf8)
phrase_said f s _ utf8 told = absurd told

-- ---- elements, members and variants

elements_said : (f : Form) (IsText : Data → List ℕ → Type 0) (IsOf : Data → Type 0) → ((d t : Data) → IsOf d → IsToldOf d t → IsText d (data_text f t))
    → (ds us : Items) → AreOfForm IsOf ds → AreToldOf ds us → AreTextsOfElements IsText ds (element_texts f us)
unfolding AreToldOf element_texts
elements_said f IsText IsOf one no_items no_items own told = tt
elements_said f IsText IsOf one (item d ds) (item u us) own told = (one d u own.0 told.0, elements_said f IsText IsOf one ds us own.1 told.1)
elements_said f IsText IsOf one _ _ own told = absurd told

list_said : (f : Form) (IsText : Data → List ℕ → Type 0) (IsOf : Data → Type 0) → ((d t : Data) → IsOf d → IsToldOf d t → IsText d (data_text (element_in f) t))
    → (ds : Items) (t : Data) → AreOfForm IsOf ds → IsToldOf (list ds) t
    → (es : Items) × (ts : List (List ℕ)) × (list ds ≡ list es) × AreTextsOfElements IsText es ts × (data_text f t ≡ codes "[" ++ (listed ts ++ codes "]"))
unfolding IsToldOf data_text
list_said f IsText IsOf one ds (list us) own told = (ds, element_texts (element_in f) us, refl, elements_said (element_in f) IsText IsOf one ds us own told, refl)
list_said f IsText IsOf one ds _ own told = absurd told

tuple_said : (f : Form) (ds : Items) (t : Data) → ((us : Items) → AreToldOf ds us → AreTextsOfMembers (members_in f) ds (member_texts (members_in f) us)) → IsToldOf (tuple ds) t
    → (es : Items) × (ts : List (List ℕ)) × (tuple ds ≡ tuple es) × AreTextsOfMembers (members_in f) es ts × (data_text f t ≡ codes "(" ++ (listed ts ++ codes ")"))
unfolding IsToldOf data_text
tuple_said f ds (tuple us) each told = (ds, member_texts (members_in f) us, refl, each us told, refl)
tuple_said f ds _ each told = absurd told

slotted_said : (f : Form) (ss : Slots) (t : Data) → ((us : Slots) → AreSlotsToldOf ss us → AreTextsOfSlots (tagged_in f) ss (slot_texts (tagged_in f) us)) → IsToldOf (slotted ss) t
    → (es : Slots) × (ts : List (List ℕ)) × (slotted ss ≡ slotted es) × AreTextsOfSlots (tagged_in f) es ts × (data_text f t ≡ codes "{" ++ (listed ts ++ codes "}"))
unfolding IsToldOf data_text
slotted_said f ss (slotted us) each told = (ss, slot_texts (tagged_in f) us, refl, each us told, refl)
slotted_said f ss _ each told = absurd told

nothing_said : (f : Form) (t : Data) → IsToldOf nothing t → data_text f t ≡ codes "none"
unfolding IsToldOf data_text
nothing_said f nothing told = refl
nothing_said f _ told = absurd told

chosen_said : (f : Form) (kind : ℕ) (d t : Data) → kind < 2 ^ 64 → ((u : Data) → IsToldOf d u → IsTextOfVariant (variants_in f) kind d (data_text (variant_of kind (variants_in f)) u)) → IsToldOf (chosen kind d) t
    → (k : ℕ) × (value : Data) × (own : List ℕ) × (k < 2 ^ 64) × (chosen kind d ≡ chosen k value) × IsTextOfVariant (variants_in f) k value own × (data_text f t ≡ decimal k ++ (codes ":" ++ own))
unfolding IsToldOf data_text
chosen_said f kind d (chosen number u) small one told =
    (kind, d, data_text (variant_of kind (variants_in f)) u, small, refl, one u told.1, ap (λ (k : ℕ). decimal k ++ (codes ":" ++ data_text (variant_of k (variants_in f)) u)) (sym told.0))
chosen_said f kind d _ small one told = absurd told

variant_by : (b : Bool) (f g : Form) (u : Data) (A B : Type 0) (P Q : List ℕ → Type 0) → (A → P (data_text f u)) → (B → Q (data_text g u)) → MatchBool b A B → MatchBool b (P (data_text (cond b f g) u)) (Q (data_text (cond b f g) u))
variant_by true f g u A B P Q one other own = one own
variant_by false f g u A B P Q one other own = other own

mutual
  unfolding AreToldOf AreSlotsToldOf member_texts slot_texts

  pub value_said : (f : Form) (d t : Data) → is_form f ≡ true → IsOfForm f d → IsToldOf d t → IsTextOfValue f d (data_text f t)
  value_said (named n f) d t good own told = subst (λ (x : List ℕ). IsTextOfValue f d x) (sym (named_text n f t)) (value_said f d t good own told)
  value_said (enumerated f ls) d t good own told = enum_said f ls d t good own told
  value_said bool d t good own told = by_kind d (truth own.0) t (λ (x : Data). IsTextOfValue bool x (data_text bool t)) own.1 told (truth_said bool own.0 t)
  value_said (unsigned order size) d t good own told =
      let f : Form = unsigned order size in
      by_kind d (uint own.0) t (λ (x : Data). IsTextOfValue f x (data_text f t)) own.1 told (unsigned_said f own.0 t refl own.2)
  value_said (signed order size) d t good own told =
      let f : Form = signed order size in
      by_kind d (int own.0) t (λ (x : Data). IsTextOfValue f x (data_text f t)) own.1 told (signed_said f own.0 t refl own.2)
  value_said (float order p) d t good own told =
      let f : Form = float order p in
      by_kind d (real p own.0) t (λ (x : Data). IsTextOfValue f x (data_text f t)) own.1 told (float_said f p own.0 t own.2)
  value_said (string encoding width) d t good own told =
      let f : Form = string encoding width in
      by_kind d (phrase own.0) t (λ (x : Data). IsTextOfValue f x (data_text f t)) own.1 told (phrase_said f own.0 t own.2)
  value_said (padded encoding n) d t good own told =
      let f : Form = padded encoding n in
      by_kind d (phrase own.0) t (λ (x : Data). IsTextOfValue f x (data_text f t)) own.1 told (phrase_said f own.0 t own.2)
  value_said (array width most element) d t good own told =
      let f : Form = array width most element in
      let one : (e u : Data) → IsOfForm element e → IsToldOf e u → IsTextOfValue element e (data_text element u) = λ e u is tells. value_said element e u good is tells in
      by_kind d (list own.0) t (λ (x : Data). IsTextOfValue f x (data_text f t)) own.1 told (list_said f (IsTextOfValue element) (IsOfForm element) one own.0 t own.2)
  value_said (fixed width n element) d t good own told =
      let f : Form = fixed width n element in
      let some = both (nat_lt 0 n) (not (is_fixed element) && is_form element) good in
      let inner = both (not (is_fixed element)) (is_form element) some.1 in
      let one : (e u : Data) → IsOfForm element e → IsToldOf e u → IsTextOfValue element e (data_text element u) = λ e u is tells. value_said element e u inner.1 is tells in
      by_kind d (list own.0) t (λ (x : Data). IsTextOfValue f x (data_text f t)) own.1 told (list_said f (IsTextOfValue element) (IsOfForm element) one own.0 t own.2)
  value_said («struct» width fs) d t good own told =
      let f : Form = «struct» width fs in
      let some = both (has_members fs) (are_forms fs && are_names [] (names_of fs)) good in
      let parts = both (are_forms fs) (are_names [] (names_of fs)) some.1 in
      let each : (us : Items) → AreToldOf own.0 us → AreTextsOfMembers fs own.0 (member_texts fs us) = λ us tells. members_said fs own.0 us parts.0 (names_all [] (names_of fs) parts.1) own.2 tells in
      by_kind d (tuple own.0) t (λ (x : Data). IsTextOfValue f x (data_text f t)) own.1 told (tuple_said f own.0 t each)
  value_said (union width type vs) d t good own told =
      let f : Form = union width type vs in
      let some = both (has_variants vs) (are_numbers [] vs && (fit_field type vs && are_variants vs)) good in
      let parts = both (are_numbers [] vs) (fit_field type vs && are_variants vs) some.1 in
      let inner = both (fit_field type vs) (are_variants vs) parts.1 in
      elim own [
        | inl none ↦ by_kind d nothing t (λ (x : Data). IsTextOfValue f x (data_text f t)) none told (λ tells. inl (refl, nothing_said f t tells))
        | inr one ↦
            let each : (u : Data) → IsToldOf one.1 u → IsTextOfVariant vs one.0 one.1 (data_text (variant_of one.0 vs) u) = λ u tells. variant_said vs one.0 one.1 u inner.1 one.4 tells in
            by_kind d (chosen one.0 one.1) t (λ (x : Data). IsTextOfValue f x (data_text f t)) one.2 told (λ tells. inr (chosen_said f one.0 one.1 t one.3 each tells))
      ]
  value_said (tagged width ms) d t good own told =
      let f : Form = tagged width ms in
      let some = both (has_tagged_members ms) (are_ids [] ms && (are_tagged ms && are_names [] (names_of_members ms))) good in
      let ids = both (are_ids [] ms) (are_tagged ms && are_names [] (names_of_members ms)) some.1 in
      let parts = both (are_tagged ms) (are_names [] (names_of_members ms)) ids.1 in
      let each : (us : Slots) → AreSlotsToldOf own.0 us → AreTextsOfSlots ms own.0 (slot_texts ms us) = λ us tells. slots_said ms own.0 us parts.0 (names_all [] (names_of_members ms) parts.1) own.2 tells in
      by_kind d (slotted own.0) t (λ (x : Data). IsTextOfValue f x (data_text f t)) own.1 told (slotted_said f own.0 t each)

  members_said : (fs : Forms) (ds us : Items) → are_forms fs ≡ true → list_all is_name (names_of fs) ≡ true → AreMembers fs ds → AreToldOf ds us → AreTextsOfMembers fs ds (member_texts fs us)
  members_said no_forms no_items no_items good names own told = tt
  members_said (form_then f fs) (item d ds) (item u us) good names own told =
      let parts = both (is_form f) (are_forms fs) good in
      let named_ = first_names (name_in f) (names_of fs) names in
      (member_said f (IsTextOfValue f d) (data_text f u) named_.0 (value_said f d u parts.0 own.0 told.0), members_said fs ds us parts.1 named_.1 own.1 told.1)
  members_said no_forms (item d ds) us good names own told = absurd own
  members_said (form_then f fs) no_items us good names own told = absurd own
  members_said _ _ _ good names own told = absurd told

  variant_said : (vs : Variants) (kind : ℕ) (d u : Data) → are_variants vs ≡ true → IsOfVariant vs kind d → IsToldOf d u → IsTextOfVariant vs kind d (data_text (variant_of kind vs) u)
  variant_said no_variants kind d u good own told = absurd own
  variant_said (variant n f vs) kind d u good own told =
      let parts = both (is_form f) (are_variants vs) good in
      variant_by (eqb n kind) f (variant_of kind vs) u (IsOfForm f d) (IsOfVariant vs kind d) (IsTextOfValue f d) (IsTextOfVariant vs kind d)
      (λ is. value_said f d u parts.0 is told) (λ is. variant_said vs kind d u parts.1 is told) own

  slots_said : (ms : Members) (ss us : Slots) → are_tagged ms ≡ true → list_all is_name (names_of_members ms) ≡ true → AreSlots ms ss → AreSlotsToldOf ss us → AreTextsOfSlots ms ss (slot_texts ms us)
  slots_said no_members no_slots no_slots good names own told = tt
  slots_said (member_then id optional f ms) (present d ss) (present u us) good names own told =
      let some = both (can_be_tagged f) (is_form f && are_tagged ms) good in
      let parts = both (is_form f) (are_tagged ms) some.1 in
      let named_ = first_names (name_in f) (names_of_members ms) names in
      (member_said f (IsTextOfValue f d) (data_text f u) named_.0 (value_said f d u parts.0 own.0 told.0), slots_said ms ss us parts.1 named_.1 own.1 told.1)
  slots_said (member_then id optional f ms) (absent ss) (absent us) good names own told =
      let some = both (can_be_tagged f) (is_form f && are_tagged ms) good in
      let parts = both (is_form f) (are_tagged ms) some.1 in
      let named_ = first_names (name_in f) (names_of_members ms) names in
      (member_said f (λ own. own ≡ codes "-") (codes "-") named_.0 refl, slots_said ms ss us parts.1 named_.1 own told)
  slots_said no_members (present d ss) us good names own told = absurd own
  slots_said no_members (absent ss) us good names own told = absurd own
  slots_said (member_then id optional f ms) no_slots us good names own told = absurd own
  slots_said _ _ _ good names own told = absurd told

-- ---- a form that is checked

pub form_checked : (f : Form) → checked f ≡ Ok tt → is_form f ≡ true
unfolding checked
form_checked f is =
    let shallow = kept (nat_lt 16 (depth f)) (cond (is_form f) (Ok tt) (Err (BadShape 0))) (TooDeep 0) tt is in
    (passed (is_form f) (Ok tt) (BadShape 0) tt shallow.1).0

pub printed_said : (f : Form) (d : Data) (text : List ℕ) → checked f ≡ Ok tt → IsOfForm f d → SaysData f d text → IsTextOfValue f d text
printed_said f d text good own says = subst (λ (x : List ℕ). IsTextOfValue f d x) (sym says.2) (value_said f d says.0 (form_checked f good) own says.1)
