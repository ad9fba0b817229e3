-- The members of a structure, the variants of a union and the members of a tagged structure, as items one after the other.
use Rattle.std.proofs.Common.{ℕ, List, [], ◌∷◌, ◌++◌, String, Global, codes, inl, inr, refl, sym, subst, arith}
use Rattle.std.specs.Prelude.{ℤ}
use Rattle.std.specs.Fmt.{decimal}
use Rattle.someip_payload_values.specs.declared.shape.Shape.{Shape}
use Rattle.someip_payload_values.specs.declared.shape.Member.{Member}
use Rattle.someip_payload_values.specs.Check.{depth, deepest, deepest_variant, deepest_member}
use Rattle.someip_payload_values.specs.Data.{Form, Forms, no_forms, form_then, Variants, no_variants, variant, Members, no_members, member_then}
use Rattle.someip_payload_values.specs.View.{form, forms, all_variants, OneMember, one_member, all_members, labels_of}
use Rattle.someip_payload.specs.Named.{NamedForms}
use Rattle.someip_payload.specs.ShapeText.{EndsName, IsTextOfLabel, IsTextOfLabels, last_label, next_label, one_label, EndsShape, IsTextOfMember, IsTextOfMembers, last_member, next_member, IsTextOfVariants, last_variant, next_variant, OneVariant, one_variant, IsTextOfVariant, IsTextOfTaggedMembers, last_tagged, next_tagged, IsTextOfTaggedMember}
use Rattle.someip_payload.proofs.OneAfterOther.{ByFirst, Listing}

-- ---- members

-- the text of members is that of the last one, or of one in front of others
pub first_member : (names : NamedForms) → ByFirst Form Forms form_then no_forms (IsTextOfMember names) (IsTextOfMembers names)
first_member names P last next fs text (last_member f own is) = last f own is
first_member names P last next fs text (next_member f gs own others is are) = next f gs own others is are

abbrev pub members : NamedForms → Listing
members names = record {
  Item = Shape;
  One = Form;
  All = Forms;
  one = form;
  all = forms;
  in_front = form_then;
  all-in_front = λ s ss. refl;
  IsText = IsTextOfMember names;
  AreText = IsTextOfMembers names;
  last_text = last_member;
  next_text = next_member;
  by_first = first_member names;
  depth_of = depth;
  deepest_of = deepest;
  deepest-none = refl;
  deepest-in_front = λ f fs. refl;
  close = 41;
  no_comma = λ e. omega (arith, e);
  Stops = EndsShape;
  stops-comma = λ rest. inl refl;
  stops-close = λ rest. inr (inl refl);
}

-- ---- variants

-- a variant in front of others
abbrev pub then_variant : OneVariant → Variants → Variants
then_variant v vs = variant v.number v.form vs

-- the text of the last variant
pub variant_last : (names : NamedForms) → (v : OneVariant) (text : List ℕ) → IsTextOfVariant names v text → IsTextOfVariants names (then_variant v no_variants) text
variant_last names v text (shape, small, is, same) = subst (IsTextOfVariants names (then_variant v no_variants)) (sym same) (last_variant v.number v.form shape small is)

-- the text of a variant in front of others
pub variant_next : (names : NamedForms) → (v : OneVariant) (vs : Variants) (text others : List ℕ) → IsTextOfVariant names v text → IsTextOfVariants names vs others → IsTextOfVariants names (then_variant v vs) (text ++ (codes "," ++ others))
variant_next names v vs text others (shape, small, is, same) are =
    subst (λ (t : List ℕ). IsTextOfVariants names (then_variant v vs) (t ++ (codes "," ++ others))) (sym same) (next_variant v.number v.form vs shape others small is are)

-- the text of variants is one of these two
pub first_variant : (names : NamedForms) → ByFirst OneVariant Variants then_variant no_variants (IsTextOfVariant names) (IsTextOfVariants names)
first_variant names P last next vs text (last_variant n f shape small is) = last (record { number = n; form = f }) (decimal n ++ (codes ":" ++ shape)) (shape, small, is, refl)
first_variant names P last next vs text (next_variant n f ws shape others small is are) = next (record { number = n; form = f }) ws (decimal n ++ (codes ":" ++ shape)) others (shape, small, is, refl) are

abbrev pub variants : NamedForms → Listing
variants names = record {
  Item = ℕ × Shape;
  One = OneVariant;
  All = Variants;
  one = one_variant;
  all = all_variants;
  in_front = then_variant;
  all-in_front = λ s ss. refl;
  IsText = IsTextOfVariant names;
  AreText = IsTextOfVariants names;
  last_text = variant_last names;
  next_text = variant_next names;
  by_first = first_variant names;
  depth_of = λ v. depth v.form;
  deepest_of = deepest_variant;
  deepest-none = refl;
  deepest-in_front = λ v vs. refl;
  close = 41;
  no_comma = λ e. omega (arith, e);
  Stops = EndsShape;
  stops-comma = λ rest. inl refl;
  stops-close = λ rest. inr (inl refl);
}

-- ---- members of a tagged structure

-- a member in front of others
abbrev pub then_tagged : OneMember → Members → Members
then_tagged m ms = member_then m.id m.optional m.form ms

-- the text of the last member
pub tagged_last : (names : NamedForms) → (m : OneMember) (text : List ℕ) → IsTextOfTaggedMember names m text → IsTextOfTaggedMembers names (then_tagged m no_members) text
tagged_last names m text is = last_tagged m.id m.optional m.form text is

-- the text of a member in front of others
pub tagged_next : (names : NamedForms) → (m : OneMember) (ms : Members) (text others : List ℕ) → IsTextOfTaggedMember names m text → IsTextOfTaggedMembers names ms others → IsTextOfTaggedMembers names (then_tagged m ms) (text ++ (codes "," ++ others))
tagged_next names m ms text others is are = next_tagged m.id m.optional m.form ms text others is are

-- the text of members is one of these two
pub first_tagged : (names : NamedForms) → ByFirst OneMember Members then_tagged no_members (IsTextOfTaggedMember names) (IsTextOfTaggedMembers names)
first_tagged names P last next ms text (last_tagged id optional f own is) = last (record { id = id; optional = optional; form = f }) own is
first_tagged names P last next ms text (next_tagged id optional f ns own others is are) = next (record { id = id; optional = optional; form = f }) ns own others is are

abbrev pub tagged_members : NamedForms → Listing
tagged_members names = record {
  Item = Member;
  One = OneMember;
  All = Members;
  one = one_member;
  all = all_members;
  in_front = then_tagged;
  all-in_front = λ s ss. refl;
  IsText = IsTextOfTaggedMember names;
  AreText = IsTextOfTaggedMembers names;
  last_text = tagged_last names;
  next_text = tagged_next names;
  by_first = first_tagged names;
  depth_of = λ m. depth m.form;
  deepest_of = deepest_member;
  deepest-none = refl;
  deepest-in_front = λ m ms. refl;
  close = 41;
  no_comma = λ e. omega (arith, e);
  Stops = EndsShape;
  stops-comma = λ rest. inl refl;
  stops-close = λ rest. inr (inl refl);
}

-- ---- values and their names

pub first_label : ByFirst (ℤ × List ℕ) (List (ℤ × List ℕ)) (λ l ls. l ∷ ls) [] IsTextOfLabel IsTextOfLabels
first_label P last next ls text (last_label l own is) = last l own is
first_label P last next ls text (next_label l ks own others is are) = next l ks own others is are

abbrev pub labels : Listing
labels = record {
  Item = ℤ × String Global;
  One = ℤ × List ℕ;
  All = List (ℤ × List ℕ);
  one = one_label;
  all = labels_of;
  in_front = λ l ls. l ∷ ls;
  all-in_front = λ l ls. refl;
  IsText = IsTextOfLabel;
  AreText = IsTextOfLabels;
  last_text = last_label;
  next_text = next_label;
  by_first = first_label;
  depth_of = λ l. 0;
  deepest_of = λ ls. 0;
  deepest-none = refl;
  deepest-in_front = λ l ls. refl;
  close = 125;
  no_comma = λ e. omega (arith, e);
  Stops = EndsName;
  stops-comma = λ rest. refl;
  stops-close = λ rest. refl;
}
