-- How many forms a form is made of.
use Rattle.std.specs.Prelude.{ℕ, ◌+◌}
use Rattle.someip_payload_values.specs.Data.{Form, bool, unsigned, signed, float, string, padded, array, fixed, «struct», union, tagged, named, enumerated, Forms, no_forms, form_then, Variants, no_variants, variant, Members, no_members, member_then}

abbrev mutual
  -- this form and those inside it. A name and names for values add none.
  pub form_count : Form → ℕ
  form_count (array width most element) = form_count element + 1
  form_count (fixed width n element) = form_count element + 1
  form_count («struct» width fs) = count_all fs + 1
  form_count (union width type vs) = count_variants vs + 1
  form_count (tagged width ms) = count_members ms + 1
  form_count (named n f) = form_count f
  form_count (enumerated f labels) = form_count f
  form_count bool = 1
  form_count (unsigned order size) = 1
  form_count (signed order size) = 1
  form_count (float order p) = 1
  form_count (string encoding width) = 1
  form_count (padded encoding n) = 1

  pub count_all : Forms → ℕ
  count_all no_forms = 0
  count_all (form_then f fs) = form_count f + count_all fs

  pub count_variants : Variants → ℕ
  count_variants no_variants = 0
  count_variants (variant n f vs) = form_count f + count_variants vs

  pub count_members : Members → ℕ
  count_members no_members = 0
  count_members (member_then id optional f ms) = form_count f + count_members ms
