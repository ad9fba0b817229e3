-- Names in a map of shapes.
use Rattle.std.proofs.Common.{◌≡◌, ℕ, Bool as Bit, true, false, cond, List, [], ◌∷◌, Option, Some, None, Bor, Global, String, string_bytes, refl, sym, ap, ◌∙◌}
use Rattle.std.specs.Prelude.{if◌then◌else◌}
use Rattle.std.specs.BTreeMap.{BTreeMap, Updates, get_by_text, is_at}
use Rattle.std.specs.Cmp.Lexicographic.{slice_cmp}
use Rattle.std.specs.Map.{lookup}
use Rattle.std.specs.Option.{option_map, option_copied}
use Rattle.std.specs.Ordering.{is_eq, nat_cmp}
use Rattle.std.specs.Str.{bytes_eq}
use Rattle.std.specs.String.{string_cmp}
use Rattle.std.proofs.lemmas.Map.Text.{is_eq-slice_cmp, btree_map_updates_text}
use Rattle.someip_payload_values.specs.declared.shape.Shape.{Shape}
use Rattle.someip_payload_values.specs.Data.{Form}
use Rattle.someip_payload_values.specs.View.{form}
use Rattle.someip_payload.specs.Named.{NamedForms, form_named}
use Rattle.someip_payload.specs.NamedView.{named_view}

cond-form : (b : Bit) (s : Shape) (r : Option Shape) → cond b (Some (form s)) (option_map form r) ≡ option_map form (cond b (Some s) r)
cond-form true s r = refl
cond-form false s r = refl

-- what a name stands for is the form of what the map has
form_named-entries : (n : List ℕ) (es : List (String Global × Shape)) → form_named (named_view es) n ≡ option_map form (lookup (is_at (λ k. slice_cmp nat_cmp n (string_bytes k))) es)
form_named-entries n [] = refl
form_named-entries n (e ∷ es) =
    let test : bytes_eq n (string_bytes e.0) ≡ is_eq (slice_cmp nat_cmp n (string_bytes e.0)) = sym (is_eq-slice_cmp n (string_bytes e.0)) in
    (λ i. cond (test i) (Some (form e.1)) (form_named-entries n es i)) ∙ cond-form (is_eq (slice_cmp nat_cmp n (string_bytes e.0))) e.1 (lookup (is_at (λ k. slice_cmp nat_cmp n (string_bytes k))) es)

pub form_named-view : (m : BTreeMap (String Global) Shape) (n : List ℕ) → form_named (named_view m.entries) n ≡ option_map form (get_by_text m n)
form_named-view m n = form_named-entries n m.entries

-- the form of what is lent
pub form-lent : (r : Option (Bor Shape)) → option_map (λ s. form s.now) r ≡ option_map form (option_copied r)
form-lent None = refl
form-lent (Some s) = refl

-- a shape that was put under a name
pub form_named-put : (old new : BTreeMap (String Global) Shape) (before : NamedForms) (name : String Global) (s : Shape) → named_view old.entries ≡ before → Updates string_cmp old new name (Some s)
    → (n : List ℕ) → form_named (named_view new.entries) n ≡ (if bytes_eq (string_bytes name) n then Some (form s) else form_named before n)
form_named-put old new before name s view put n =
    let now : get_by_text new n ≡ cond (bytes_eq (string_bytes name) n) (Some s) (get_by_text old n) = btree_map_updates_text (string_bytes name) old new (Some s) put n in
    form_named-view new n ∙ ap (option_map form) now ∙ sym (cond-form (bytes_eq (string_bytes name) n) s (get_by_text old n))
    ∙ ap (λ (r : Option Form). cond (bytes_eq (string_bytes name) n) (Some (form s)) r) (sym (form_named-view old n) ∙ ap (λ (v : NamedForms). form_named v n) view)
