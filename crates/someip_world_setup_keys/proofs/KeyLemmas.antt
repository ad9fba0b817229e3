-- The keys of a table that its subject does not know.
use Rattle.std.proofs.Common.{String, Global, ◌≡◌, ℕ, Bool, true, false, cond, not, ◌||◌, List, [], ◌∷◌, map, Option, Some, refl, sym, ap, ◌∙◌, string_bytes}
use Rattle.std.specs.List.{list_any, find}
use Rattle.std.specs.Option.{is_some}
use Rattle.std.specs.BTreeMap.{BTreeMap, keys}
use Rattle.toml.specs.Data.{Data, Members, as_table}
use Rattle.toml.specs.View.{members_view, table_view}
use Rattle.toml.specs.declared.value.Value.{Value}
use Rattle.someip_world_setup_keys.specs.declared.unknown.Subject.{Subject}
use Rattle.someip_world_setup_keys.specs.KnownKeys.{is_known_key, keys_in, keys_of_members, has_unknown}

any-find : {A : Type 0} (p : A → Bool) (xs : List A) → is_some (find p xs) ≡ list_any p xs
any-find p [] = refl
any-find p (x ∷ xs) = cases (p x) (any-find p xs)
  where
    cases : (b : Bool) → is_some (find p xs) ≡ list_any p xs → is_some (cond b (Some x) (find p xs)) ≡ (b || list_any p xs)
    cases true h = refl
    cases false h = h

any-keys : (p : List ℕ → Bool) (es : List (String Global × Value)) → list_any p (keys_of_members (members_view es)) ≡ list_any (λ k. p (string_bytes k)) (map (λ e. e.0) es)
any-keys p [] = refl
any-keys p (e ∷ es) = ap (λ b. p (string_bytes e.0) || b) (any-keys p es)

-- the first of the keys that is unknown, if one is
pub first_decides : (subject : Subject) (d : Data) (m : BTreeMap (String Global) Value) (first : Option (String Global)) → Some (table_view m) ≡ as_table d → first ≡ find (λ k. not (is_known_key subject (string_bytes k))) (keys m) → is_some first ≡ has_unknown subject d
first_decides subject d m first is found =
    ap (λ (o : Option (String Global)). is_some o) found
    ∙ any-find (λ k. not (is_known_key subject (string_bytes k))) (keys m)
    ∙ sym (any-keys (λ k. not (is_known_key subject k)) m.entries)
    ∙ ap (λ (o : Option Members). list_any (λ k. not (is_known_key subject k)) (keys_in o)) is
