-- The text of a JSON value is what the kit prints of its tokens, and reads as it.
use Rattle.std.proofs.Common.{◌≡◌, ℕ, ◌≤◌, Bool, true, false, cond, List, [], ◌∷◌, ◌++◌, Some, refl, sym, ap, ◌∙◌, append_assoc, append-nil}
use Rattle.json.specs.Json.{Json, null, boolean, number, string, array, object, Items, no_items, item, Members, no_members, member, document, max_depth}
use Rattle.json.specs.Print.{print, print_from}
use Rattle.json.specs.Token.{Token}
use Rattle.json.specs.Tree.{json_tokens, items_tokens, members_tokens, depth, HasNumbers}
use Rattle.json.proofs.Printed.Trees.{document-print}
use Rattle.someipctl_io.specs.JsonTexts.{key_text, json_text, items_text, other_items_text, members_text, other_members_text}

abbrev comma_if : Bool → List ℕ
comma_if c = cond c (44 ∷ []) []

mutual
  unfolding print_from

  printed : (c : Bool) (j : Json) (rest : List Token) → print_from c (json_tokens j ++ rest) ≡ comma_if c ++ (json_text j ++ print_from true rest)
  printed true null rest = refl
  printed false null rest = refl
  printed true (boolean true) rest = refl
  printed true (boolean false) rest = refl
  printed false (boolean true) rest = refl
  printed false (boolean false) rest = refl
  printed true (number s) rest = refl
  printed false (number s) rest = refl
  printed true (string s) rest = refl
  printed false (string s) rest = refl
  printed true (array js) rest = ap (λ (t : List ℕ). 44 ∷ 91 ∷ t) (items_printed js rest ∙ sym (append_assoc (items_text js) (93 ∷ []) (print_from true rest)))
  printed false (array js) rest = ap (λ (t : List ℕ). 91 ∷ t) (items_printed js rest ∙ sym (append_assoc (items_text js) (93 ∷ []) (print_from true rest)))
  printed true (object ms) rest = ap (λ (t : List ℕ). 44 ∷ 123 ∷ t) (members_printed ms rest ∙ sym (append_assoc (members_text ms) (125 ∷ []) (print_from true rest)))
  printed false (object ms) rest = ap (λ (t : List ℕ). 123 ∷ t) (members_printed ms rest ∙ sym (append_assoc (members_text ms) (125 ∷ []) (print_from true rest)))

  items_printed : (js : Items) (rest : List Token) → print_from false (items_tokens js ++ rest) ≡ items_text js ++ (93 ∷ print_from true rest)
  items_printed no_items rest = refl
  items_printed (item j js) rest =
      ap (print_from false) (append_assoc (json_tokens j) (items_tokens js) rest) ∙ printed false j (items_tokens js ++ rest)
      ∙ ap (λ (t : List ℕ). json_text j ++ t) (others_printed js rest) ∙ sym (append_assoc (json_text j) (other_items_text js) (93 ∷ print_from true rest))

  others_printed : (js : Items) (rest : List Token) → print_from true (items_tokens js ++ rest) ≡ other_items_text js ++ (93 ∷ print_from true rest)
  others_printed no_items rest = refl
  others_printed (item j js) rest =
      ap (print_from true) (append_assoc (json_tokens j) (items_tokens js) rest) ∙ printed true j (items_tokens js ++ rest)
      ∙ ap (λ (t : List ℕ). 44 ∷ (json_text j ++ t)) (others_printed js rest)
      ∙ ap (λ (t : List ℕ). 44 ∷ t) (sym (append_assoc (json_text j) (other_items_text js) (93 ∷ print_from true rest)))

  members_printed : (ms : Members) (rest : List Token) → print_from false (members_tokens ms ++ rest) ≡ members_text ms ++ (125 ∷ print_from true rest)
  members_printed no_members rest = refl
  members_printed (member key j ms) rest =
      ap (λ (t : List ℕ). key_text key ++ t) (ap (print_from false) (append_assoc (json_tokens j) (members_tokens ms) rest) ∙ printed false j (members_tokens ms ++ rest)
      ∙ ap (λ (t : List ℕ). json_text j ++ t) (other_members_printed ms rest) ∙ sym (append_assoc (json_text j) (other_members_text ms) (125 ∷ print_from true rest))) ∙ sym (append_assoc (key_text key) (json_text j ++ other_members_text ms) (125 ∷ print_from true rest))

  other_members_printed : (ms : Members) (rest : List Token) → print_from true (members_tokens ms ++ rest) ≡ other_members_text ms ++ (125 ∷ print_from true rest)
  other_members_printed no_members rest = refl
  other_members_printed (member key j ms) rest =
      ap (λ (t : List ℕ). 44 ∷ (key_text key ++ t)) (ap (print_from false) (append_assoc (json_tokens j) (members_tokens ms) rest) ∙ printed false j (members_tokens ms ++ rest)
      ∙ ap (λ (t : List ℕ). json_text j ++ t) (other_members_printed ms rest) ∙ sym (append_assoc (json_text j) (other_members_text ms) (125 ∷ print_from true rest)))
      ∙ ap (λ (t : List ℕ). 44 ∷ t) (sym (append_assoc (key_text key) (json_text j ++ other_members_text ms) (125 ∷ print_from true rest)))

pub print-json_text : (j : Json) → print (json_tokens j) ≡ json_text j
unfolding print_from
print-json_text j = ap (print_from false) (sym (append-nil (json_tokens j))) ∙ printed false j [] ∙ append-nil (json_text j)

-- the text of a value reads as it
pub document-json_text : (j : Json) → HasNumbers j → depth j ≤ max_depth → document (json_text j) ≡ Some j
document-json_text j numbers shallow = ap document (sym (print-json_text j)) ∙ document-print j numbers shallow
