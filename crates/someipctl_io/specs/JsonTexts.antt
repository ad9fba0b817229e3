-- The text of a JSON value, without spaces.
use Rattle.std.specs.Prelude.{ℕ, Bool, true, false, List, [], ◌++◌, codes}
use Rattle.json.specs.Json.{Json, null, boolean, number, string, array, object, Items, no_items, item, Members, no_members, member}
use Rattle.json.specs.Print.{quoted}

-- a truth
abbrev pub truth_text : Bool → List ℕ
truth_text true = codes "true"
truth_text false = codes "false"

-- a key, with the colon behind it
abbrev pub key_text : List ℕ → List ℕ
key_text key = quoted key ++ codes ":"

abbrev mutual
  pub json_text : Json → List ℕ
  json_text null = codes "null"
  json_text (boolean b) = truth_text b
  json_text (number text) = text
  json_text (string text) = quoted text
  json_text (array js) = codes "[" ++ (items_text js ++ codes "]")
  json_text (object ms) = codes "{" ++ (members_text ms ++ codes "}")

  -- the items of an array, with commas between them
  pub items_text : Items → List ℕ
  items_text no_items = []
  items_text (item j js) = json_text j ++ other_items_text js

  -- the same behind an item
  pub other_items_text : Items → List ℕ
  other_items_text no_items = []
  other_items_text (item j js) = codes "," ++ (json_text j ++ other_items_text js)

  -- the members of an object, with commas between them
  pub members_text : Members → List ℕ
  members_text no_members = []
  members_text (member key j ms) = key_text key ++ (json_text j ++ other_members_text ms)

  -- the same behind a member
  pub other_members_text : Members → List ℕ
  other_members_text no_members = []
  other_members_text (member key j ms) = codes "," ++ (key_text key ++ (json_text j ++ other_members_text ms))
