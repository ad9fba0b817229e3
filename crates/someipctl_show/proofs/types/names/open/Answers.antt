use Rattle.std.proofs.Common.{◌≡◌, ap, ◌∙◌, refl, Bool, true, false, cond, ◌||◌, bytes_eq, List, ℕ, string_bytes}
use Rattle.std.specs.BTreeSet.{contains_text}
use Rattle.std.proofs.lemmas.Map.Text.{btree_set_updates_text}
use Rattle.someipctl_show.proofs.types.names.open.Goals as goal

either : (a b : Bool) → cond a true b ≡ (a || b)
either true b = refl
either false b = refl

pub returns-clause-opened : goal.returns-clause-opened
returns-clause-opened c = λ n.
    btree_set_updates_text (string_bytes c.in_ok-from_str.field-0) c.args.way.now.opened c.insert.new.self true c.in_ok-insert.ensures.updates n
    ∙ either (bytes_eq (string_bytes c.in_ok-from_str.field-0) n) (contains_text c.args.way.now.opened n)
    ∙ ap (λ (t : List ℕ). bytes_eq t n || contains_text c.args.way.now.opened n) c.in_ok-from_str.ensures.ok
