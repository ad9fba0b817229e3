use Rattle.std.proofs.Common.{String, Global, ◌≡◌, inl, ⊎_elim, ℕ, List, [], ◌∷◌, ◌++◌, append_assoc, append-nil, map, refl, sym, ap, ◌∙◌, subst, string_bytes}
use Rattle.std.specs.BTreeMap.{keys}
use Rattle.std.proofs.lemmas.Result.{err_from_is_err_and}
use Rattle.toml.specs.Data.{Data}
use Rattle.toml.specs.View.{table_view, view}
use Rattle.someipctl_show.specs.types.References.{IsOneOf, Knows}
use Rattle.someipctl_show.specs.types.Tables.{keys_in, keys_of_members}
use Rattle.someipctl_show.proofs.about_types.LinkLemmas.{one_of_both, one_right}
use Rattle.someipctl_show.proofs.about_types.TextLemmas.{all_judged, key_text, keys_are, none_judged, table_is}
use Rattle.someipctl_show.proofs.about_types.WayLemmas.{tells_first}
use Rattle.someipctl_show.proofs.types.names.names_of.Goals as goal

abbrev bytes_of : List (String Global) → List (List ℕ)
bytes_of ks = map (λ k. string_bytes k) ks

pub loop-name-init : goal.loop-name-init
loop-name-init c =
    let is = table_is (view c.args.types.now) (table_view c.args.table.now) c.requires.table in
    let none = c.no_names-names.ensures in
    let it : c.into_iter-name-iterator.result ≡ keys c.args.table.now = c.into_iter-name-iterator.ensures.into_iter_gives ∙ c.keys-name-items.ensures.rest in
    let all : bytes_of c.into_iter-name-iterator.result ≡ keys_of_members (table_view c.args.table.now) = ap bytes_of it ∙ sym (keys_are c.args.table.now.entries) in
    record {
      judged = none_judged (view c.args.types.now) c.no_names-names.result c.args.table.now.entries is c.keys-name-items.ensures.ordered none.0 none.1;
      front = [];
      is = sym all;
      known = λ n one. absurd one;
    }

-- the key that is judged is the next one
next_is : (front all : List (List ℕ)) (it rest : List (String Global)) (k : String Global) → all ≡ front ++ bytes_of it → it ≡ k ∷ rest → all ≡ front ++ string_bytes k ∷ bytes_of rest
next_is front all it rest k is steps = is ∙ ap (λ (ks : List (String Global)). front ++ bytes_of ks) steps

pub judge-requires-clause-there : goal.judge-requires-clause-there
judge-requires-clause-there c =
    let n : List ℕ = string_bytes c.in-Some.name.now in
    let held = c.loop-name.invariant in
    let is = table_is (view c.args.types.now) (table_view c.args.table.now) c.requires.table in
    let keys_are_so = next_is held.front (keys_of_members (table_view c.args.table.now)) c.loop-name.name-iterator c.next.new.self c.in-Some.name.now held.is c.in-Some.ensures.steps in
    let one = subst (IsOneOf n) (sym keys_are_so) (one_right n held.front (n ∷ bytes_of c.next.new.self) (inl refl)) in
    let found = key_text n (table_view c.args.table.now) c.requires.texts one in
    (found.0, rw (c.as_str.ensures.value, is) found.1)

pub loop-name-preserved : goal.loop-name-preserved
loop-name-preserved c =
    let held = c.loop-name.invariant in
    let n : List ℕ = string_bytes c.in-Some.name.now in
    let now = c.in_ok-judge.ensures in
    let keys_are_so = next_is held.front (keys_of_members (table_view c.args.table.now)) c.loop-name.name-iterator c.next.new.self c.in-Some.name.now held.is c.in-Some.ensures.steps in
    record {
      judged = now.ok;
      front = held.front ++ n ∷ [];
      is = keys_are_so ∙ sym (append_assoc held.front (n ∷ []) (bytes_of c.next.new.self));
      known = λ m one.
          ⊎_elim (λ before. now.more m (held.known m before))
          (λ here. ⊎_elim (λ same. subst (Knows c.judge.new.names.shapes) (c.as_str.ensures.value ∙ sym same) now.known) (λ never. absurd never) here) (one_of_both m held.front (n ∷ []) one);
    }

pub returns-clause-ok : goal.returns-clause-ok
returns-clause-ok c =
    let held = c.loop-name.invariant in
    let is = table_is (view c.args.types.now) (table_view c.args.table.now) c.requires.table in
    let whole : keys_of_members (table_view c.args.table.now) ≡ held.front = held.is ∙ ap (λ (ks : List (String Global)). held.front ++ bytes_of ks) c.in-None.ensures.steps.0 ∙ append-nil held.front in
    all_judged (view c.args.types.now) c.loop-name.names (table_view c.args.table.now) is held.judged (λ n one. held.known n (subst (IsOneOf n) whole one))

pub returns-in_err-judge-clause-err : goal.returns-in_err-judge-clause-err
returns-in_err-judge-clause-err c =
    let p = err_from_is_err_and c.from_residual.result c.from_residual.ensures.1 in
    let types : Data = view c.args.types.now in
    let held = c.loop-name.invariant in
    let n : List ℕ = string_bytes c.in-Some.name.now in
    let keys_are_so = next_is held.front (keys_of_members (table_view c.args.table.now)) c.loop-name.name-iterator c.next.new.self c.in-Some.name.now held.is c.in-Some.ensures.steps in
    rw (p.1, p.2)
    (tells_first types c.loop-name.names.shapes n held.front (bytes_of c.next.new.self) _ (ap keys_in c.requires.table ∙ keys_are_so) held.known (rw c.as_str.ensures.value at c.in_err-judge.ensures.err))
