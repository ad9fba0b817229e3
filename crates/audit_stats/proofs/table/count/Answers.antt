use Rattle.std.proofs.Common.{refl, ◌≡◌, None, Some, ◌||◌, nat_lt, true, if◌then◌else◌, rules, sym, ap, ◌∙◌}
use Rattle.std.proofs.lemmas.Bool.{and_from}
use Rattle.std.specs.BTreeMap as tree
use Rattle.std.specs.FinMap as finite
use Rattle.std.specs.Option.{is_some, unwrap_or}
use Rattle.someip_tables.specs.Tables.{map_of}
use Rattle.someip_tables.proofs.Trees.{get-map_of, map_of-insert}
use Rattle.audit_stats.proofs.TableLemmas.{if_ok_from, insert_same, on_err_from}
use Rattle.audit_stats.proofs.table.count.Goals as goal

pub returns-in-Ok-clause-room : goal.returns-in-Ok-clause-room
returns-in-Ok-clause-room g c =
    let known : finite.get (map_of g.K.Ord.cmp c.args.held.now.entries) c.args.key ≡ Some c.in-Some.value.now = get-map_of g.met.K.Ord.total c.args.held.now.entries c.args.key ∙ sym c.in-Some.ensures.value in
    rw known refl

pub returns-in-Ok-clause-ok : goal.returns-in-Ok-clause-ok
returns-in-Ok-clause-ok g c =
    let known : finite.get (map_of g.K.Ord.cmp c.args.held.now.entries) c.args.key ≡ Some c.in-Some.value.now = get-map_of g.met.K.Ord.total c.args.held.now.entries c.args.key ∙ sym c.in-Some.ensures.value in
    let put : map_of g.K.Ord.cmp (c.get_mut.follows.lender c.count.new.self).entries ≡ finite.insert (map_of g.K.Ord.cmp c.args.held.now.entries) c.args.key c.count.new.self =
    map_of-insert g.met.K.Ord.total g.met.K.Key.exact c.args.held.now.entries (c.get_mut.follows.lender c.count.new.self).entries c.args.key _ ((c.get_mut.follows.holds c.count.new.self).3 (search rules)).0 in
    put ∙ ap (finite.insert (map_of g.K.Ord.cmp c.args.held.now.entries) c.args.key) (c.in-Ok.ensures.ok ∙ ap (λ o. g.V.Counts.after c.args.change (unwrap_or o g.V.Counts.none)) (sym known))

pub returns-in-Err-clause-err : goal.returns-in-Err-clause-err
returns-in-Err-clause-err g c =
    let known : finite.get (map_of g.K.Ord.cmp c.args.held.now.entries) c.args.key ≡ Some c.in-Some.value.now = get-map_of g.met.K.Ord.total c.args.held.now.entries c.args.key ∙ sym c.in-Some.ensures.value in
    let put : map_of g.K.Ord.cmp (c.get_mut.follows.lender c.count.new.self).entries ≡ finite.insert (map_of g.K.Ord.cmp c.args.held.now.entries) c.args.key c.count.new.self =
    map_of-insert g.met.K.Ord.total g.met.K.Key.exact c.args.held.now.entries (c.get_mut.follows.lender c.count.new.self).entries c.args.key _ ((c.get_mut.follows.holds c.count.new.self).3 (search rules)).0 in
    put ∙ ap (finite.insert (map_of g.K.Ord.cmp c.args.held.now.entries) c.args.key) c.in-Err.ensures.err ∙ insert_same g.met.K.Ord.total g.met.K.Key.exact (map_of g.K.Ord.cmp c.args.held.now.entries) c.args.key c.in-Some.value.now known

pub returns-in-Err-clause-grows : goal.returns-in-Err-clause-grows
returns-in-Err-clause-grows g c =
    let known : finite.get (map_of g.K.Ord.cmp c.args.held.now.entries) c.args.key ≡ Some c.in-Some.value.now = get-map_of g.met.K.Ord.total c.args.held.now.entries c.args.key ∙ sym c.in-Some.ensures.value in
    rw known c.in-Err.ensures.grows

pub returns-in-None-clause-room : goal.returns-in-None-clause-room
returns-in-None-clause-room g c =
    let none : finite.get (map_of g.K.Ord.cmp c.args.held.now.entries) c.args.key ≡ None = get-map_of g.met.K.Ord.total c.args.held.now.entries c.args.key ∙ sym c.in-None.ensures.value in
    let same : c.get_mut.follows.lender-at-none ≡ c.args.held.now = c.get_mut.follows.holds-at-none in
    if_ok_from c.begin.result
    (λ room is. is ∙ ap (λ (m : tree.BTreeMap _ _). nat_lt (finite.len (map_of g.K.Ord.cmp m.entries)) c.args.limit) same ∙ ap (λ o. is_some o || nat_lt (finite.len (map_of g.K.Ord.cmp c.args.held.now.entries)) c.args.limit) (sym none)) c.begin.ensures.room

pub returns-in-None-clause-ok : goal.returns-in-None-clause-ok
returns-in-None-clause-ok g c =
    let none : finite.get (map_of g.K.Ord.cmp c.args.held.now.entries) c.args.key ≡ None = get-map_of g.met.K.Ord.total c.args.held.now.entries c.args.key ∙ sym c.in-None.ensures.value in
    let same : c.get_mut.follows.lender-at-none ≡ c.args.held.now = c.get_mut.follows.holds-at-none in
    let first : g.V.Counts.after c.args.change g.V.Counts.none ≡ g.V.Counts.after c.args.change (unwrap_or (finite.get (map_of g.K.Ord.cmp c.args.held.now.entries) c.args.key) g.V.Counts.none) = ap (λ o. g.V.Counts.after c.args.change (unwrap_or o g.V.Counts.none)) (sym none) in
    if_ok_from c.begin.result
    (λ room is. is ∙ ap (λ (m : tree.BTreeMap _ _). if room then finite.insert (map_of g.K.Ord.cmp m.entries) c.args.key (g.V.Counts.after c.args.change g.V.Counts.none) else map_of g.K.Ord.cmp m.entries) same
    ∙ ap (λ v. if room then finite.insert (map_of g.K.Ord.cmp c.args.held.now.entries) c.args.key v else (map_of g.K.Ord.cmp c.args.held.now.entries)) first) c.begin.ensures.ok

pub returns-in-None-clause-grows : goal.returns-in-None-clause-grows
returns-in-None-clause-grows g c =
    let none : finite.get (map_of g.K.Ord.cmp c.args.held.now.entries) c.args.key ≡ None = get-map_of g.met.K.Ord.total c.args.held.now.entries c.args.key ∙ sym c.in-None.ensures.value in
    let same : c.get_mut.follows.lender-at-none ≡ c.args.held.now = c.get_mut.follows.holds-at-none in
    on_err_from c.begin.result
    (λ is. rw none (and_from (nat_lt (finite.len (map_of g.K.Ord.cmp c.args.held.now.entries)) c.args.limit) true (ap (λ (m : tree.BTreeMap _ _). nat_lt (finite.len (map_of g.K.Ord.cmp m.entries)) c.args.limit) (sym same) ∙ is) refl)) c.begin.ensures.grows
