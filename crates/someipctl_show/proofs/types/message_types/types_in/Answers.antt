use Rattle.std.proofs.Common.{map, ◌≡◌, List, Some, Err, subst, sym}
use Rattle.std.proofs.lemmas.Result.{err_from_is_err_and}
use Rattle.toml.specs.Data.{Data}
use Rattle.toml.specs.View.{view}
use Rattle.someipctl_show.specs.declared.types.error.TypesError.{TypesError}
use Rattle.someipctl_show.specs.declared.types.names.Names.{Names}
use Rattle.someipctl_show.specs.types.Faults.{FirstClashes, FirstFails, HasFault, IsReadUnlessMemory, TellsTable, TellsUnknown}
use Rattle.someipctl_show.specs.types.Judging.{HasNames}
use Rattle.someipctl_show.specs.types.Keys.{IsOnly}
use Rattle.someipctl_show.specs.types.Names.{left_by}
use Rattle.someipctl_show.specs.types.Says.{SaysEach, SaysTypes}
use Rattle.someipctl_show.specs.types.Tables.{message_tables}
use Rattle.someipctl_show.specs.types.Types.{TypesValue}
use Rattle.someipctl_show.specs.types.Views.{types_view}
use Rattle.someipctl_show.proofs.about_types.AlikeLemmas.{names_of}
use Rattle.someipctl_show.proofs.about_types.ReadLemmas.{good_tables}
use Rattle.someipctl_show.proofs.about_types.FaultLemmas.{clash_fault, early_fault, early_refuses, fault_refuses, same_tables, tables_fault, tables_refuse, unknown_fault}
use Rattle.someipctl_show.proofs.types.message_types.types_in.Goals as goal

pub invariant_of-result : goal.invariant_of-result
invariant_of-result c = (
  record {
    tables = good_tables c.in_ok-names.names.shapes c.in_ok-names.names.left (map view c.in_ok-listed.listed.now) (types_view c.in_ok-tables.tables.items) c.in_ok-tables.ensures.ok.0;
    apart = rw c.deref.ensures.value at c.in_ok-places.ensures.apart;
  },
  rw c.deref.ensures.value at c.in_ok-places.ensures.index,
)

-- names and tables that were read, as a tree has them
module _ (tree : Data) (names : Names) (has : HasNames tree names) (ds : List Data) (is : message_tables tree ≡ Some ds) where
  tables_fail : (e : TypesError) → TellsTable (FirstFails names.shapes names.left ds) e → HasFault tree e
  tables_fail e h =
      let named = names_of tree names has in
      tables_fault tree has.0 names.shapes named.0 ds is e (subst (λ n. TellsTable (FirstFails names.shapes n ds) e) named.1 h)

  tables_say_none : (e : TypesError) (types : TypesValue) → TellsTable (FirstFails names.shapes names.left ds) e → SaysTypes tree types → IsReadUnlessMemory types (Err e)
  tables_say_none e types h said =
      let named = names_of tree names has in
      tables_refuse tree has.0 names.shapes ds types e named.0 is (subst (λ n. TellsTable (FirstFails names.shapes n ds) e) named.1 h) said

  module _ (read : TypesValue) (only : IsOnly (SaysEach names.shapes names.left ds) read) where
    only_so : IsOnly (SaysEach names.shapes (left_by names.shapes has.0) ds) read
    only_so = subst (λ n. IsOnly (SaysEach names.shapes n ds) read) (names_of tree names has).1 only

    unknown_fails : (e : TypesError) → TellsUnknown tree ds e → HasFault tree e
    unknown_fails e h = unknown_fault tree has.0 names.shapes (names_of tree names has).0 ds is e h

    clash_fails : (e : TypesError) → TellsTable (FirstClashes read) e → HasFault tree e
    clash_fails e h = clash_fault tree has.0 names.shapes (names_of tree names has).0 ds is read only_so.0 e h

    says_none : (e : TypesError) (types : TypesValue) → HasFault tree e → SaysTypes tree types → IsReadUnlessMemory types (Err e)
    says_none e types h said = fault_refuses tree has.0 names.shapes ds read (names_of tree names has).0 is only_so e types h said

    says_this : (types : TypesValue) → SaysTypes tree types → read ≡ types
    says_this types said = sym (only_so.1 types (same_tables tree has.0 names.shapes ds types (names_of tree names has).0 is said))

pub returns-in_err-names-clause-only : goal.returns-in_err-names-clause-only
returns-in_err-names-clause-only c =
    let p = err_from_is_err_and c.from_residual.result c.from_residual.ensures.1 in
    λ types said. rw (p.1, p.2) (early_refuses (view c.args.tree.now) _ types c.in_err-names.ensures.err said)

pub returns-in_err-names-clause-fault : goal.returns-in_err-names-clause-fault
returns-in_err-names-clause-fault c =
    let p = err_from_is_err_and c.from_residual.result c.from_residual.ensures.1 in
    rw (p.1, p.2) (early_fault (view c.args.tree.now) _ c.in_err-names.ensures.err)

pub returns-in_err-tables-clause-only : goal.returns-in_err-tables-clause-only
returns-in_err-tables-clause-only c =
    let p = err_from_is_err_and c.from_residual-in_err-tables.result c.from_residual-in_err-tables.ensures.1 in
    λ types said. rw (p.1, p.2) (tables_say_none (view c.args.tree.now) c.in_ok-names.names c.in_ok-names.ensures.ok (map view c.in_ok-listed.listed.now) c.in_ok-listed.ensures.ok _ types c.in_err-tables.ensures.err said)

pub returns-in_err-tables-clause-fault : goal.returns-in_err-tables-clause-fault
returns-in_err-tables-clause-fault c =
    let p = err_from_is_err_and c.from_residual-in_err-tables.result c.from_residual-in_err-tables.ensures.1 in
    rw (p.1, p.2) (tables_fail (view c.args.tree.now) c.in_ok-names.names c.in_ok-names.ensures.ok (map view c.in_ok-listed.listed.now) c.in_ok-listed.ensures.ok _ c.in_err-tables.ensures.err)

pub returns-in_err-refuse_unknown-clause-fault : goal.returns-in_err-refuse_unknown-clause-fault
returns-in_err-refuse_unknown-clause-fault c =
    let p = err_from_is_err_and c.from_residual-in_err-refuse_unknown.result c.from_residual-in_err-refuse_unknown.ensures.1 in
    rw (p.1, p.2)
    (unknown_fails (view c.args.tree.now) c.in_ok-names.names c.in_ok-names.ensures.ok (map view c.in_ok-listed.listed.now) c.in_ok-listed.ensures.ok (types_view c.in_ok-tables.tables.items) c.in_ok-tables.ensures.ok _ c.in_err-refuse_unknown.ensures.err)

pub returns-in_err-refuse_unknown-clause-only : goal.returns-in_err-refuse_unknown-clause-only
returns-in_err-refuse_unknown-clause-only c =
    let p = err_from_is_err_and c.from_residual-in_err-refuse_unknown.result c.from_residual-in_err-refuse_unknown.ensures.1 in
    let tree : Data = view c.args.tree.now in
    let ds : List Data = map view c.in_ok-listed.listed.now in
    let read : TypesValue = types_view c.in_ok-tables.tables.items in
    let fault = unknown_fails tree c.in_ok-names.names c.in_ok-names.ensures.ok ds c.in_ok-listed.ensures.ok read c.in_ok-tables.ensures.ok _ c.in_err-refuse_unknown.ensures.err in
    λ types said. rw (p.1, p.2) (says_none tree c.in_ok-names.names c.in_ok-names.ensures.ok ds c.in_ok-listed.ensures.ok read c.in_ok-tables.ensures.ok _ types fault said)

pub returns-in_err-places-clause-fault : goal.returns-in_err-places-clause-fault
returns-in_err-places-clause-fault c =
    let p = err_from_is_err_and c.from_residual-in_err-places.result c.from_residual-in_err-places.ensures.1 in
    let clash = rw c.deref.ensures.value at c.in_err-places.ensures.clash in
    rw (p.1, p.2)
    (clash_fails (view c.args.tree.now) c.in_ok-names.names c.in_ok-names.ensures.ok (map view c.in_ok-listed.listed.now) c.in_ok-listed.ensures.ok (types_view c.in_ok-tables.tables.items) c.in_ok-tables.ensures.ok _ clash)

pub returns-in_err-places-clause-only : goal.returns-in_err-places-clause-only
returns-in_err-places-clause-only c =
    let p = err_from_is_err_and c.from_residual-in_err-places.result c.from_residual-in_err-places.ensures.1 in
    let clash = rw c.deref.ensures.value at c.in_err-places.ensures.clash in
    let tree : Data = view c.args.tree.now in
    let ds : List Data = map view c.in_ok-listed.listed.now in
    let read : TypesValue = types_view c.in_ok-tables.tables.items in
    let fault = clash_fails tree c.in_ok-names.names c.in_ok-names.ensures.ok ds c.in_ok-listed.ensures.ok read c.in_ok-tables.ensures.ok _ clash in
    λ types said. rw (p.1, p.2) (says_none tree c.in_ok-names.names c.in_ok-names.ensures.ok ds c.in_ok-listed.ensures.ok read c.in_ok-tables.ensures.ok _ types fault said)

pub returns-clause-only : goal.returns-clause-only
returns-clause-only c = λ types said.
    says_this (view c.args.tree.now) c.in_ok-names.names c.in_ok-names.ensures.ok (map view c.in_ok-listed.listed.now) c.in_ok-listed.ensures.ok (types_view c.in_ok-tables.tables.items) c.in_ok-tables.ensures.ok types said
