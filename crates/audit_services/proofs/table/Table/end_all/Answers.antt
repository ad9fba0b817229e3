use Rattle.std.proofs.Common.{◌≡◌, ◌+◌, ◌++◌, ◌∷◌, List, map, drop, ap, sym, refl, subst, ◌∙◌}
use Rattle.std.specs.FinMap as finite
use Rattle.std.specs.List.Sorted.{IsStrictlySortedBy}
use Rattle.std.specs.Option.{option_map, option_to_list}
use Rattle.someip_tables.specs.Tables.{map_of}
use Rattle.someip_tables.proofs.Outcomes.{on_err}
use Rattle.audit_services.specs.Stays.{ended_of, entries_at, without_keys}
use Rattle.audit_services.proofs.EntryLemmas.{IsToldSoFar, all_told, begun_so_far, entries_beside, more_told, next_left, none_left, none_told, rest_sorted, told_before, without_beside, without_none}
use Rattle.audit_services.proofs.table.Table.end_all.Goals as goal

pub loop-key-init : goal.loop-key-init
loop-key-init g c = record {
  sorted = c.requires;
  told = none_told c.args.ended.now.items _;
  left = refl;
}

pub returns-in_err-end-clause-err : goal.returns-in_err-end-clause-err
returns-in_err-end-clause-err g c =
    on_err c.from_residual.result
    (begun_so_far c.args.ended.now.items c.end.new.ended.items _ _ (subst (λ xs. IsToldSoFar c.args.ended.now.items xs (map (ended_of c.args.why c.args.at) (entries_at (map_of g.K.Ord.cmp c.args.self.now) c.args.keys.now)) (map (ended_of c.args.why c.args.at) (entries_at (map_of g.K.Ord.cmp c.loop-key.self) (drop c.loop-key.key-index c.args.keys.now)))) (sym c.in_err-end.ensures.err) c.loop-key.invariant.told))

pub loop-key-preserved : goal.loop-key-preserved
loop-key-preserved g c =
    let m = map_of g.K.Ord.cmp c.loop-key.self in
    let key = c.key-item.result in
    let rest = drop (c.loop-key.key-index + 1) c.args.keys.now in
    let is = next_left c.args.keys.now c.loop-key.key-index key c.loop-key-test.true c.key-item.is in
    let parts = rest_sorted g.K.Ord.cmp key rest (subst (IsStrictlySortedBy g.K.Ord.cmp) is c.loop-key.invariant.sorted) in
    let some = option_to_list (option_map (λ stay. ended_of c.args.why c.args.at (key, stay)) (finite.get m key)) in
    let so = subst (λ keys. IsToldSoFar c.args.ended.now.items c.loop-key.ended.items (map (ended_of c.args.why c.args.at) (entries_at (map_of g.K.Ord.cmp c.args.self.now) c.args.keys.now)) (map (ended_of c.args.why c.args.at) (entries_at m keys))) is c.loop-key.invariant.told in
    let split = subst (IsToldSoFar c.args.ended.now.items c.loop-key.ended.items (map (ended_of c.args.why c.args.at) (entries_at (map_of g.K.Ord.cmp c.args.self.now) c.args.keys.now))) (told_before (ended_of c.args.why c.args.at) key (finite.get m key) (entries_at m rest)) so in
    let moved = sym (entries_beside g.met.K.Ord.total g.met.K.Key.exact m key rest parts.0) ∙ ap (λ n. entries_at n rest) (sym c.in_ok-end.ensures.left) in
    record {
      sorted = parts.1;
      told =
          subst (λ es. IsToldSoFar c.args.ended.now.items c.end.new.ended.items (map (ended_of c.args.why c.args.at) (entries_at (map_of g.K.Ord.cmp c.args.self.now) c.args.keys.now)) (map (ended_of c.args.why c.args.at) es)) moved
          (more_told c.args.ended.now.items c.loop-key.ended.items c.end.new.ended.items _ some (map (ended_of c.args.why c.args.at) (entries_at m rest)) split c.in_ok-end.ensures.ok);
      left =
          ap (λ n. without_keys n rest) c.in_ok-end.ensures.left ∙ without_beside g.met.K.Ord.total g.met.K.Key.exact m key rest ∙ ap (without_keys m) (sym is)
          ∙ c.loop-key.invariant.left;
    }

pub returns-clause-ok : goal.returns-clause-ok
returns-clause-ok g c =
    let end = none_left c.args.keys.now c.loop-key.key-index c.loop-key-test.false in
    all_told c.args.ended.now.items c.loop-key.ended.items _ (subst (λ keys. IsToldSoFar c.args.ended.now.items c.loop-key.ended.items (map (ended_of c.args.why c.args.at) (entries_at (map_of g.K.Ord.cmp c.args.self.now) c.args.keys.now)) (map (ended_of c.args.why c.args.at) (entries_at (map_of g.K.Ord.cmp c.loop-key.self) keys))) end c.loop-key.invariant.told)

pub returns-clause-left : goal.returns-clause-left
returns-clause-left g c =
    let end = none_left c.args.keys.now c.loop-key.key-index c.loop-key-test.false in
    sym (without_none g.met.K.Ord.total g.met.K.Key.exact (map_of g.K.Ord.cmp c.loop-key.self)) ∙ ap (without_keys (map_of g.K.Ord.cmp c.loop-key.self)) (sym end) ∙ c.loop-key.invariant.left
