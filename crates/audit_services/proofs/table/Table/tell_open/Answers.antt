use Rattle.std.proofs.Common.{◌≡◌, ◌++◌, ◌∷◌, [], map, ap, sym, subst, ◌∙◌}
use Rattle.std.specs.FinMap as finite
use Rattle.someip_tables.specs.Tables.{map_of}
use Rattle.someip_tables.proofs.Outcomes.{on_err}
use Rattle.audit_services.specs.declared.why.Why.TheVariants.{Open}
use Rattle.audit_services.specs.Stays.{ended_of}
use Rattle.audit_services.proofs.EntryLemmas.{IsToldSoFar, all_told, begun_so_far, more_told, none_told}
use Rattle.audit_services.proofs.table.Table.tell_open.Goals as goal

pub loop-key-init : goal.loop-key-init
loop-key-init g c =
    let all = map (ended_of Open c.args.at) (finite.entries (map_of g.K.Ord.cmp c.args.self.now)) in
    let from : c.into_iter-key-iterator.result ≡ finite.entries (map_of g.K.Ord.cmp c.args.self.now) = c.into_iter-key-iterator.ensures.into_iter_gives ∙ c.iter-key-items.ensures.rest ∙ ap (λ es. finite.entries (map_of g.K.Ord.cmp es)) c.self.view_is in
    subst (λ xs. IsToldSoFar c.args.ended.now.items c.args.ended.now.items all (map (ended_of Open c.args.at) xs)) (sym from) (none_told c.args.ended.now.items all)

pub loop-key-preserved : goal.loop-key-preserved
loop-key-preserved g c =
    let all = map (ended_of Open c.args.at) (finite.entries (map_of g.K.Ord.cmp c.args.self.now)) in
    more_told c.args.ended.now.items c.loop-key.ended.items c.push.new.self.items all (ended_of Open c.args.at (c.in-Some.key.now, c.in-Some.stay.now) ∷ []) (map (ended_of Open c.args.at) c.next.new.self)
    (subst (λ xs. IsToldSoFar c.args.ended.now.items c.loop-key.ended.items all (map (ended_of Open c.args.at) xs)) c.in-Some.ensures.steps c.loop-key.invariant)
    (c.in_ok-push.ensures.items ∙ ap (λ e. c.loop-key.ended.items ++ e ∷ []) c.ended_of.ensures)

pub returns-in_err-push-clause-err : goal.returns-in_err-push-clause-err
returns-in_err-push-clause-err g c =
    let all = map (ended_of Open c.args.at) (finite.entries (map_of g.K.Ord.cmp c.args.self.now)) in
    on_err c.from_residual.result
    (begun_so_far c.args.ended.now.items c.push.new.self.items all (map (ended_of Open c.args.at) c.loop-key.key-iterator)
    (subst (λ xs. IsToldSoFar c.args.ended.now.items xs all (map (ended_of Open c.args.at) c.loop-key.key-iterator)) (sym c.in_err-push.ensures.items) c.loop-key.invariant))

pub returns-clause-ok : goal.returns-clause-ok
returns-clause-ok g c =
    let all = map (ended_of Open c.args.at) (finite.entries (map_of g.K.Ord.cmp c.args.self.now)) in
    all_told c.args.ended.now.items c.loop-key.ended.items all (subst (λ xs. IsToldSoFar c.args.ended.now.items c.loop-key.ended.items all (map (ended_of Open c.args.at) xs)) c.in-None.ensures.steps.0 c.loop-key.invariant)
