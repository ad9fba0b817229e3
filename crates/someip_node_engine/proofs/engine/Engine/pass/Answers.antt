use Rattle.std.proofs.Common.{◌∙◌, ◌+◌, refl, sym, ap, subst, arith}
use Rattle.std.specs.List.Sorted.{IsStrictlySortedBy}
use Rattle.sd_core.specs.Eventgroups.{eventgroup_cmp}
use Rattle.sd_core.specs.Keys.{instance_cmp}
use Rattle.someip_reassembly.specs.Parts.{parts_at}
use Rattle.someip_reassembly.proofs.MomentLemmas.{later, none_after-parts_at}
use Rattle.sd_core.specs.Endings.{ends_at}
use Rattle.std.specs.FinMap as finite
use Rattle.someip_tables.specs.Lastings.{expired}
use Rattle.sd_core.specs.Sendings.{due_at}
use Rattle.someip_node_rules.specs.histories.Tables.{passed_instances}
use Rattle.sd_core.specs.WishTables.{begun_where, ended_where}
use Rattle.someip_node_rules.specs.histories.Items.{changed, Ticked}
use Rattle.someip_tables.proofs.SortedEntries.{no_keys}
use Rattle.someip_node_engine.proofs.PassingLemmas.{on_err, ticked_is}
use Rattle.someip_node_engine.proofs.RisingLemmas.{keys_rise}
use Rattle.someip_node_engine.proofs.engine.Engine.pass.Goals as goal

pub invariant_of-self-2 : goal.invariant_of-self-2
invariant_of-self-2 g c = (
  c.self.invariant.0,
  c.expire.ensures.limits ∙ c.self.invariant.1,
  rw (c.expire.ensures.parts, c.as_millis.ensures.value) (later c.self.inside.clock c.args.now _ (omega (arith, c.requires, ap (λ t. t.clock) c.self.view_is)) (none_after-parts_at c.self.inside.clock _ _ (g.R.Reassembly.parts c.self.inside.store) c.self.invariant.2)),
  c.self.invariant.3,
  c.self.invariant.4,
  ap (λ offers. offers.versions) c.in_ok-offers.ensures.after ∙ c.self.invariant.5,
  ap (λ seek. seek.wanted) c.in_ok-wanted.ensures.after ∙ c.self.invariant.6,
)

pub invariant_of-result : goal.invariant_of-result
invariant_of-result g c = record {
  gone_rise = subst (IsStrictlySortedBy instance_cmp) (sym c.in_ok-wanted.ensures.ended) (keys_rise _);
  lapsed_rise = subst (IsStrictlySortedBy eventgroup_cmp) (sym c.in_ok-lapsed.ensures.ended) (keys_rise _);
}

pub returns-clause-ticked : goal.returns-clause-ticked
returns-clause-ticked g c =
    ticked_is _ _ c.args.ms c.args.now (c.requires ∙ ap (λ t. t.clock + c.args.ms) (sym c.self.view_is)) refl refl
    (c.expire.ensures.parts ∙ ap (λ n. parts_at (g.R.Reassembly.limits c.self.inside.store) n (g.R.Reassembly.parts c.self.inside.store)) c.as_millis.ensures.value ∙ ap (λ l. parts_at l c.args.now (g.R.Reassembly.parts c.self.inside.store)) c.self.invariant.1) refl refl refl c.in_ok-offers.ensures.after
    c.in_ok-wanted.ensures.after c.tick-5.ensures
    (c.in_ok-lapsed.ensures.after ∙ ap (λ instances. ended_where (ends_at c.args.now instances) c.self.inside.subscriptions) (c.deref.ensures.value ∙ c.in_ok-wanted.ensures.ended)) c.in_ok-calls.ensures.ended refl
    ∙ ap (λ t. changed t (Ticked c.args.ms)) c.self.view_is

pub returns-in_err-wanted-clause-grows : goal.returns-in_err-wanted-clause-grows
returns-in_err-wanted-clause-grows g c =
    on_err c.from_residual.result (λ none. c.in_err-wanted.ensures.grows (
      no_keys _ (ap (λ t. passed_instances c.args.now t) c.self.view_is ∙ none.gone),
      no_keys _ (ap (λ t. finite.keys (due_at c.args.now t.seek.finding)) c.self.view_is ∙ none.finds),
    ))

pub returns-in_err-calls-clause-grows : goal.returns-in_err-calls-clause-grows
returns-in_err-calls-clause-grows g c =
    on_err c.from_residual-in_err-calls.result (λ none. c.in_err-calls.ensures.grows
    (no_keys _ (ap (λ t. finite.keys (expired c.args.now t.client.pending)) c.self.view_is ∙ none.calls)))

pub returns-in_err-lapsed-clause-grows : goal.returns-in_err-lapsed-clause-grows
returns-in_err-lapsed-clause-grows g c =
    on_err c.from_residual-in_err-lapsed.result (λ none. c.in_err-lapsed.ensures.grows
    (ap (λ instances. begun_where (ends_at c.args.now instances) c.self.inside.subscriptions) (c.deref.ensures.value ∙ c.in_ok-wanted.ensures.ended)
    ∙ no_keys _ (ap (λ t. finite.keys (begun_where (ends_at c.args.now (passed_instances c.args.now t)) t.wishes)) c.self.view_is ∙ none.lapsed)))

pub returns-in_err-offers-clause-grows : goal.returns-in_err-offers-clause-grows
returns-in_err-offers-clause-grows g c =
    on_err c.from_residual-in_err-offers.result (λ none. c.in_err-offers.ensures.grows
    (no_keys _ (ap (λ t. finite.keys (due_at c.args.now t.offers.up)) c.self.view_is ∙ none.offers)))
