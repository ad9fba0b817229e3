use Rattle.std.proofs.Common.{◌≡◌, ap, refl, rules, sym, ◌∙◌}
use Rattle.someip_wire.specs.Reading.{items_of}
use Rattle.audit_endpoints.specs.Learning.{learnt_of_items}
use Rattle.audit_endpoints.proofs.LearnerLemmas.{items_of_others}
use Rattle.audit_endpoints.proofs.learner.Learner.saw.Goals as goal

pub returns-then-not-is_at_discovery-clause-learnt : goal.returns-then-not-is_at_discovery-clause-learnt
returns-then-not-is_at_discovery-clause-learnt c =
    sym (items_of_others c.args.origin.now (items_of c.args.datagram.now) c.args.self.now (sym c.is_at_discovery.ensures ∙ c.if-not-is_at_discovery.true))

pub loop-item-init : goal.loop-item-init
loop-item-init c = refl

pub loop-item-preserved : goal.loop-item-preserved
loop-item-preserved c =
    ap (learnt_of_items c.args.origin.now c.next.new.self) c.in_ok-learn_item.ensures
    ∙ sym (ap (λ is. learnt_of_items c.args.origin.now is c.loop-item.self-inside.watched) c.in-Some.ensures.steps)
    ∙ c.loop-item.invariant

pub returns-clause-learnt : goal.returns-clause-learnt
returns-clause-learnt c =
    let all : c.into_iter-item-iterator.result ≡ items_of c.args.datagram.now = search rules in
    let left = c.loop-item.self-inside.watched in
    sym (ap (λ is. learnt_of_items c.args.origin.now is left) c.in-None.ensures.steps.0)
    ∙ c.loop-item.invariant ∙ ap (λ is. learnt_of_items c.args.origin.now is c.self.inside.watched) all
    ∙ ap (learnt_of_items c.args.origin.now (items_of c.args.datagram.now)) c.self.view_is
