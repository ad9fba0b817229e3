use Rattle.std.proofs.Common.{◌≡◌, ◌++◌, ◌∷◌, [], ap, sym, subst, ◌∙◌}
use Rattle.std.specs.List.Sorted.{IsStrictlySortedBy}
use Rattle.std.proofs.lemmas.List.{append-nil, append_assoc}
use Rattle.audit_services.proofs.table.listed.Goals as goal

pub loop-key-init : goal.loop-key-init
loop-key-init g c = ap (λ ks. ks ++ c.into_iter-key-iterator.result) c.new-list.ensures.items ∙ c.into_iter-key-iterator.ensures.into_iter_gives ∙ c.iter-key-items.ensures.rest

pub loop-key-preserved : goal.loop-key-preserved
loop-key-preserved g c =
    ap (λ ks. ks ++ c.next.new.self) c.in_ok-push.ensures.items ∙ append_assoc c.loop-key.list.items (c.in-Some.key.now ∷ []) c.next.new.self
    ∙ ap (λ ks. c.loop-key.list.items ++ ks) (sym c.in-Some.ensures.steps) ∙ c.loop-key.invariant

pub returns-clause-keys : goal.returns-clause-keys
returns-clause-keys g c = sym (append-nil c.loop-key.list.items) ∙ ap (λ ks. c.loop-key.list.items ++ ks) (sym c.in-None.ensures.steps.0) ∙ c.loop-key.invariant

pub returns-clause-rises : goal.returns-clause-rises
returns-clause-rises g c = subst (IsStrictlySortedBy g.K.Ord.cmp) (sym (returns-clause-keys g c)) c.iter-key-items.ensures.ordered
