use Rattle.std.proofs.Common.{rules, refl, arith}
use Rattle.someip_payload.proofs.Converse.{passed_on}
use Rattle.someip_payload.proofs.Members.{labels}
use Rattle.someip_payload.proofs.OneAfterOther.{none_read, not_one, one_more, all_found, all_only, no_bracket}
use Rattle.someip_payload.proofs.labels.labels_at.Goals as goal

pub loop-items-init : goal.loop-items-init
loop-items-init c = none_read labels c.args.text.now c.args.at 0 c.new-items.result.items c.requires c.new-items.ensures.items

pub loop-items-preserved : goal.loop-items-preserved
loop-items-preserved c =
    one_more labels c.loop-items.invariant c.in_ok-item.item c.in_ok-item.end _ (search rules)
    c.in_ok-item.ensures.end.0 (c.if-has_byte.ensures.there refl) c.in_ok-item.ensures.found (λ l front tail is own deep stops. c.in_ok-item.ensures.only l front tail is own stops) (omega arith)

pub returns-else-has_byte-clause-found : goal.returns-else-has_byte-clause-found
returns-else-has_byte-clause-found c =
    all_found labels c.loop-items.invariant c.in_ok-item.item c.in_ok-item.end _ (search rules) c.in_ok-end.end c.in_ok-item.ensures.end.0 c.in_ok-item.ensures.found c.in_ok-end.ensures.end.0 c.in_ok-end.ensures.found

pub returns-in_err-item-clause-only : goal.returns-in_err-item-clause-only
returns-in_err-item-clause-only c = λ ls inside rest is are.
    not_one labels c.loop-items.invariant _ _ (passed_on _ _ c.from_residual.ensures.1) (λ l front tail there own deep stops. c.in_err-item.ensures.only l front tail there own stops) ls inside rest is are (omega arith)

pub returns-in_err-end-clause-only : goal.returns-in_err-end-clause-only
returns-in_err-end-clause-only c = λ ls inside rest is are.
    no_bracket labels c.loop-items.invariant c.in_ok-item.item c.in_ok-item.end _ refl (λ l front tail there own deep stops. c.in_ok-item.ensures.only l front tail there own stops) c.if-has_byte.ensures.only _ _ c.in_err-end.ensures.only ls inside rest is are (omega arith)

pub returns-else-has_byte-clause-only : goal.returns-else-has_byte-clause-only
returns-else-has_byte-clause-only c = λ ls inside rest is are.
    all_only labels c.loop-items.invariant c.in_ok-item.item c.in_ok-item.end _ (search rules) (λ l front tail there own deep stops. c.in_ok-item.ensures.only l front tail there own stops) c.if-has_byte.ensures.only c.push.new.self c.in_ok-end.end refl c.in_ok-end.ensures.end.0 ls inside rest is are (omega arith)
