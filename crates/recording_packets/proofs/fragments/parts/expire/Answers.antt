use Rattle.std.proofs.Common.{◌≡◌, ap, ◌∙◌, filter, arith, rules}
use Rattle.std.proofs.lemmas.Fn.{filter_same}
use Rattle.recording_packets.specs.fragments.Parts.{fragments_of, is_fresh}
use Rattle.recording_packets.proofs.about_fragments.PartLemmas.{fresh-and-gone}
use Rattle.recording_packets.proofs.fragments.parts.expire.Goals as goal

pub returns-clause-left : goal.returns-clause-left
returns-clause-left c = filter_same _ _ _ (λ x b f' k. search rules) _ _ c.retain.ensures.filtered

pub count-requires : goal.count-requires
count-requires c =
    let left : c.retain.new.self.items ≡ filter (is_fresh c.args.now) c.args.parts.now.items = filter_same _ _ _ (λ x b f' k. search rules) _ _ c.retain.ensures.filtered in
    let count : fragments_of c.deref-2.result.now ≡ fragments_of (filter (is_fresh c.args.now) c.args.parts.now.items) = ap fragments_of (c.deref-2.ensures.value ∙ left) in
    omega (arith, count, fresh-and-gone c.args.now c.args.parts.now.items, c.requires)

pub overflow_sub-result : goal.overflow_sub-result
overflow_sub-result c =
    let left : c.retain.new.self.items ≡ filter (is_fresh c.args.now) c.args.parts.now.items = filter_same _ _ _ (λ x b f' k. search rules) _ _ c.retain.ensures.filtered in
    let after : c.count.result ≡ fragments_of (filter (is_fresh c.args.now) c.args.parts.now.items) = c.count.ensures ∙ ap fragments_of (c.deref-2.ensures.value ∙ left) in
    let before : c.count-before.result ≡ fragments_of c.args.parts.now.items = c.count-before.ensures ∙ ap fragments_of c.deref.ensures.value in
    omega (arith, after, before, fresh-and-gone c.args.now c.args.parts.now.items)

pub returns-clause-count : goal.returns-clause-count
returns-clause-count c =
    let left : c.retain.new.self.items ≡ filter (is_fresh c.args.now) c.args.parts.now.items = filter_same _ _ _ (λ x b f' k. search rules) _ _ c.retain.ensures.filtered in
    let after : c.count.result ≡ fragments_of (filter (is_fresh c.args.now) c.args.parts.now.items) = c.count.ensures ∙ ap fragments_of (c.deref-2.ensures.value ∙ left) in
    let before : c.count-before.result ≡ fragments_of c.args.parts.now.items = c.count-before.ensures ∙ ap fragments_of c.deref.ensures.value in
    omega (arith, after, before, fresh-and-gone c.args.now c.args.parts.now.items)
