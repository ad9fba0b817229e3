use Rattle.std.proofs.Common.{arith, ◌∙◌, ap, None, ◌++◌, ◌∷◌, []}
use Rattle.someip_payload_codec.proofs.tagged.TaggedLoops.{one_none_more, all_none}
use Rattle.someip_payload_codec.proofs.members.empty_slots.Goals as goal

pub loop-preserved : goal.loop-preserved
loop-preserved c = c.in_ok-push.ensures.items ∙ ap (λ x. x ++ None ∷ []) c.loop.invariant ∙ one_none_more c.loop.counter

pub returns : goal.returns
returns c = c.loop.invariant ∙ all_none c.args.members.now c.loop.counter (omega arith)
