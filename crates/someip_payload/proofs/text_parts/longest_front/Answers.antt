use Rattle.std.proofs.Common.{◌≡◌, ℕ, List, max, nat_cmp, ap, sym, arith, ◌∙◌}
use Rattle.std.specs.Ordering.{ord_max}
use Rattle.std.proofs.lemmas.Bool.Decides.{nat_tests}
use Rattle.someip_payload.specs.Fronts.{common}
use Rattle.someip_payload.proofs.Fronts.{longest_more}
use Rattle.someip_payload.proofs.text_parts.longest_front.Goals as goal

-- the greater of two numbers
greater : (r m k : ℕ) → r ≡ ord_max nat_cmp m k → r ≡ max m k
greater r m k is = grind (arith, nat_tests)

pub loop-word-preserved : goal.loop-word-preserved
loop-word-preserved g c =
    let more = longest_more c.args.words.now c.loop-word.word-index c.loop-word-item.result c.args.text.now c.loop-word-test.true c.loop-word-item.is in
    let own : c.common_len.result ≡ common c.loop-word-item.result.0.now c.args.text.now = c.common_len.ensures.same ∙ ap (λ (t : List ℕ). common t c.args.text.now) c.as_bytes.ensures.value in
    let whole : c.max-most.result ≡ max c.loop-word.most c.common_len.result = greater _ _ _ c.max-most.ensures in
    let parts : c.max-most.result ≡ max c.loop-word.most (common c.loop-word-item.result.0.now c.args.text.now) = whole ∙ ap (λ n. max c.loop-word.most n) own in
    (parts ∙ ap (λ n. max n (common c.loop-word-item.result.0.now c.args.text.now)) c.loop-word.invariant.0 ∙ sym more, omega (arith, whole, c.loop-word.invariant.1, c.common_len.ensures.bound))
