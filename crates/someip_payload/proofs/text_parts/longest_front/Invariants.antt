use Rattle.std.proofs.Common.{◌≡◌, ◌≤◌, length, take, map}
use Rattle.someip_payload.specs.Fronts.{longest}
use Rattle.someip_payload.proofs.text_parts.longest_front.Given as goal

abbrev pub invariant-loop-word : goal.invariant-loop-word
invariant-loop-word g l = (l.most ≡ longest (map (λ word. word.0.now) (take l.word-index l.words)) l.text) × (l.most ≤ length l.text)
