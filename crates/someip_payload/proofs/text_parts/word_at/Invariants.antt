use Rattle.std.proofs.Common.{◌≡◌, false, take, map}
use Rattle.someip_payload.specs.Fronts.{is_word}
use Rattle.someip_payload.proofs.text_parts.word_at.Given as goal

abbrev pub invariant-loop-word : goal.invariant-loop-word
invariant-loop-word g l = is_word (map (λ word. word.0.now) (take l.word-index l.words)) l.front ≡ false
