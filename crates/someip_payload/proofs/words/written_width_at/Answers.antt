use Rattle.std.proofs.Common.{Some, refl}
use Rattle.someip_payload.specs.ShapeText.{width_text}
use Rattle.someip_payload.proofs.WordTable.{written_width_only}
use Rattle.someip_payload.proofs.words.written_width_at.Goals as goal

pub returns-clause-found : goal.returns-clause-found
returns-clause-found c = c.word_at.ensures.found (λ w. width_text (Some w)) (refl, (refl, (refl, tt)))

pub returns-clause-only : goal.returns-clause-only
returns-clause-only c = λ w rest is.
    written_width_only c.word_at.result c.args.text.now c.args.at w rest is (returns-clause-found c) c.word_at.ensures.longest c.word_at.ensures.end c.word_at.ensures.none
