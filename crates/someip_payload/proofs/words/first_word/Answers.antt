use Rattle.std.proofs.Common.{refl}
use Rattle.someip_payload.specs.Words.{word_text}
use Rattle.someip_payload.proofs.Beginnings.{behind_its_word}
use Rattle.someip_payload.proofs.WordTable.{first_word_only}
use Rattle.someip_payload.proofs.words.first_word.Goals as goal

pub returns-clause-found : goal.returns-clause-found
returns-clause-found c = c.word_at.ensures.found word_text (refl, (refl, (refl, (refl, (refl, (refl, (refl, (refl, (refl, (refl, (refl, (refl, (refl, (refl, (refl, (refl, (refl, (refl, (refl, (refl, (refl, (refl, (refl, (refl, (refl, (refl, (refl, (refl, tt))))))))))))))))))))))))))))

pub returns-clause-only : goal.returns-clause-only
returns-clause-only c = λ w rest is ends.
    first_word_only c.word_at.result c.args.text.now c.args.at w rest is ends (returns-clause-found c) c.word_at.ensures.longest c.word_at.ensures.end c.word_at.ensures.none

pub returns-clause-end : goal.returns-clause-end
returns-clause-end c = behind_its_word _ _ _ _ c.word_at.ensures.end (returns-clause-found c)
