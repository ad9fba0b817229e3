use Rattle.someip_texts.proofs.NumberLemmas.{each_positive, only_positive}
use Rattle.someip_texts.proofs.laws.what_positive_numbers_say.Goals as goal

pub returns-clause-spelled : goal.returns-clause-spelled
returns-clause-spelled c = each_positive

pub returns-clause-only : goal.returns-clause-only
returns-clause-only c = only_positive
