use Rattle.someip_texts.proofs.NumberLemmas.{each_decimal, only_decimal}
use Rattle.someip_texts.proofs.laws.what_numbers_say.Goals as goal

pub returns-clause-spelled : goal.returns-clause-spelled
returns-clause-spelled c = each_decimal

pub returns-clause-only : goal.returns-clause-only
returns-clause-only c = only_decimal
