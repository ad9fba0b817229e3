use Rattle.someipctl_words.proofs.CommandLineLemmas.{taken_matches}
use Rattle.someipctl_words.proofs.laws.words_without_fault_match.Goals as goal

pub returns : goal.returns
returns c = taken_matches
