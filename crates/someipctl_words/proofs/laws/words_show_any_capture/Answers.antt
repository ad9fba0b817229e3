use Rattle.someipctl_words.proofs.CommandLineLemmas.{show_capture_requested, show_capture_taken}
use Rattle.someipctl_words.proofs.laws.words_show_any_capture.Goals as goal

pub returns : goal.returns
returns c = record { taken = show_capture_taken; matched = show_capture_requested }
