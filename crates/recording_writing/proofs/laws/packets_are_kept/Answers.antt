use Rattle.std.proofs.Common.{refl}
use Rattle.recording_writing.proofs.BlockLemmas.{exact}
use Rattle.recording_writing.proofs.laws.packets_are_kept.Goals as goal

pub returns-clause-link : goal.returns-clause-link
returns-clause-link c = λ number k. refl

pub returns-clause-original : goal.returns-clause-original
returns-clause-original c = λ number k. refl

pub returns-clause-bytes : goal.returns-clause-bytes
returns-clause-bytes c = λ number k. refl

pub returns-clause-exact : goal.returns-clause-exact
returns-clause-exact c = exact
