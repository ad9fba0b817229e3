use Rattle.someip_tp.proofs.promises.AcceptedLemmas.{begins, accepts, whole_is_payload, run_gives_payload}
use Rattle.someip_tp.proofs.laws.a_part_of_one_message_gives_its_payload.Goals as goal

pub returns : goal.returns
returns c = record { begins = begins; accepts = accepts; whole = whole_is_payload; calls = run_gives_payload }
