use Rattle.someip_tp.proofs.promises.WholeLemmas.{whole_from_message, message_from_whole}
use Rattle.someip_tp.proofs.laws.a_message_is_the_bytes_of_a_whole_part.Goals as goal

pub returns : goal.returns
returns c = λ part message. (whole_from_message part message, message_from_whole part message)
