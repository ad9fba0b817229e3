use Rattle.someip_payload_values.proofs.FloatsSaid.{says_one}
use Rattle.someip_payload_values.proofs.laws.a_text_says_one_float.Goals as goal

pub returns : goal.returns
returns c = says_one
