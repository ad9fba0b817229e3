use Rattle.someip_texts.proofs.TextLemmas.{decoded}
use Rattle.someip_texts.proofs.utf8.text_of.Goals as goal

pub returns : goal.returns
returns c =
    rw c.ok.ensures.value
    (decoded c.args.bytes.now c.from_utf8.result c.from_utf8.ensures.cases (λ e h. h.0))
