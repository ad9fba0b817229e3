use Rattle.std.proofs.Common.{sym, ◌∙◌}
use Rattle.someip_texts.proofs.NumberLemmas.{parsed}
use Rattle.someip_texts.proofs.number.plain_u16.Goals as goal

pub returns-then-is_plain : goal.returns-then-is_plain
returns-then-is_plain c =
    let plain = rw c.as_bytes.ensures.value at (sym c.is_plain.ensures ∙ c.if-is_plain.true) in
    c.ok.ensures.value ∙ parsed 16 c.args.word.now c.parse.result c.parse.ensures.value.0 plain
