use Rattle.std.proofs.Common.{rules, ◌≡◌, ◌<◌, ◌^◌, inl, inr, ap, sym, ◌∙◌}
use Rattle.std.specs.Fmt.{decimal}
use Rattle.someip_payload.specs.ReadValues.{number_of}
use Rattle.someip_payload.proofs.ValueTokens.{number_or, parsed, number_of_decimal}
use Rattle.someip_payload.proofs.value_tokens.number_of.Goals as goal

pub returns-in_err-number : goal.returns-in_err-number
returns-in_err-number c = elim (number_or c.args.token.now) [
  | inl none ↦ let is = none in search rules
  | inr s ↦ let is = parsed c.args.token.now c.parse_u64.result c.parse_u64.ensures s.0 s.2 s.3 in absurd (search rules)
]

pub returns-then-ne : goal.returns-then-ne
returns-then-ne c = elim (number_or c.args.token.now) [
  | inl none ↦ sym none
  | inr s ↦ let is = parsed c.args.token.now c.parse_u64.result c.parse_u64.ensures s.0 s.2 s.3 in absurd (search rules)
]

pub returns : goal.returns
returns c =
    let small : c.in_ok-number.number < 2 ^ 64 = search rules in
    let same : c.args.token.now ≡ decimal c.in_ok-number.number = search rules in
    sym (ap number_of same ∙ number_of_decimal c.in_ok-number.number small)
