use Rattle.std.proofs.Common.{◌<◌, ◌≤◌, length, sym, ◌∙◌, arith}
use Rattle.someip_payload.proofs.ValueTokens.{token_more, past_token_more, token_ends, past_token_ends, token_all, past_token_all}
use Rattle.someip_payload.proofs.value_tokens.token_len.Goals as goal

pub loop-len-preserved : goal.loop-len-preserved
loop-len-preserved c =
    let held = c.loop-len.invariant in
    let lt : c.loop-len.len < length c.args.text.now = c.loop-len-test.true in
    (omega (arith, lt), token_more _ _ lt (sym c.if-is_plain.ensures) ∙ held.1, past_token_more _ _ lt (sym c.if-is_plain.ensures) ∙ held.2)

pub returns-else-is_plain : goal.returns-else-is_plain
returns-else-is_plain c =
    let held = c.loop-len.invariant in
    let lt : c.loop-len.len < length c.args.text.now = c.loop-len-test.true in
    (held.0, sym (token_ends _ _ lt (sym c.if-is_plain.ensures)) ∙ held.1, sym (past_token_ends _ _ lt (sym c.if-is_plain.ensures)) ∙ held.2)

pub returns-after-loop-len : goal.returns-after-loop-len
returns-after-loop-len c =
    let held = c.loop-len.invariant in
    let le : length c.args.text.now ≤ c.loop-len.len = c.loop-len-test.false in
    (held.0, sym (token_all _ _ le) ∙ held.1, sym (past_token_all _ _ le) ∙ held.2)
