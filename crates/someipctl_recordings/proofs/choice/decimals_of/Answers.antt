use Rattle.std.proofs.Common.{◌≡◌, sym, ◌∙◌}
use Rattle.std.specs.Str.Parse.{digits_value}
use Rattle.std.proofs.Math.Facts.{Fits-of_lt}
use Rattle.someipctl_recordings.proofs.ChoiceLemmas.{decimals_fit, decimals_read}
use Rattle.someipctl_recordings.proofs.choice.decimals_of.Goals as goal

pub returns-in_err-value : goal.returns-in_err-value
returns-in_err-value c =
    let are = sym (rw c.as_bytes.ensures.value at c.are_decimals.ensures) ∙ c.if-not-are_decimals.false in
    absurd (cc (c.in_err-value.ensures.value ∙ decimals_read c.args.digits.now c.parse.result c.parse.ensures.value.0 are))

pub overflow_mul-result : goal.overflow_mul-result
overflow_mul-result c =
    let are = sym (rw c.as_bytes.ensures.value at c.are_decimals.ensures) ∙ c.if-not-are_decimals.false in
    let same : c.in_ok-value.value ≡ digits_value 10 c.args.digits.now = cc (c.in_ok-value.ensures.value ∙ decimals_read c.args.digits.now c.parse.result c.parse.ensures.value.0 are) in
    Fits-of_lt (rw (same, c.pow.ensures) (decimals_fit c.args.digits.now are))
