use Rattle.std.proofs.Common.{◌==◌, not, rules, tests}
use Rattle.std.proofs.lemmas.Fn.{filter_same}
use Rattle.someipctl_show.proofs.capture.copy_digits.Goals as goal

pub returns : goal.returns
returns c =
    let kept = filter_same _ (λ b. not (b == 0x20)) _ (λ x b q k. search (rules, tests)) _ _ c.retain.ensures.filtered in
    rw (c.in_ok-extend_from_slice.ensures.items, c.clear.ensures.items) at kept
