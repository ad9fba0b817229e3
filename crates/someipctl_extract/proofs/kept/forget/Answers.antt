use Rattle.std.proofs.Common.{◌≡◌, ◌<◌, ◌≤◌, ◌∙◌, length, sym, ap, arith}
use Rattle.std.specs.List.{remove}
use Rattle.someipctl_extract.specs.Kept.{place_of}
use Rattle.someipctl_extract.proofs.KeptLemmas.{at_place, nowhere}
use Rattle.someipctl_extract.proofs.kept.forget.Goals as goal

pub returns-then-place-len : goal.returns-then-place-len
returns-then-place-len c =
    let kept = c.args.parts.now.items in
    let place : c.place_of-place.result ≡ place_of c.args.key.now kept = cc (c.place_of-place.ensures.value, c.deref.ensures.value) in
    let within : place_of c.args.key.now kept < length kept = omega (arith, place, c.len.ensures, c.if-place-len.true) in
    c.remove.ensures.items ∙ ap (remove kept) place ∙ sym (at_place c.args.key.now kept within).gone

pub returns-else-place-len : goal.returns-else-place-len
returns-else-place-len c =
    let kept = c.args.parts.now.items in
    let place : c.place_of-place.result ≡ place_of c.args.key.now kept = cc (c.place_of-place.ensures.value, c.deref.ensures.value) in
    let past : length kept ≤ place_of c.args.key.now kept = omega (arith, place, c.len.ensures, c.if-place-len.false) in
    sym (nowhere c.args.key.now kept past).gone
