use Rattle.std.proofs.Common.{◌≡◌, ◌<◌, ◌∙◌, length, sym, ap, get_or, arith}
use Rattle.someipctl_extract.specs.Kept.{PartValue, place_of}
use Rattle.someipctl_extract.proofs.KeptLemmas.{at_place, nowhere}
use Rattle.someipctl_extract.proofs.kept.Kept.packets.Goals as goal

pub returns-then-place-len : goal.returns-then-place-len
returns-then-place-len c =
    let kept = c.args.self.now in
    let place : c.place_of-place.result ≡ place_of c.args.key.now kept = cc (c.place_of-place.ensures.value, c.deref.ensures.value, c.self.view_is) in
    let len : c.len.result ≡ length kept = cc (c.len.ensures, c.self.view_is) in
    sym (nowhere c.args.key.now kept (omega (arith, place, len, c.if-place-len.true))).under

pub returns : goal.returns
returns c =
    let kept = c.args.self.now in
    let place : c.place_of-place.result ≡ place_of c.args.key.now kept = cc (c.place_of-place.ensures.value, c.deref.ensures.value, c.self.view_is) in
    let len : c.len.result ≡ length kept = cc (c.len.ensures, c.self.view_is) in
    let most : c.place_of-place.result < length kept = omega (arith, len, c.place_of-place.ensures.most, c.if-place-len.false, ap (λ (l : _). length l) c.deref.ensures.value, ap (λ (l : _). length l) c.self.view_is) in
    let within : place_of c.args.key.now kept < length kept = omega (arith, place, most) in
    let found : c.index.result.now ≡ get_or kept (place_of c.args.key.now kept) c.index.result.now = cc (c.index.ensures, place, c.self.view_is) in
    c.packets.ensures ∙ ap (λ (p : PartValue). p.packets) found ∙ sym ((at_place c.args.key.now kept within).under c.index.result.now)
