use Rattle.std.proofs.Common.{rules, ◌≡◌, ◌<◌, ◌++◌, ◌∷◌, [], length, Some, None, arith}
use Rattle.std.proofs.lemmas.Result.{err_from_is_err_and}
use Rattle.someip_payload.specs.ReadValues.{after, byte_in}
use Rattle.someip_payload.proofs.ValueTokens.{bytes_go_on, bytes_end, bytes_fail}
use Rattle.someip_payload.proofs.ValueLoops.{fails_also}
use Rattle.someip_payload.proofs.value_strings.unquoted.Goals as goal

pub returns-in-Some : goal.returns-in-Some
returns-in-Some c =
    let lt : c.loop.counter < length c.args.text.now = omega arith in
    let quote : after 34 c.loop.left.now ≡ Some c.in-Some.rest.now = search rules in
    bytes_end c.loop.bytes.items (length c.args.text.now) c.loop.counter c.loop.left.now _ lt c.loop.invariant c.in-Some.rest.now quote

pub returns-in_err-byte : goal.returns-in_err-byte
returns-in_err-byte c =
    let lt : c.loop.counter < length c.args.text.now = omega arith in
    let none : after 34 c.loop.left.now ≡ None = search rules in
    let p = err_from_is_err_and c.from_residual.result c.from_residual.ensures.1 in
    rw (p.1, p.2) (fails_also c.in_err-byte.field-0.0 (byte_in c.loop.left.now) _ (λ bad. bytes_fail c.loop.bytes.items (length c.args.text.now) c.loop.counter c.loop.left.now _ lt c.loop.invariant none bad) c.in_err-byte.ensures)

pub loop-preserved : goal.loop-preserved
loop-preserved c =
    let lt : c.loop.counter < length c.args.text.now = omega arith in
    let none : after 34 c.loop.left.now ≡ None = search rules in
    let e : c.push.new.self.items ≡ c.loop.bytes.items ++ c.in_ok-byte.byte ∷ [] = c.in_ok-push.ensures.items in
    rw e (bytes_go_on c.loop.bytes.items (length c.args.text.now) c.loop.counter c.loop.left.now _ lt c.loop.invariant c.in_ok-byte.byte c.in_ok-byte.rest.now none c.in_ok-byte.ensures)
