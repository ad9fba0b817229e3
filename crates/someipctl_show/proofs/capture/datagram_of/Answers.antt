use Rattle.std.proofs.Common.{◌≡◌, Some, sym, rules}
use Rattle.std.specs.Result.{result_ok}
use Rattle.hex.specs.Hex.{decode_of}
use Rattle.someipctl_show.proofs.CaptureLemmas.{bytes_of-decoded}
use Rattle.someipctl_show.proofs.capture.datagram_of.Goals as goal

pub returns-in-Some : goal.returns-in-Some
returns-in-Some c =
    let read : Some c.in-Some.bytes.items ≡ result_ok (decode_of c.args.line.now) = search rules in
    sym (bytes_of-decoded _ _ (sym read))
