use Rattle.std.proofs.Common.{◌≡◌, ◌∙◌, length, take, drop, ap, arith}
use Rattle.std.proofs.lemmas.List.{length-take, length-drop}
use Rattle.recording.proofs.RangeLemmas.{written}
use Rattle.recording.proofs.reader.append_read.Goals as goal

pub returns-in-Ok-clause-appends : goal.returns-in-Ok-clause-appends
returns-in-Ok-clause-appends g c =
    let e = c.in-Ok.ensures in
    let whole = c.read_behind-read.new.bytes in
    let held = c.len-held.result in
    let size : length whole ≡ c.resize.new.self.len = e.len ∙ c.deref_mut.ensures.len in
    let more = take c.in-Ok.len (drop held whole) in (
      more,
      omega (arith, e.bound, length-take c.in-Ok.len (drop held whole), length-drop held whole),
      omega (arith, e.bound, size, c.in_ok-resize.ensures.len),
      c.truncate.ensures.items ∙ written c.args.bytes.now.items _ whole _ held c.in-Ok.len c.resize.new.self.len 65536 (omega (arith, c.len-held.ensures, c.args.bytes.now.ok)) size e.bound
          (e.front ∙ ap (take held) (c.deref_mut.ensures.value ∙ c.in_ok-resize.ensures.items)),
      e.read,
    )
