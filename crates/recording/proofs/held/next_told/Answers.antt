use Rattle.std.proofs.Common.{◌≤◌, ◌<◌, ◌+◌, ◌++◌, ◌∙◌, length, drop, sym, ap, arith, List, ℕ, Ok, Option}
use Rattle.std.specs.Prelude.{option_map}
use Rattle.std.proofs.lemmas.Result.{err_from_is_err_and}
use Rattle.std.proofs.lemmas.List.{take_rest, drop-append-le, length-drop, length-append}
use Rattle.recording.specs.declared.packet.Packet.{Packet}
use Rattle.recording.specs.View.{given_in, packet_behind, LiesIn}
use Rattle.recording.specs.Records.{items_after}
use Rattle.recording.specs.HeldItems.{held_from}
use Rattle.recording.proofs.HeldLemmas.{held_on, fails_alone}
use Rattle.recording.proofs.MemoryLemmas.{on_memory}
use Rattle.recording.proofs.held.next_told.Goals as goal

pub returns-in_err-part-clause-fault : goal.returns-in_err-part-clause-fault
returns-in_err-part-clause-fault c =
    let p = err_from_is_err_and c.from_residual.result c.from_residual.ensures.1 in
    let held = c.args.held.now in
    let len = c.loop-len.len in
    let lt : len < length held = c.loop-len-test.true in
    rw (p.1, p.2) (λ rest follows.
    fails_alone c.in_err-part.field-0.0 c.loop-len.format c.loop-len.interfaces.items (c.args.place + len) (drop len held ++ rest) _
    (omega (arith, length-append (drop len held) rest, length-drop len held, lt))
    (c.loop-len.invariant.0 rest follows ∙ ap (λ (bytes : List ℕ). held_from c.loop-len.format c.loop-len.interfaces.items (c.args.place + len) bytes) (drop-append-le len held rest (omega (arith, lt))))
    ((rw take_rest at c.in_err-part.ensures.fault) rest follows))

pub returns-in_err-part-clause-memory : goal.returns-in_err-part-clause-memory
returns-in_err-part-clause-memory c =
    let p = err_from_is_err_and c.from_residual.result c.from_residual.ensures.1 in
    let held = c.args.held.now in
    let len = c.loop-len.len in
    let le : len ≤ length held = omega (arith, c.loop-len-test.true) in
    rw (p.1, p.2) (on_memory c.in_err-part.field-0.0 _ _ (rw take_rest at c.in_err-part.ensures.memory) (λ m. record {
      format = c.loop-len.format;
      interfaces = c.loop-len.interfaces.items;
      len = len;
      describes = m.0;
      fewer = m.1;
      same = λ rest follows. c.loop-len.invariant.0 rest follows
          ∙ ap (λ (bytes : List ℕ). held_from c.loop-len.format c.loop-len.interfaces.items (c.args.place + len) bytes) (drop-append-le len held rest le);
    }))

pub returns-in-Some-packet-clause-takes : goal.returns-in-Some-packet-clause-takes
returns-in-Some-packet-clause-takes c = λ rest follows.
    let held = c.args.held.now in
    let len = c.loop-len.len in
    let part = c.in-Some.part in
    let told = rw (take_rest, c.in-Some.is) at c.in_ok-part.ensures.told in
    let lies : LiesIn (drop len held) part.packet = rw (take_rest, c.in-Some.is) at c.in_ok-part.ensures.packet in
    held_on c.loop-len.format c.args.format c.loop-len.interfaces.items c.held_part.new.interfaces.items c.args.interfaces.now.items c.args.place len held rest part
    c.loop-len-test.true (c.loop-len.invariant.0 rest follows) (told rest follows) lies
    ∙ ap (λ (k : Option Packet). items_after (Ok (given_in held k)) (held_from part.format c.held_part.new.interfaces.items (c.args.place + (len + part.len)) (drop (len + part.len) (held ++ rest))))
    (sym c.behind.ensures)

pub loop-len-preserved : goal.loop-len-preserved
loop-len-preserved c =
    let held = c.args.held.now in
    let len = c.loop-len.len in
    let part = c.in-Some.part in
    let told = rw (take_rest, c.in-Some.is) at c.in_ok-part.ensures.told in
    let lies : LiesIn (drop len held) part.packet = rw (take_rest, c.in-Some.is) at c.in_ok-part.ensures.packet in
    let within : part.len ≤ length (drop len held) = (rw (take_rest, c.in-Some.is) at c.in_ok-part.ensures.within).1 in (
      λ rest follows.
          held_on c.loop-len.format c.args.format c.loop-len.interfaces.items c.held_part.new.interfaces.items c.args.interfaces.now.items c.args.place len held rest part
          c.loop-len-test.true (c.loop-len.invariant.0 rest follows) (told rest follows) lies
          ∙ ap (λ (k : Option Packet). items_after (Ok (given_in held (option_map (packet_behind len) k))) (held_from part.format c.held_part.new.interfaces.items (c.args.place + (len + part.len)) (drop (len + part.len) (held ++ rest)))) c.in_default-packet.is,
      omega (arith, within, length-drop len held, c.loop-len-test.true),
    )
