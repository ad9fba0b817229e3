use Rattle.std.proofs.Common.{◌≡◌, ◌≤◌, ◌⊎◌, ◌++◌, false, length, true, Ok, sym, ◌∙◌, ap, arith, inl, inr}
use Rattle.recording.specs.Held.{wanted, is_too_long}
use Rattle.recording.specs.View.{given_in}
use Rattle.recording.specs.Records.{section_after}
use Rattle.recording.proofs.FrontLemmas.{same, is_held, long-told, held-meant, few, many, fails-same}
use Rattle.recording.proofs.MemoryLemmas.{one_too_many, one_more, not_memory}
use Rattle.recording.proofs.held.held_part.Goals as goal
use Rattle.recording.proofs.held.held_part.Goals.{else-held-wanted-via-then-held-wanted+else-not-is_whole, else-held-wanted-via-else-held-wanted}

pub returns-then-wanted-gt-HELD_LEN-clause-fault : goal.returns-then-wanted-gt-HELD_LEN-clause-fault
returns-then-wanted-gt-HELD_LEN-clause-fault c = λ rest follows.
    long-told c.args.format c.args.interfaces.now.items c.args.place c.args.held.now rest (omega (arith, c.if-wanted-gt-HELD_LEN.true, c.wanted-wanted.ensures))

pub returns-then-len-ge-INTERFACES-clause-fault : goal.returns-then-len-ge-INTERFACES-clause-fault
returns-then-len-ge-INTERFACES-clause-fault c =
    let told : (c.args.is_whole ≡ true) ⊎ (wanted c.args.format c.args.held.now ≤ length c.args.held.now) = elim c.else-held-wanted.branch [
      | else-held-wanted-via-then-held-wanted+else-not-is_whole w ↦ inl w.if-not-is_whole.false
      | else-held-wanted-via-else-held-wanted w ↦ inr (omega (arith, w.if-held-wanted.false, c.wanted-wanted.ensures))
    ] in
    let short : is_too_long c.args.format c.args.held.now ≡ false = is_held c.args.format c.args.held.now (omega (arith, c.if-wanted-gt-HELD_LEN.false, c.wanted-wanted.ensures)) in
    let e = rw c.in-OutOfMemory.is at c.in-Err.ensures in
    λ rest follows.
    one_too_many c.args.format c.args.interfaces.now.items c.args.place c.args.held.now (c.args.held.now ++ rest)
    (same c.args.is_whole c.args.format c.args.interfaces.now.items c.args.place c.args.held.now rest follows told) short e.memory (omega (arith, c.if-len-ge-INTERFACES.true, c.len-in-OutOfMemory.ensures, ap length e.kept))

pub returns-else-len-ge-INTERFACES-clause-fault : goal.returns-else-len-ge-INTERFACES-clause-fault
returns-else-len-ge-INTERFACES-clause-fault c =
    let told : (c.args.is_whole ≡ true) ⊎ (wanted c.args.format c.args.held.now ≤ length c.args.held.now) = elim c.else-held-wanted.branch [
      | else-held-wanted-via-then-held-wanted+else-not-is_whole w ↦ inl w.if-not-is_whole.false
      | else-held-wanted-via-else-held-wanted w ↦ inr (omega (arith, w.if-held-wanted.false, c.wanted-wanted.ensures))
    ] in
    let short : is_too_long c.args.format c.args.held.now ≡ false = is_held c.args.format c.args.held.now (omega (arith, c.if-wanted-gt-HELD_LEN.false, c.wanted-wanted.ensures)) in
    let e = rw c.in-OutOfMemory.is at c.in-Err.ensures in
    rw c.in-OutOfMemory.is (λ rest follows.
    one_more c.args.format c.args.interfaces.now.items c.args.place c.args.held.now (c.args.held.now ++ rest)
    (same c.args.is_whole c.args.format c.args.interfaces.now.items c.args.place c.args.held.now rest follows told) short e.memory (omega (arith, c.if-len-ge-INTERFACES.false, c.len-in-OutOfMemory.ensures, ap length e.kept)))

pub returns-in_default-clause-fault : goal.returns-in_default-clause-fault
returns-in_default-clause-fault c =
    let told : (c.args.is_whole ≡ true) ⊎ (wanted c.args.format c.args.held.now ≤ length c.args.held.now) = elim c.else-held-wanted.branch [
      | else-held-wanted-via-then-held-wanted+else-not-is_whole w ↦ inl w.if-not-is_whole.false
      | else-held-wanted-via-else-held-wanted w ↦ inr (omega (arith, w.if-held-wanted.false, c.wanted-wanted.ensures))
    ] in
    let short : is_too_long c.args.format c.args.held.now ≡ false = is_held c.args.format c.args.held.now (omega (arith, c.if-wanted-gt-HELD_LEN.false, c.wanted-wanted.ensures)) in
    λ rest follows.
    fails-same c.in-Err.fault c.args.format c.args.interfaces.now.items c.args.place c.args.held.now (c.args.held.now ++ rest)
    (same c.args.is_whole c.args.format c.args.interfaces.now.items c.args.place c.args.held.now rest follows told) short c.in_default.not-OutOfMemory c.in-Err.ensures.err

pub returns-in_default-clause-memory : goal.returns-in_default-clause-memory
returns-in_default-clause-memory c = not_memory c.in-Err.fault _ c.in_default.not-OutOfMemory

pub returns-then-len-gt-INTERFACES-clause-fault : goal.returns-then-len-gt-INTERFACES-clause-fault
returns-then-len-gt-INTERFACES-clause-fault c =
    let told : (c.args.is_whole ≡ true) ⊎ (wanted c.args.format c.args.held.now ≤ length c.args.held.now) = elim c.else-held-wanted.branch [
      | else-held-wanted-via-then-held-wanted+else-not-is_whole w ↦ inl w.if-not-is_whole.false
      | else-held-wanted-via-else-held-wanted w ↦ inr (omega (arith, w.if-held-wanted.false, c.wanted-wanted.ensures))
    ] in
    let short : is_too_long c.args.format c.args.held.now ≡ false = is_held c.args.format c.args.held.now (omega (arith, c.if-wanted-gt-HELD_LEN.false, c.wanted-wanted.ensures)) in
    let e = c.in-Ok.ensures in
    λ rest follows.
    let s = same c.args.is_whole c.args.format c.args.interfaces.now.items c.args.place c.args.held.now rest follows told in
    let after : c.front_part.new.interfaces.items ≡ section_after c.args.format c.args.interfaces.now.items (c.args.held.now ++ rest) =
    e.interfaces ∙ sym (s.interfaces (omega (arith, e.len, e.within.1))) in
    held-meant c.args.format c.args.interfaces.now.items c.args.place (c.args.held.now ++ rest) (Ok (given_in c.args.held.now c.in-Ok.part.packet)) (s.long ∙ short) (s.meaning ∙ e.meaning)
    ∙ many c.args.place _ (given_in c.args.held.now c.in-Ok.part.packet) (omega (arith, c.if-len-gt-INTERFACES.true, c.len.ensures, ap length after))

pub returns-else-len-gt-INTERFACES-clause-told : goal.returns-else-len-gt-INTERFACES-clause-told
returns-else-len-gt-INTERFACES-clause-told c =
    let told : (c.args.is_whole ≡ true) ⊎ (wanted c.args.format c.args.held.now ≤ length c.args.held.now) = elim c.else-held-wanted.branch [
      | else-held-wanted-via-then-held-wanted+else-not-is_whole w ↦ inl w.if-not-is_whole.false
      | else-held-wanted-via-else-held-wanted w ↦ inr (omega (arith, w.if-held-wanted.false, c.wanted-wanted.ensures))
    ] in
    let short : is_too_long c.args.format c.args.held.now ≡ false = is_held c.args.format c.args.held.now (omega (arith, c.if-wanted-gt-HELD_LEN.false, c.wanted-wanted.ensures)) in
    let e = c.in-Ok.ensures in
    λ rest follows.
    let s = same c.args.is_whole c.args.format c.args.interfaces.now.items c.args.place c.args.held.now rest follows told in
    let after : c.front_part.new.interfaces.items ≡ section_after c.args.format c.args.interfaces.now.items (c.args.held.now ++ rest) =
    e.interfaces ∙ sym (s.interfaces (omega (arith, e.len, e.within.1))) in
    record {
      meaning = held-meant c.args.format c.args.interfaces.now.items c.args.place (c.args.held.now ++ rest) (Ok (given_in c.args.held.now c.in-Ok.part.packet)) (s.long ∙ short) (s.meaning ∙ e.meaning)
          ∙ few c.args.place _ (given_in c.args.held.now c.in-Ok.part.packet) (omega (arith, c.if-len-gt-INTERFACES.false, c.len.ensures, ap length after));
      format_is = e.format ∙ sym s.format_is;
      interfaces = after;
      len = e.len ∙ sym s.len;
    }
