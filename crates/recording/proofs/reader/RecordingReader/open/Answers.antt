use Rattle.std.proofs.Common.{arith, ◌≡◌, ◌∙◌, ◌≤◌, ◌⊎◌, ◌+◌, ◌++◌, ℕ, true, List, refl, sym, length, drop, Some, inl, inr}
use Rattle.std.proofs.lemmas.List.{take_rest, drop-drop}
use Rattle.recording.specs.Records.{format_of}
use Rattle.recording.specs.HeldItems.{held_from}
use Rattle.recording.specs.Readers.{items_by, CanFollow}
use Rattle.recording.specs.declared.stage.Stage.TheVariants.{Head, Inside}
use Rattle.std.specs.Prelude.{option_map}
use Rattle.recording.specs.View.{record_at}
use Rattle.recording.specs.contracts.reader.RecordingReader.{the_view}
use Rattle.recording.proofs.FrontLemmas.{start-same}
use Rattle.recording.proofs.MemoryLemmas.{on_memory, lacks-behind}
use Rattle.recording.proofs.ReaderLemmas.{if_ok, if_err, moved, last-moved, opened}
use Rattle.recording.proofs.reader.RecordingReader.open.Goals as goal
use Rattle.recording.proofs.reader.RecordingReader.open.Goals.{else-held-lt-HEADER_LEN-via-then-held-lt-HEADER_LEN+else-not-self, else-held-lt-HEADER_LEN-via-else-held-lt-HEADER_LEN}

pub returns-clause-next : goal.returns-clause-next
returns-clause-next c =
    let bytes = c.self.inside.bytes.items in
    let start = c.self.inside.start in
    let f = c.in_ok-format in
    let told : (c.self.inside.is_whole ≡ true) ⊎ (24 ≤ length (drop start bytes)) = elim c.else-held-lt-HEADER_LEN.branch [
      | else-held-lt-HEADER_LEN-via-then-held-lt-HEADER_LEN+else-not-self w ↦ inl w.if-not-self.false
      | else-held-lt-HEADER_LEN-via-else-held-lt-HEADER_LEN w ↦ inr ((rw (c.deref.ensures.value, take_rest) at w.if-held-lt-HEADER_LEN.false))
    ] in
    let is : format_of (drop start bytes) ≡ Some (f.format, f.len) = rw (c.deref.ensures.value, take_rest) at f.ensures.start in
    let within : f.len ≤ length (drop start bytes) = rw (c.deref.ensures.value, take_rest) at f.ensures.within in
    let at_head : c.self.inside.stage ≡ Head = rw (← c.self.view_is) at c.requires.head in
    let same : (rest : List ℕ) → CanFollow c.self.inside.is_whole rest
    → items_by c.self.inside.stage c.self.inside.interfaces.items c.self.inside.place (drop start bytes ++ rest) ≡ held_from f.format c.self.inside.interfaces.items (c.self.inside.place + f.len) (drop (start + f.len) bytes ++ rest) =
    λ rest follows. rw at_head (opened f.format c.self.inside.interfaces.items c.self.inside.place f.len bytes start rest within (start-same c.self.inside.is_whole (drop start bytes) rest follows told ∙ is)) in
    if_ok c.take.result _ _ (λ next holds. rw (← c.self.view_is) (moved (the_view c.self.inside)
    record { stage = Inside f.format; interfaces = c.self.inside.interfaces.items; place = c.self.inside.place + f.len; held = drop (start + f.len) bytes; taken = start + f.len; is_whole = c.self.inside.is_whole; current = option_map (record_at bytes) c.self.inside.packet }
    c.take.new.self next refl (omega arith) same holds)) c.take.ensures.next

pub returns-clause-fault : goal.returns-clause-fault
returns-clause-fault c =
    let bytes = c.self.inside.bytes.items in
    let start = c.self.inside.start in
    let f = c.in_ok-format in
    let told : (c.self.inside.is_whole ≡ true) ⊎ (24 ≤ length (drop start bytes)) = elim c.else-held-lt-HEADER_LEN.branch [
      | else-held-lt-HEADER_LEN-via-then-held-lt-HEADER_LEN+else-not-self w ↦ inl w.if-not-self.false
      | else-held-lt-HEADER_LEN-via-else-held-lt-HEADER_LEN w ↦ inr ((rw (c.deref.ensures.value, take_rest) at w.if-held-lt-HEADER_LEN.false))
    ] in
    let is : format_of (drop start bytes) ≡ Some (f.format, f.len) = rw (c.deref.ensures.value, take_rest) at f.ensures.start in
    let within : f.len ≤ length (drop start bytes) = rw (c.deref.ensures.value, take_rest) at f.ensures.within in
    let at_head : c.self.inside.stage ≡ Head = rw (← c.self.view_is) at c.requires.head in
    let same : (rest : List ℕ) → CanFollow c.self.inside.is_whole rest
    → items_by c.self.inside.stage c.self.inside.interfaces.items c.self.inside.place (drop start bytes ++ rest) ≡ held_from f.format c.self.inside.interfaces.items (c.self.inside.place + f.len) (drop (start + f.len) bytes ++ rest) =
    λ rest follows. rw at_head (opened f.format c.self.inside.interfaces.items c.self.inside.place f.len bytes start rest within (start-same c.self.inside.is_whole (drop start bytes) rest follows told ∙ is)) in
    if_err c.take.result _ _ (λ e holds. λ rest follows.
    let here : CanFollow c.self.inside.is_whole rest = rw (← c.self.view_is) at follows in
    rw (← c.self.view_is) (last-moved e _ _ (same rest here) (holds rest here))) c.take.ensures.fault

pub returns-clause-memory : goal.returns-clause-memory
returns-clause-memory c =
    let bytes = c.self.inside.bytes.items in
    let start = c.self.inside.start in
    let f = c.in_ok-format in
    let told : (c.self.inside.is_whole ≡ true) ⊎ (24 ≤ length (drop start bytes)) = elim c.else-held-lt-HEADER_LEN.branch [
      | else-held-lt-HEADER_LEN-via-then-held-lt-HEADER_LEN+else-not-self w ↦ inl w.if-not-self.false
      | else-held-lt-HEADER_LEN-via-else-held-lt-HEADER_LEN w ↦ inr ((rw (c.deref.ensures.value, take_rest) at w.if-held-lt-HEADER_LEN.false))
    ] in
    let is : format_of (drop start bytes) ≡ Some (f.format, f.len) = rw (c.deref.ensures.value, take_rest) at f.ensures.start in
    let within : f.len ≤ length (drop start bytes) = rw (c.deref.ensures.value, take_rest) at f.ensures.within in
    let at_head : c.self.inside.stage ≡ Head = rw (← c.self.view_is) at c.requires.head in
    let same : (rest : List ℕ) → CanFollow c.self.inside.is_whole rest
    → items_by c.self.inside.stage c.self.inside.interfaces.items c.self.inside.place (drop start bytes ++ rest) ≡ held_from f.format c.self.inside.interfaces.items (c.self.inside.place + f.len) (drop (start + f.len) bytes ++ rest) =
    λ rest follows. rw at_head (opened f.format c.self.inside.interfaces.items c.self.inside.place f.len bytes start rest within (start-same c.self.inside.is_whole (drop start bytes) rest follows told ∙ is)) in
    if_err c.take.result _ _ (λ e holds. on_memory e _ _ holds (λ m. rw (← c.self.view_is)
    (lacks-behind c.self.inside.is_whole c.self.inside.place f.len (drop start bytes) (drop (start + f.len) bytes) _ _ (sym (drop-drop f.len start bytes)) same m))) c.take.ensures.memory
