use Rattle.std.proofs.Common.{◌≡◌, ◌==◌, ◌++◌, take, drop, sym, ap, ◌∙◌, false, length, arith}
use Rattle.recording_packets.specs.fragments.Cells.{with_bytes, grown}
use Rattle.recording_packets.specs.fragments.Views.{cells_of}
use Rattle.recording_packets.proofs.about_fragments.CellLemmas.{with_bytes-grown, written_back}
use Rattle.recording_packets.proofs.fragments.partial.take_bytes.Goals as goal

pub returns-clause-ok : goal.returns-clause-ok
returns-clause-ok c =
    let some : (length c.args.piece.bytes.now == 0) ≡ false = sym c.is_empty.ensures ∙ c.if-is_empty.false in
    let known : take c.grow.new.known.len (c.put.new.known ++ drop (length c.put.new.known) c.grow.new.known.items) ≡ c.put.new.known = written_back c.grow.new.known.len c.put.new.known c.grow.new.known.items (c.put.ensures.known_len ∙ ap length c.deref_mut.ensures.value) (omega arith) in
    let bytes : take c.grow.new.bytes.len (c.put.new.bytes ++ drop (length c.put.new.bytes) c.grow.new.bytes.items) ≡ c.put.new.bytes = written_back c.grow.new.bytes.len c.put.new.bytes c.grow.new.bytes.items (c.put.ensures.bytes_len ∙ ap length c.deref_mut-2.ensures.value) (omega arith) in
    rw (some, known, bytes)
    (c.put.ensures.cells
    ∙ (ap (λ ks. with_bytes c.args.piece.offset c.args.piece.bytes.now (cells_of ks c.deref_mut-2.result.now)) c.deref_mut.ensures.value
    ∙ (ap (λ bs. with_bytes c.args.piece.offset c.args.piece.bytes.now (cells_of c.grow.new.known.items bs)) c.deref_mut-2.ensures.value
    ∙ (ap (with_bytes c.args.piece.offset c.args.piece.bytes.now) (c.in_ok-grow.ensures.ok ∙ ap (λ n. grown n (cells_of c.args.known.now.items c.args.bytes.now.items)) c.end.ensures)
    ∙ with_bytes-grown c.args.piece.offset c.args.piece.bytes.now (cells_of c.args.known.now.items c.args.bytes.now.items)))))
