use Rattle.std.proofs.Common.{◌≡◌, ◌-◌, ◌++◌, ap, ◌∙◌, take, replicate, length, false, arith}
use Rattle.std.specs.Vec.{vec_len}
use Rattle.recording_packets.specs.fragments.Views.{cells_of}
use Rattle.recording_packets.proofs.about_fragments.CellLemmas.{filled-grown, filled-same, filled-count, on_err_any}
use Rattle.recording_packets.proofs.fragments.cells.grow.Goals as goal

pub returns-in_err-resize-2-clause-err : goal.returns-in_err-resize-2-clause-err
returns-in_err-resize-2-clause-err c =
    let bytes_len : vec_len c.args.bytes.now ≡ length c.args.bytes.now.items = omega arith in
    on_err_any c.from_residual-in_err-resize-2.result
    (ap (λ ks. cells_of ks c.resize.new.self.items) c.in_err-resize-2.ensures.items
    ∙ filled-same c.max.result c.args.known.now.items c.args.bytes.now.items c.resize.new.self.items c.requires.long (omega arith)
    (c.in_ok-resize.ensures.items ∙ ap (λ n. take c.max.result c.args.bytes.now.items ++ replicate (c.max.result - n) 0) bytes_len))

pub returns-clause-count : goal.returns-clause-count
returns-clause-count c =
    let known_len : vec_len c.args.known.now ≡ length c.args.known.now.items = omega arith in
    let filled = c.in_ok-resize-2.ensures.items in
    filled-count c.max-cells.result c.args.known.now.items c.resize-2.new.self.items (omega arith) (rw known_len at filled)

pub returns-clause-ok : goal.returns-clause-ok
returns-clause-ok c =
    let bytes_len : vec_len c.args.bytes.now ≡ length c.args.bytes.now.items = omega arith in
    let known_len : vec_len c.args.known.now ≡ length c.args.known.now.items = omega arith in
    filled-grown c.args.len c.max-cells.result c.max.result c.args.known.now.items c.resize-2.new.self.items c.args.bytes.now.items c.resize.new.self.items c.requires.long (omega arith) (omega arith) (omega arith) (omega arith)
    (c.in_ok-resize-2.ensures.items ∙ ap (λ n. take c.max-cells.result c.args.known.now.items ++ replicate (c.max-cells.result - n) false) known_len)
    (c.in_ok-resize.ensures.items ∙ ap (λ n. take c.max.result c.args.bytes.now.items ++ replicate (c.max.result - n) 0) bytes_len)
