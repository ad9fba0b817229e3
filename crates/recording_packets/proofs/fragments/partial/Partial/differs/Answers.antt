use Rattle.std.proofs.Common.{◌≡◌, drop, Bool, sym, ap, ◌∙◌, ◌||◌, ◌&&◌, nat_lt, length, true, false, refl, arith}
use Rattle.std.proofs.lemmas.Bool.Decides.{nat_tests}
use Rattle.recording_packets.specs.fragments.Parts.{is_past, is_before}
use Rattle.recording_packets.specs.fragments.Cells.{has_another}
use Rattle.recording_packets.specs.fragments.Views.{cells_of}
use Rattle.recording_packets.proofs.about_fragments.CellLemmas.{length-cells_of}
use Rattle.recording_packets.proofs.fragments.partial.Partial.differs.Goals as goal
use Rattle.recording_packets.proofs.fragments.partial.Partial.differs.Goals.{then-differ_at, else-differ_at}

-- where no byte differs and the end is not passed, the rest of the test decides
rest_decides : (v a p l s r : Bool) → v ≡ (a || p) → v ≡ false → l ≡ true → r ≡ s → r ≡ (a || (p || (l && s)))
rest_decides v false false true s r is none last same = same
rest_decides v false false false s r is none last same = cc
rest_decides v false true l s r is none last same = cc
rest_decides v true p l s r is none last same = cc

pub returns-then-end-len : goal.returns-then-end-len
returns-then-end-len c =
    let p = c.self.inside in
    let another : c.differ_at.result ≡ has_another c.args.piece.bytes.now (drop c.args.piece.offset (cells_of p.known.items p.bytes.items)) =
    c.differ_at.ensures
    ∙ (ap (λ ks. has_another c.args.piece.bytes.now (drop c.args.piece.offset (cells_of ks c.deref-2.result.now))) c.deref.ensures.value
    ∙ ap (λ bs. has_another c.args.piece.bytes.now (drop c.args.piece.offset (cells_of p.known.items bs))) c.deref-2.ensures.value) in
    let len : length (cells_of p.known.items p.bytes.items) ≡ c.len.result = length-cells_of p.known.items p.bytes.items c.self.invariant.long ∙ omega arith in
    let past : c.if-differ_at.value ≡ (c.differ_at.result || is_past p.end c.end-end.result) =
    elim c.if-differ_at.branch [
      | then-differ_at w ↦ w.value-is ∙ (w.if-differ_at.true ∙ sym (ap (λ (a : Bool). a || is_past p.end c.end-end.result) w.if-differ_at.true))
      | else-differ_at w ↦ w.value-is ∙ (w.is_past.ensures ∙ sym (ap (λ (a : Bool). a || is_past p.end c.end-end.result) w.if-differ_at.false))
    ] in
    let short : nat_lt c.end-end.result c.len.result ≡ true = grind (arith, nat_tests, c.if-end-len.true) in
    let same : nat_lt c.end-end.result c.len.result ≡ (nat_lt c.end-end.result c.len.result || is_before p.end c.end-end.result) = rw short refl in
    rw (← c.self.view_is, len, ← another, ← c.end-end.ensures)
    (rest_decides c.if-differ_at.value c.differ_at.result (is_past p.end c.end-end.result) c.args.piece.last (nat_lt c.end-end.result c.len.result || is_before p.end c.end-end.result) _ past c.if-is_past.false c.if-piece.true same)

pub returns-else-end-len : goal.returns-else-end-len
returns-else-end-len c =
    let p = c.self.inside in
    let another : c.differ_at.result ≡ has_another c.args.piece.bytes.now (drop c.args.piece.offset (cells_of p.known.items p.bytes.items)) =
    c.differ_at.ensures
    ∙ (ap (λ ks. has_another c.args.piece.bytes.now (drop c.args.piece.offset (cells_of ks c.deref-2.result.now))) c.deref.ensures.value
    ∙ ap (λ bs. has_another c.args.piece.bytes.now (drop c.args.piece.offset (cells_of p.known.items bs))) c.deref-2.ensures.value) in
    let len : length (cells_of p.known.items p.bytes.items) ≡ c.len.result = length-cells_of p.known.items p.bytes.items c.self.invariant.long ∙ omega arith in
    let past : c.if-differ_at.value ≡ (c.differ_at.result || is_past p.end c.end-end.result) =
    elim c.if-differ_at.branch [
      | then-differ_at w ↦ w.value-is ∙ (w.if-differ_at.true ∙ sym (ap (λ (a : Bool). a || is_past p.end c.end-end.result) w.if-differ_at.true))
      | else-differ_at w ↦ w.value-is ∙ (w.is_past.ensures ∙ sym (ap (λ (a : Bool). a || is_past p.end c.end-end.result) w.if-differ_at.false))
    ] in
    let short : nat_lt c.end-end.result c.len.result ≡ false = grind (arith, nat_tests, c.if-end-len.false) in
    let same : c.is_before.result ≡ (nat_lt c.end-end.result c.len.result || is_before p.end c.end-end.result) = rw short c.is_before.ensures in
    rw (← c.self.view_is, len, ← another, ← c.end-end.ensures)
    (rest_decides c.if-differ_at.value c.differ_at.result (is_past p.end c.end-end.result) c.args.piece.last (nat_lt c.end-end.result c.len.result || is_before p.end c.end-end.result) _ past c.if-is_past.false c.if-piece.true same)
