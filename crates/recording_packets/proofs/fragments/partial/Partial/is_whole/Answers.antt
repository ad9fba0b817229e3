use Rattle.std.proofs.Common.{◌≡◌, Option, Some, ℕ, length, nat_eq, ◌==◌, ◌&&◌, sym, ap, ◌∙◌, false, true, refl, arith}
use Rattle.std.proofs.lemmas.Bool.Decides.{nat_tests}
use Rattle.std.specs.Option.{is_some}
use Rattle.recording_packets.specs.fragments.Parts.{Part, payload_of, is_end}
use Rattle.recording_packets.specs.fragments.Views.{count_known}
use Rattle.recording_packets.proofs.about_fragments.CellLemmas.{is-whole}
use Rattle.recording_packets.proofs.fragments.partial.Partial.is_whole.Goals as goal

whole_then : (n e count known len : ℕ) (end : Option ℕ) → end ≡ Some e → e ≡ n → n ≡ len → count ≡ known → nat_eq count n ≡ (is_end len end && (known == len))
whole_then n e count known len end is here same counted =
    let test : (len == e) ≡ true = grind (arith, nat_tests, here, same) in
    let t : is_end len end ≡ true = ap (is_end len) is ∙ test in
    rw (t, counted, same) refl

whole_else : (n e known len : ℕ) (end : Option ℕ) → end ≡ Some e → (e ≡ n → ⊥) → n ≡ len → nat_eq e n ≡ (is_end len end && (known == len))
whole_else n e known len end is other same =
    let test : (len == e) ≡ false = grind (arith, nat_tests, other, same) in
    let first : nat_eq e n ≡ false = grind (arith, nat_tests, other) in
    let t : is_end len end ≡ false = ap (is_end len) is ∙ test in
    rw (t, first) refl

pub returns-then-end-len : goal.returns-then-end-len
returns-then-end-len c =
    let p = c.self.inside in
    whole_then c.len-len.result c.in-Some.end p.count (count_known p.known.items) (length p.known.items) p.end c.in-Some.is c.if-end-len.true (omega arith) c.self.invariant.counted
    ∙ (sym (is-whole p.known.items p.bytes.items p.end c.self.invariant.long) ∙ ap (λ (q : Part). is_some (payload_of q)) c.self.view_is)

pub returns-else-end-len : goal.returns-else-end-len
returns-else-end-len c =
    let p = c.self.inside in
    whole_else c.len-len.result c.in-Some.end (count_known p.known.items) (length p.known.items) p.end c.in-Some.is c.if-end-len.false (omega arith)
    ∙ (sym (is-whole p.known.items p.bytes.items p.end c.self.invariant.long) ∙ ap (λ (q : Part). is_some (payload_of q)) c.self.view_is)
