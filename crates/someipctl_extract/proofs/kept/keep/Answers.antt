use Rattle.std.proofs.Common.{◌≡◌, ◌≤◌, ◌∙◌, ℕ, Bool, List, [], ◌∷◌, ◌++◌, length, sym, ap, subst, get_or, true, false, arith}
use Rattle.std.proofs.Math.ListN.{set}
use Rattle.std.proofs.lemmas.Result.{on_ok_weaker}
use Rattle.recording.specs.View.{view_record}
use Rattle.someipctl_extract.specs.Kept.{PartValue, joined, place_of}
use Rattle.someipctl_extract.proofs.KeptLemmas.{IsReady, ready_anew, ready_behind, ready_there}
use Rattle.someipctl_extract.proofs.kept.keep.Goals.{then-place-len+in_ok-push, else-place-len+then-is_first, else-place-len+else-is_first}
use Rattle.someipctl_extract.proofs.kept.keep.Goals as goal

pub returns : goal.returns
returns c =
    let kept = c.args.parts.now.items in
    let key = c.args.key in
    let at : c.place_of-place.result ≡ place_of key kept = cc (c.place_of-place.ensures.value, c.deref.ensures.value) in
    let most : c.place_of-place.result ≤ length kept = omega (arith, c.place_of-place.ensures.most, ap (λ (l : List PartValue). length l) c.deref.ensures.value) in
    let ready : IsReady key c.args.is_first kept c.if-place-len.parts.items (place_of key kept) =
    elim c.if-place-len.branch [
      | then-place-len+in_ok-push w ↦
          subst (λ (l : List PartValue). IsReady key c.args.is_first kept l (place_of key kept))
          (sym (ap (λ v. v.items) w.parts-is ∙ w.in_ok-push.ensures.items ∙ ap (λ (p : PartValue). kept ++ p ∷ []) w.new.ensures))
          (ready_behind key c.args.is_first kept (omega (arith, at, c.len.ensures, w.if-place-len.true)))
      | else-place-len+then-is_first w ↦
          subst (λ (f : Bool). IsReady key f kept c.if-place-len.parts.items (place_of key kept)) (sym w.if-is_first.true)
          (subst (λ (l : List PartValue). IsReady key true kept l (place_of key kept))
          (sym (ap (λ v. v.items) w.parts-is ∙ ap (λ (n : ℕ). set kept n w.new-then-is_first.result) at ∙ ap (set kept (place_of key kept)) w.new-then-is_first.ensures))
          (ready_anew key kept (omega (arith, at, most, c.len.ensures, w.if-place-len.false))))
      | else-place-len+else-is_first w ↦
          subst (λ (f : Bool). IsReady key f kept c.if-place-len.parts.items (place_of key kept)) (sym w.if-is_first.false)
          (subst (λ (l : List PartValue). IsReady key false kept l (place_of key kept)) (sym (ap (λ v. v.items) w.parts-is))
          (ready_there key kept (omega (arith, at, most, c.len.ensures, w.if-place-len.false))))
    ] in
    let r = view_record c.args.found.now in
    let ps = c.if-place-len.parts.items in
    on_ok_weaker c.join.result
    (λ joins.
    ap (set ps c.place_of-place.result) (joins ∙ ap (λ (p : PartValue). joined p r) c.index_mut-2.ensures.value)
    ∙ ap (λ (n : ℕ). set ps n (joined (get_or ps n c.index_mut-2.result.now) r)) at
    ∙ ready r c.index_mut-2.result.now)
    c.join.ensures.ok
