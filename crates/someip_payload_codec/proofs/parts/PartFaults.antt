-- Numbers and bodies that pass the window, and what is left after what was taken.
use Rattle.std.proofs.Common.{◌≡◌, inl, inr, ℕ, ◌+◌, ◌<◌, Bool, true, false, cond, ltb, List, ◌++◌, length, take, drop, Result, Ok, Err, refl, sym, ap, subst, ◌∙◌}
use Rattle.std.specs.Int.{byte_len}
use Rattle.std.proofs.lemmas.Bool.{ltb-true}
use Rattle.std.proofs.lemmas.List.{drop_at}
use Rattle.someip_payload_values.specs.declared.error.PayloadError.{PayloadError}
use Rattle.someip_payload_values.specs.declared.number.Order.{Order}
use Rattle.someip_payload_values.specs.declared.number.Order.TheVariants.{Big}
use Rattle.someip_payload_values.specs.declared.number.Size.{Size}
use Rattle.someip_payload_values.specs.declared.shape.Width.{Width}
use Rattle.someip_payload_codec.specs.View.{View}
use Rattle.someip_payload_values.specs.Steps.{◌>>=◌}
use Rattle.someip_payload_values.specs.Numbers.{width_of, size_of, framed}
use Rattle.someip_payload_codec.specs.Grammar.{Picks}
use Rattle.someip_payload_codec.specs.Reading.{short_at, skip, front_at, number_of, ordered_at, number_at, window_at, body_at}
use Rattle.someip_payload_codec.specs.Faults.{body_view, HasBody, FaultInBody, FaultInNumber}
use Rattle.someip_payload_values.proofs.StepLemmas.{err_is, bind_err}
use Rattle.someip_payload_codec.proofs.parts.Parts.{IsBytes, same_view, Took, took_then, body_took, body_again}

pub guard_err : {A : Type 0} (b : Bool) (d e : PayloadError) (x : A) → cond b (Err d) (Ok x) ≡ Err e → (b ≡ true) × (d ≡ e)
guard_err {A = A} true d e x h = (refl, err_is {A = A} d e h)
guard_err false d e x h = absurd cc

pub chosen_err : {A : Type 0} (b : Bool) (r : Result A PayloadError) (x : A) (e : PayloadError) → cond b r (Ok x) ≡ Err e → (b ≡ true) × (r ≡ Err e)
chosen_err true r x e h = (refl, h)
chosen_err false r x e h = absurd cc

pub picks_failed : {X : Type 0} (t : Bool) (A B : Type 0) (r s : Result X PayloadError) (e : PayloadError) → (r ≡ Err e → A) → (s ≡ Err e → B) → cond t r s ≡ Err e → Picks t A B
picks_failed true A B r s e first next h = first h
picks_failed false A B r s e first next h = next h

pub front_failed : (n : ℕ) (w : View) (e : PayloadError) → front_at n w ≡ Err e → FaultInNumber n w e
front_failed n w e h =
    let g = guard_err (ltb (length w.bytes) n) (short_at w) e (take n w.bytes, skip n w) h in
    (ltb-true _ _ g.0, sym g.1)

pub ordered_failed : (order : Order) (width : Size) (w : View) (e : PayloadError) → ordered_at order width w ≡ Err e → FaultInNumber (byte_len (width_of width)) w e
unfolding ordered_at
ordered_failed order width w e h =
    elim (bind_err (front_at (byte_len (width_of width)) w) (λ front. Ok (number_of order width front.0, front.1)) e h) [
      | inl first ↦ front_failed (byte_len (width_of width)) w e first
      | inr (x, was, then) ↦ absurd cc
    ]

pub number_failed : (width : Size) (w : View) (e : PayloadError) → number_at width w ≡ Err e → FaultInNumber (byte_len (width_of width)) w e
number_failed = ordered_failed Big

pub window_failed : (n : ℕ) (w u : View) (e : PayloadError) → window_at n w u ≡ Err e → (length u.bytes < n) × (e ≡ short_at w)
unfolding window_at
window_failed n w u e h =
    let g = guard_err (ltb (length u.bytes) n) (short_at w) e (record { is_body = true; place = u.place; bytes = take n u.bytes }, skip n u) h in
    (ltb-true _ _ g.0, sym g.1)

pub body_failed : (width : Width) (w : View) (e : PayloadError) → body_at width w ≡ Err e → e ≡ short_at w
unfolding body_at
body_failed width w e h =
    elim (bind_err (number_at (size_of width) w) (λ len. window_at len.0 w len.1) e h) [
      | inl first ↦ (number_failed (size_of width) w e first).1
      | inr (x, was, then) ↦ (window_failed x.0 w x.1 e then).1
    ]

no_body : (width : Width) (w : View) (e : PayloadError) → body_at width w ≡ Err e → (body : List ℕ) → HasBody width w body → ⊥
no_body width w e h body (fits, rest, parts) =
    let v : View = record { is_body = w.is_body; place = w.place + length (framed width body); bytes = rest } in
    let good : body_at width w ≡ Ok (body_view width w body, v) = body_again width w v body (record { is_body = refl; place = refl; bytes = parts }) fits in
    cc

-- a body that was read whole, and then a fault
pub in_body : {A : Type 0} (width : Width) (In : View → Type 0) (w : View) (e : PayloadError) (f : View × View → Result A PayloadError) → IsBytes w.bytes
    → ((b v : View) → IsBytes b.bytes → f (b, v) ≡ Err e → In b) → (body_at width w >>= f) ≡ Err e → FaultInBody width In w e
in_body width In w e f fits inside h =
    elim (bind_err (body_at width w) f e h) [
      | inl first ↦ inl (no_body width w e first, body_failed width w e first)
      | inr (x, was, then) ↦
          let t = body_took width w x.0 x.1 fits was in
          inr (x.0.bytes, (t.fits, x.1.bytes, t.took.bytes), subst In t.is_body (inside x.0 x.1 t.bytes then))
    ]

-- what was taken leaves what is skipped to
pub left_is : {w v : View} {text : List ℕ} → Took w text v → v ≡ skip (length text) w
left_is {w = w} {v = v} {text = text} t =
    let rest : drop (length text) w.bytes ≡ v.bytes = ap (drop (length text)) t.bytes ∙ drop_at text v.bytes (length text) refl in
    same_view v (skip (length text) w) t.is_body t.place (sym rest)

-- what is skipped was taken
took_front : (v : View) (text rest : List ℕ) → v.bytes ≡ text ++ rest → Took v text (skip (length text) v)
took_front v text rest e =
    let left : drop (length text) v.bytes ≡ rest = ap (drop (length text)) e ∙ drop_at text rest (length text) refl in
    record { is_body = refl; place = refl; bytes = e ∙ ap (λ (x : List ℕ). text ++ x) (sym left) }

-- what is left after one text and another
pub left_after : {w v : View} {text : List ℕ} → Took w text v → (more rest : List ℕ) → v.bytes ≡ more ++ rest → skip (length more) v ≡ skip (length (text ++ more)) w
left_after {v = v} t more rest e = left_is (took_then t (took_front v more rest e))
