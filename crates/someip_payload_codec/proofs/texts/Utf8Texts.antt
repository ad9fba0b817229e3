-- Texts in UTF-8: what is read is spelled so, and the other way round.
use Rattle.std.proofs.Common.{◌≡◌, ◌⊎◌, inl, inr, ℕ, ◌+◌, ◌-◌, ◌<◌, Bool, true, false, cond, ltb, eqb, ◌&&◌, List, [], ◌∷◌, ◌++◌, length, take, drop, get_or, Ok, Err, refl, sym, ap, ◌∙◌, arith}
use Rattle.std.specs.Str.{is_utf8}
use Rattle.std.proofs.lemmas.Str.{is_utf8-from_IsUtf8, IsUtf8-from_is_utf8}
use Rattle.std.proofs.lemmas.Bool.{and_parts, ltb-true, eqb-true, lt-ltb, eq-eqb}
use Rattle.std.proofs.lemmas.List.{take-append-drop, drop_more, drop_all, take_at, length-append, get_or_at}
use Rattle.someip_payload_values.specs.declared.error.PayloadError.{PayloadError}
use Rattle.someip_payload_values.specs.declared.error.PayloadError.TheVariants.{BadText, NoTerminator}
use Rattle.someip_payload_values.specs.Texts.{utf8_mark}
use Rattle.someip_payload_codec.specs.Texts.{SpellsUtf8}
use Rattle.someip_payload_codec.specs.Reading.{has_mark, without_mark, is_ended, utf8_at}
use Rattle.someip_payload_values.proofs.StepLemmas.{passed, passed_err, test_false}

-- all but the last, and a zero
pub ended_split : (xs : List ℕ) → is_ended xs ≡ true → xs ≡ take (length xs - 1) xs ++ 0 ∷ []
ended_split xs e =
    let p = and_parts (ltb 0 (length xs)) (eqb (get_or xs (length xs - 1) 0) 0) e in
    let some : 0 < length xs = ltb-true _ _ p.0 in
    let zero : get_or xs (length xs - 1) 0 ≡ 0 = eqb-true _ _ p.1 in
    let none : drop (length xs - 1 + 1) xs ≡ [] = drop_all (length xs - 1 + 1) xs (omega arith) in
    let last : drop (length xs - 1) xs ≡ 0 ∷ [] = rw (drop_more xs (length xs - 1) 0 (omega arith), zero, none) refl in
    sym (take-append-drop (length xs - 1) xs) ∙ ap (λ (t : List ℕ). take (length xs - 1) xs ++ t) last

pub ended_is : (front : List ℕ) → is_ended (front ++ 0 ∷ []) ≡ true
ended_is front =
    let n : length (front ++ 0 ∷ []) ≡ length front + 1 = length-append front (0 ∷ []) in
    let some : ltb 0 (length (front ++ 0 ∷ [])) ≡ true = lt-ltb _ _ (omega arith) in
    let zero : eqb (get_or (front ++ 0 ∷ []) (length (front ++ 0 ∷ []) - 1) 0) 0 ≡ true = eq-eqb _ _ (get_or_at front 0 [] 0 (length (front ++ 0 ∷ []) - 1) (omega arith)) in
    rw (some, zero) refl

pub ended_front : (front : List ℕ) → take (length (front ++ 0 ∷ []) - 1) (front ++ 0 ∷ []) ≡ front
ended_front front =
    let n : length (front ++ 0 ∷ []) ≡ length front + 1 = length-append front (0 ∷ []) in
    take_at front (0 ∷ []) (length (front ++ 0 ∷ []) - 1) (omega arith)

mark_split : (t : List ℕ) → has_mark t ≡ true → t ≡ utf8_mark ++ drop 3 t
mark_split [] e = absurd cc
mark_split (a ∷ []) e =
    let p = and_parts (eqb a 0xEF) _ e in
    absurd cc
mark_split (a ∷ b ∷ []) e =
    let p = and_parts (eqb a 0xEF) _ e in
    let q = and_parts (eqb b 0xBB) _ p.1 in
    absurd cc
mark_split (a ∷ b ∷ c ∷ t) e =
    let p = and_parts (eqb a 0xEF) (eqb b 0xBB && eqb c 0xBF) e in
    let q = and_parts (eqb b 0xBB) (eqb c 0xBF) p.1 in
    rw (eqb-true _ _ p.0, eqb-true _ _ q.0, eqb-true _ _ q.1) refl

spelled : (b : Bool) (t s : List ℕ) → has_mark t ≡ b → is_utf8 s ≡ true → cond b (drop 3 t) t ≡ s → SpellsUtf8 s (t ++ 0 ∷ [])
spelled true t s is good same =
    let e : t ≡ utf8_mark ++ s = mark_split t is ∙ ap (λ (x : List ℕ). utf8_mark ++ x) same in
    (IsUtf8-from_is_utf8 s good, inl (ap (λ (x : List ℕ). x ++ 0 ∷ []) e))
spelled false t s is good same =
    (IsUtf8-from_is_utf8 s good, inr (ap (λ (x : List ℕ). x ++ 0 ∷ []) same, λ rest e. let h : has_mark t ≡ true = ap has_mark (same ∙ e) in absurd cc))

pub utf8_took : (place : ℕ) (body s : List ℕ) → utf8_at place body ≡ Ok s → SpellsUtf8 s body
unfolding utf8_at
utf8_took place body s h =
    let t = take (length body - 1) body in
    let a = passed (is_ended body) (cond (is_utf8 (without_mark t)) (Ok (without_mark t)) (Err (BadText place))) (NoTerminator place) s h in
    let b = passed (is_utf8 (without_mark t)) (Ok (without_mark t)) (BadText place) s a.1 in
    let same : without_mark t ≡ s = cc (b.1) in
    let good : is_utf8 s ≡ true = rw same at b.0 in
    rw (ended_split body a.0) (spelled (has_mark t) t s refl good same)

pub utf8_again : (place : ℕ) (body s : List ℕ) → SpellsUtf8 s body → utf8_at place body ≡ Ok s
unfolding utf8_at
utf8_again place body s (is, inl e) =
    let whole : body ≡ (utf8_mark ++ s) ++ 0 ∷ [] = e in
    rw (whole, ended_is (utf8_mark ++ s), ended_front (utf8_mark ++ s), is_utf8-from_IsUtf8 s is) refl
utf8_again place body s (is, inr (e, never)) =
    let unmarked : has_mark s ≡ false = test_false (has_mark s) (λ h. never (drop 3 s) (mark_split s h)) in
    rw (e, ended_is s, ended_front s, unmarked, is_utf8-from_IsUtf8 s is) refl

pub utf8_failed : (place : ℕ) (body : List ℕ) (e : PayloadError) → utf8_at place body ≡ Err e
    → (((front : List ℕ) → body ≡ front ++ 0 ∷ [] → ⊥) × (e ≡ NoTerminator place)) ⊎ (((front : List ℕ) × (body ≡ front ++ 0 ∷ [])) × (e ≡ BadText place))
unfolding utf8_at
utf8_failed place body e h =
    let t = take (length body - 1) body in
    elim (passed_err (is_ended body) (cond (is_utf8 (without_mark t)) (Ok (without_mark t)) (Err (BadText place))) (NoTerminator place) e h) [
      | inl (open_end, same) ↦ inl (λ front is. let yes_end : is_ended body ≡ true = rw is (ended_is front) in absurd cc, sym same)
      | inr (ended, then) ↦ elim (passed_err (is_utf8 (without_mark t)) (Ok (without_mark t)) (BadText place) e then) [
        | inl (bad, same) ↦ inr ((t, ended_split body ended), sym same)
        | inr (good, never) ↦ absurd cc
      ]
    ]
