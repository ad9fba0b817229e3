-- Parts of what is left to read: numbers and bodies.
use Rattle.std.proofs.Common.{◌≡◌, ℕ, ◌+◌, ◌%◌, ◌<◌, ◌≤◌, Bool, true, false, cond, ltb, List, [], ◌∷◌, ◌++◌, length, get_or, take, drop, Result, Ok, Err, refl, sym, ap, subst, ◌∙◌, append_assoc, arith, inl, inr}
use Rattle.std.specs.Int.{w8, byte_len, from_be_bytes}
use Rattle.std.proofs.lemmas.Bool.{cases_lt, ltb-false, le-ltb}
use Rattle.std.proofs.lemmas.List.{take_at, drop_at, take-append-drop, length-append, length-take, get_or_append_left, get_or-append-add, get_or_past}
use Rattle.std.proofs.lemmas.Nat.{be_bytes_2, be_bytes_4, be_bytes_8, le_bytes_2, le_bytes_4, le_bytes_8, from_le_bytes-to_le_bytes_2, from_le_bytes-to_le_bytes_4, from_le_bytes-to_le_bytes_8, from_be_bytes-to_be_bytes_2, from_be_bytes-to_be_bytes_4, from_be_bytes-to_be_bytes_8}
use Rattle.someip_payload_values.specs.declared.error.PayloadError.{PayloadError}
use Rattle.someip_payload_values.specs.declared.shape.Width.{Width}
use Rattle.someip_payload_values.specs.declared.number.Order.{Order}
use Rattle.someip_payload_values.specs.declared.number.Order.TheVariants.{Big, Little}
use Rattle.someip_payload_values.specs.declared.number.Size.{Size}
use Rattle.someip_payload_values.specs.declared.number.Size.TheVariants.{S8, S16, S32, S64}
use Rattle.someip_payload_codec.specs.View.{View}
use Rattle.someip_payload_values.specs.Numbers.{width_of, limit_of, size_of, number, number_in, framed}
use Rattle.someip_payload_values.specs.Steps.{◌>>=◌}
use Rattle.someip_payload_codec.specs.Reading.{short_at, skip, front_at, number_of, ordered_at, number_at, window_at, body_at}
use Rattle.someip_payload_codec.specs.Faults.{body_view}

pub record IsBytes (bytes : List ℕ) : Type 0 where
  pub each : (i : ℕ) → get_or bytes i 0 < 256

-- the value of a step that did not fail
pub bind_ok : {A B : Type 0} (r : Result A PayloadError) (f : A → Result B PayloadError) (y : B) → (r >>= f) ≡ Ok y → (x : A) × (r ≡ Ok x) × (f x ≡ Ok y)
bind_ok (Ok x) f y e = (x, refl, e)
bind_ok (Err d) f y e = absurd cc

-- a test that did not fail
pub guard_ok : {A : Type 0} (b : Bool) (d : PayloadError) (x y : A) → cond b (Err d) (Ok x) ≡ Ok y → (b ≡ false) × (x ≡ y)
guard_ok true d x y e = absurd cc
guard_ok false d x y e = (refl, cc)

abbrev done : {A : Type 0} → A → Result A PayloadError
done x = Ok x

pub ok_is : {A : Type 0} (x y : A) → done x ≡ done y → x ≡ y
ok_is x y e = cc

pub same_view : (v u : View) → v.is_body ≡ u.is_body → v.place ≡ u.place → v.bytes ≡ u.bytes → v ≡ u
same_view v u a b c =
    ap (λ (x : Bool). let y : View = record { is_body = x; place = v.place; bytes = v.bytes } in y) a
    ∙ ap (λ (x : ℕ). let y : View = record { is_body = u.is_body; place = x; bytes = v.bytes } in y) b
    ∙ ap (λ (x : List ℕ). let y : View = record { is_body = u.is_body; place = u.place; bytes = x } in y) c

-- a text was taken from the front of w, and v is left
pub record Took (w : View) (text : List ℕ) (v : View) : Type 0 where
  pub is_body : v.is_body ≡ w.is_body
  pub place : v.place ≡ w.place + length text
  pub bytes : w.bytes ≡ text ++ v.bytes

-- a text of such a kind was taken from w, and v is left
pub record Takes (P : List ℕ → Type 0) (w v : View) : Type 0 where
  pub text : List ℕ
  pub took : Took w text v
  pub holds : P text

pub took_none : (w : View) → Took w [] w
took_none w = record { is_body = refl; place = omega arith; bytes = refl }

pub took_then : {w m v : View} {a b : List ℕ} → Took w a m → Took m b v → Took w (a ++ b) v
took_then {w = w} {m = m} {v = v} {a = a} {b = b} p q = record {
  is_body = q.is_body ∙ p.is_body;
  place = omega (arith, p.place, q.place, length-append a b);
  bytes = p.bytes ∙ ap (λ (t : List ℕ). a ++ t) q.bytes ∙ sym (append_assoc a b v.bytes);
}

-- what a text in two parts takes, part by part
pub took_split : {w v : View} (a b : List ℕ) → Took w (a ++ b) v → Took w a (skip (length a) w) × Took (skip (length a) w) b v
took_split {w = w} {v = v} a b p =
    let regrouped : w.bytes ≡ a ++ (b ++ v.bytes) = p.bytes ∙ append_assoc a b v.bytes in
    let rest : drop (length a) w.bytes ≡ b ++ v.bytes = rw (regrouped, drop_at a (b ++ v.bytes) (length a) refl) refl in (
      record { is_body = refl; place = refl; bytes = regrouped ∙ ap (λ (t : List ℕ). a ++ t) (sym rest) },
      record { is_body = p.is_body; place = omega (arith, p.place, length-append a b); bytes = rest },
    )

pub took_bytes : {w v : View} {a : List ℕ} → IsBytes w.bytes → Took w a v → IsBytes a × IsBytes v.bytes
took_bytes {w = w} {v = v} {a = a} h p =
    let both : IsBytes (a ++ v.bytes) = rw (← p.bytes) h in (
      record {
        each = λ i. elim (cases_lt i (length a)) [
          | inl lt ↦ rw (← get_or_append_left a v.bytes 0 i lt) (both.each i)
          | inr le ↦ rw (get_or_past a i 0 le) (omega arith)
        ];
      },
      record { each = λ i. rw (← get_or-append-add a v.bytes i 0) (both.each (length a + i)) },
    )

-- the front of a window
pub front_took : (n : ℕ) (w v : View) (text : List ℕ) → front_at n w ≡ Ok (text, v) → Took w text v × (length text ≡ n)
front_took n w v text e =
    let g = guard_ok (ltb (length w.bytes) n) (short_at w) (take n w.bytes, skip n w) (text, v) e in
    let long : n ≤ length w.bytes = ltb-false _ _ g.0 in
    let len : length (take n w.bytes) ≡ n = omega (arith, length-take n w.bytes) in
    subst (λ (x : List ℕ × View). Took w x.0 x.1 × (length x.0 ≡ n)) g.1
    (record { is_body = refl; place = ap (λ (k : ℕ). w.place + k) (sym len); bytes = sym (take-append-drop n w.bytes) }, len)

pub front_again : (n : ℕ) (w v : View) (text : List ℕ) → Took w text v → length text ≡ n → front_at n w ≡ Ok (text, v)
front_again n w v text p len =
    let long : ltb (length w.bytes) n ≡ false = le-ltb _ _ (omega (arith, ap length p.bytes ∙ length-append text v.bytes)) in
    let first : take n w.bytes ≡ text = rw p.bytes (take_at text v.bytes n len) in
    let after : skip n w ≡ v = same_view (skip n w) v (sym p.is_body) (omega (arith, p.place)) (rw p.bytes (drop_at text v.bytes n len)) in
    rw (long, first, after) refl

-- ---- numbers

pub record IsWideIn (order : Order) (w : Size) : Type 0 where
  pub len : (n : ℕ) → length (number_in order w n) ≡ byte_len (width_of w)
  pub back : (bytes : List ℕ) → length bytes ≡ byte_len (width_of w) → IsBytes bytes → number_in order w (number_of order w bytes) ≡ bytes
  pub again : (n : ℕ) → n < limit_of w → number_of order w (number_in order w n) ≡ n
  pub below : (bytes : List ℕ) → IsBytes bytes → number_of order w bytes < limit_of w

abbrev pub IsWide : Size → Type 0
IsWide = IsWideIn Big

one_byte : (bytes : List ℕ) → length bytes ≡ 1 → IsBytes bytes → number S8 (from_be_bytes w8 bytes) ≡ bytes
one_byte [] len fits = absurd (omega arith)
one_byte (b ∷ []) len fits =
    let same : b % 256 ≡ b = omega (arith, fits.each 0) in
    ap (λ (x : ℕ). x ∷ []) same
one_byte (b ∷ c ∷ bs) len fits = absurd (omega (arith, len))

pub wide : (w : Size) → IsWide w
wide S8 = record {
  len = λ n. refl;
  back = one_byte;
  again = λ n lt. omega arith;
  below = λ bytes fits. omega (arith, fits.each 0);
}
wide S16 = record {
  len = λ n. refl;
  back = λ bytes len fits. be_bytes_2 bytes _ len fits.each refl;
  again = λ n lt. from_be_bytes-to_be_bytes_2 n lt;
  below = λ bytes fits. omega (arith, fits.each 0, fits.each 1);
}
wide S32 = record {
  len = λ n. refl;
  back = λ bytes len fits. be_bytes_4 bytes _ len fits.each refl;
  again = λ n lt. from_be_bytes-to_be_bytes_4 n lt;
  below = λ bytes fits. omega (arith, fits.each 0, fits.each 1, fits.each 2, fits.each 3);
}
wide S64 = record {
  len = λ n. refl;
  back = λ bytes len fits. be_bytes_8 bytes _ len fits.each refl;
  again = λ n lt. from_be_bytes-to_be_bytes_8 n lt;
  below = λ bytes fits. omega (arith, fits.each 0, fits.each 1, fits.each 2, fits.each 3, fits.each 4, fits.each 5, fits.each 6, fits.each 7);
}

one_small : (bytes : List ℕ) → length bytes ≡ 1 → IsBytes bytes → number_in Little S8 (number_of Little S8 bytes) ≡ bytes
one_small [] len fits = absurd (omega arith)
one_small (b ∷ []) len fits =
    let same : b % 256 ≡ b = omega (arith, fits.each 0) in
    ap (λ (x : ℕ). x ∷ []) same
one_small (b ∷ c ∷ bs) len fits = absurd (omega (arith, len))

pub wide_in : (order : Order) (w : Size) → IsWideIn order w
wide_in Big w = wide w
wide_in Little S8 = record {
  len = λ n. refl;
  back = one_small;
  again = λ n lt. omega arith;
  below = λ bytes fits. omega (arith, fits.each 0);
}
wide_in Little S16 = record {
  len = λ n. refl;
  back = λ bytes len fits. le_bytes_2 bytes _ len fits.each refl;
  again = λ n lt. from_le_bytes-to_le_bytes_2 n lt;
  below = λ bytes fits. omega (arith, fits.each 0, fits.each 1);
}
wide_in Little S32 = record {
  len = λ n. refl;
  back = λ bytes len fits. le_bytes_4 bytes _ len fits.each refl;
  again = λ n lt. from_le_bytes-to_le_bytes_4 n lt;
  below = λ bytes fits. omega (arith, fits.each 0, fits.each 1, fits.each 2, fits.each 3);
}
wide_in Little S64 = record {
  len = λ n. refl;
  back = λ bytes len fits. le_bytes_8 bytes _ len fits.each refl;
  again = λ n lt. from_le_bytes-to_le_bytes_8 n lt;
  below = λ bytes fits. omega (arith, fits.each 0, fits.each 1, fits.each 2, fits.each 3, fits.each 4, fits.each 5, fits.each 6, fits.each 7);
}

pub ordered_took : (order : Order) (width : Size) (w v : View) (n : ℕ) → IsBytes w.bytes → ordered_at order width w ≡ Ok (n, v) → Took w (number_in order width n) v × (n < limit_of width)
unfolding ordered_at
ordered_took order width w v n fits e =
    let a = bind_ok (front_at (byte_len (width_of width)) w) (λ front. Ok (number_of order width front.0, front.1)) (n, v) e in
    let t = front_took (byte_len (width_of width)) w a.0.1 a.0.0 a.1 in
    let bytes = took_bytes fits t.0 in
    subst (λ (x : ℕ × View). Took w (number_in order width x.0) x.1 × (x.0 < limit_of width)) (ok_is (number_of order width a.0.0, a.0.1) (n, v) a.2)
    (rw ((wide_in order width).back a.0.0 t.1 bytes.0) t.0, (wide_in order width).below a.0.0 bytes.0)

pub number_took : (width : Size) (w v : View) (n : ℕ) → IsBytes w.bytes → number_at width w ≡ Ok (n, v) → Took w (number width n) v × (n < limit_of width)
number_took = ordered_took Big

pub ordered_again : (order : Order) (width : Size) (w v : View) (n : ℕ) → Took w (number_in order width n) v → n < limit_of width → ordered_at order width w ≡ Ok (n, v)
unfolding ordered_at
ordered_again order width w v n p lt = rw (front_again (byte_len (width_of width)) w v (number_in order width n) p ((wide_in order width).len n), (wide_in order width).again n lt) refl

pub number_again : (width : Size) (w v : View) (n : ℕ) → Took w (number width n) v → n < limit_of width → number_at width w ≡ Ok (n, v)
number_again = ordered_again Big

-- ---- bodies

pub record TookBody (width : Width) (w b v : View) : Type 0 where
  pub took : Took w (framed width b.bytes) v
  pub fits : length b.bytes < limit_of (size_of width)
  pub is_body : b ≡ body_view width w b.bytes
  pub bytes : IsBytes b.bytes

-- the window of a body of n bytes
pub record TookWindow (n : ℕ) (u b v : View) : Type 0 where
  pub took : Took u b.bytes v
  pub len : length b.bytes ≡ n
  pub is_body : b ≡ record { is_body = true; place = u.place; bytes = b.bytes }
  pub bytes : IsBytes b.bytes

pub window_took : (n : ℕ) (w u b v : View) → IsBytes u.bytes → window_at n w u ≡ Ok (b, v) → TookWindow n u b v
unfolding window_at
window_took n w u b v fits e =
    let g = guard_ok (ltb (length u.bytes) n) (short_at w) (record { is_body = true; place = u.place; bytes = take n u.bytes }, skip n u) (b, v) e in
    let long : n ≤ length u.bytes = ltb-false _ _ g.0 in
    let len : length (take n u.bytes) ≡ n = omega (arith, length-take n u.bytes) in
    let second : Took u (take n u.bytes) (skip n u) = record { is_body = refl; place = ap (λ (k : ℕ). u.place + k) (sym len); bytes = sym (take-append-drop n u.bytes) } in
    subst (λ (x : View × View). TookWindow n u x.0 x.1) g.1
    (record { took = second; len = len; is_body = refl; bytes = (took_bytes fits second).0 })

pub window_again : (w u v : View) (body : List ℕ) → Took u body v → window_at (length body) w u ≡ Ok (record { is_body = true; place = u.place; bytes = body }, v)
unfolding window_at
window_again w u v body p =
    let long : ltb (length u.bytes) (length body) ≡ false = le-ltb _ _ (omega (arith, ap length p.bytes ∙ length-append body v.bytes)) in
    let front : take (length body) u.bytes ≡ body = rw p.bytes (take_at body v.bytes (length body) refl) in
    let after : skip (length body) u ≡ v = same_view (skip (length body) u) v (sym p.is_body) (sym p.place) (rw p.bytes (drop_at body v.bytes (length body) refl)) in
    rw (long, front, after) refl

pub body_took : (width : Width) (w b v : View) → IsBytes w.bytes → body_at width w ≡ Ok (b, v) → TookBody width w b v
unfolding body_at
body_took width w b v fits e =
    let a = bind_ok (number_at (size_of width) w) (λ len. window_at len.0 w len.1) (b, v) e in
    let n = a.0.0 in
    let m = a.0.1 in
    let t = number_took (size_of width) w m n fits a.1 in
    let x = window_took n w m b v (took_bytes fits t.0).1 a.2 in
    let whole : Took w (framed width b.bytes) v = rw x.len (took_then t.0 x.took) in
    let place : m.place ≡ w.place + byte_len (width_of (size_of width)) = t.0.place ∙ ap (λ (k : ℕ). w.place + k) ((wide (size_of width)).len n) in
    record { took = whole; fits = omega (arith, t.1, x.len); is_body = x.is_body ∙ ap (λ (k : ℕ). record { is_body = true; place = k; bytes = b.bytes }) place; bytes = x.bytes }

pub body_again : (width : Width) (w v : View) (body : List ℕ) → Took w (framed width body) v → length body < limit_of (size_of width) → body_at width w ≡ Ok (body_view width w body, v)
unfolding body_at
body_again width w v body p lt =
    let s = took_split {w = w} {v = v} (number (size_of width) (length body)) body p in
    let m = skip (length (number (size_of width) (length body))) w in
    let first : number_at (size_of width) w ≡ Ok (length body, m) = number_again (size_of width) w m (length body) s.0 lt in
    let place : m.place ≡ w.place + byte_len (width_of (size_of width)) = ap (λ (k : ℕ). w.place + k) ((wide (size_of width)).len (length body)) in
    rw (first, window_again w m v body s.1, place) refl
