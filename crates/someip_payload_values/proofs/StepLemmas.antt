-- Steps and tests that were passed or not.
use Rattle.std.proofs.Common.{◌≡◌, ◌⊎◌, inl, inr, Bool, true, false, cond, Result, Ok, Err, refl}
use Rattle.someip_payload_values.specs.declared.error.PayloadError.{PayloadError}
use Rattle.someip_payload_values.specs.declared.error.PayloadError.TheVariants as errors
use Rattle.someip_payload_values.specs.Steps.{◌>>=◌, Fails}

abbrev failed : {A : Type 0} → PayloadError → Result A PayloadError
failed e = Err e

pub err_is : {A : Type 0} (d e : PayloadError) → failed {A = A} d ≡ failed e → d ≡ e
err_is d e h = cc

-- a test that had to hold
pub passed : {A : Type 0} (b : Bool) (r : Result A PayloadError) (d : PayloadError) (y : A) → cond b r (Err d) ≡ Ok y → (b ≡ true) × (r ≡ Ok y)
passed true r d y e = (refl, e)
passed false r d y e = absurd cc

-- a test that had to fail
pub kept : {A : Type 0} (b : Bool) (r : Result A PayloadError) (d : PayloadError) (y : A) → cond b (Err d) r ≡ Ok y → (b ≡ false) × (r ≡ Ok y)
kept true r d y e = absurd cc
kept false r d y e = (refl, e)

pub passed_err : {A : Type 0} (b : Bool) (r : Result A PayloadError) (d e : PayloadError) → cond b r (Err d) ≡ Err e → ((b ≡ false) × (d ≡ e)) ⊎ ((b ≡ true) × (r ≡ Err e))
passed_err true r d e h = inr (refl, h)
passed_err {A = A} false r d e h = inl (refl, err_is {A = A} d e h)

pub kept_err : {A : Type 0} (b : Bool) (r : Result A PayloadError) (d e : PayloadError) → cond b (Err d) r ≡ Err e → ((b ≡ true) × (d ≡ e)) ⊎ ((b ≡ false) × (r ≡ Err e))
kept_err {A = A} true r d e h = inl (refl, err_is {A = A} d e h)
kept_err false r d e h = inr (refl, h)

-- a step failed, or what came after it
pub bind_err : {A B : Type 0} (r : Result A PayloadError) (f : A → Result B PayloadError) (e : PayloadError) → (r >>= f) ≡ Err e → (r ≡ Err e) ⊎ ((x : A) × (r ≡ Ok x) × (f x ≡ Err e))
bind_err (Ok x) f e h = inr (x, refl, h)
bind_err {A = A} {B = B} (Err d) f e h = let same : d ≡ e = err_is {A = B} d e h in inl (rw same refl)

-- a step failed that nothing which fails comes after
pub only_first : {A B : Type 0} (r : Result A PayloadError) (g : A → B) (e : PayloadError) → (r >>= λ x. Ok (g x)) ≡ Err e → r ≡ Err e
only_first (Ok x) g e h = absurd cc
only_first {A = A} {B = B} (Err d) g e h = let same : d ≡ e = err_is {A = B} d e h in rw same refl

pub test_false : (b : Bool) → (b ≡ true → ⊥) → b ≡ false
test_false true never = absurd (never refl)
test_false false never = refl

-- where the one fails, the other does
pub fails_too : {Y Z : Type 0} (e : PayloadError) (a : Result Y PayloadError) (b : Result Z PayloadError) → (a ≡ Err e → b ≡ Err e) → Fails e a → Fails e b
fails_too errors.OutOfMemory a b then h = tt
fails_too (errors.Truncated k) a b then h = then h
fails_too (errors.BadText k) a b then h = then h
fails_too (errors.NoTerminator k) a b then h = then h
fails_too (errors.UnknownVariant k) a b then h = then h
fails_too (errors.LengthMismatch k) a b then h = then h
fails_too (errors.TooMany k) a b then h = then h
fails_too (errors.TooDeep k) a b then h = then h
fails_too (errors.NotOfShape k) a b then h = then h
fails_too (errors.TooLong k) a b then h = then h
fails_too (errors.BadShape k) a b then h = then h
fails_too (errors.DuplicateMember k) a b then h = then h
fails_too (errors.WrongWireType k) a b then h = then h
fails_too (errors.MissingMember k) a b then h = then h
