-- What follows of a Result by what is known of it.
use Rattle.std.specs.Prelude.{◌≢◌}
use Rattle.std.proofs.Common.{◌≡◌, true, false, Option, None, Result, Ok, Err}
use Rattle.std.specs.Option.{is_some}
use Rattle.std.specs.Result.{IfOk, OnOk, OnErr, is_err}

-- what cannot fail went well
pub where_no_err : {T E P Q : Type 0} (r : Result T E) → (P → ⊥) → OnErr r P → OnOk r Q → Q
where_no_err (Ok x) never err ok = ok
where_no_err (Err e) never err ok = absurd (never err)

-- and what did not fail
pub where_ok : {T E Q : Type 0} (r : Result T E) → is_err r ≡ false → OnOk r Q → Q
where_ok (Ok x) is ok = ok
where_ok (Err e) is ok = absurd (cc)

-- two facts of an answer together
pub if_ok_both : {T E : Type 0} {P Q S : T → Type 0} (r : Result T E) → ((x : T) → P x → Q x → S x) → IfOk r P → IfOk r Q → IfOk r S
if_ok_both (Ok x) both p q = both x p q
if_ok_both (Err e) both p q = tt

pub not_none : {X : Type 0} (v : Option X) → is_some v ≡ true → v ≢ None
not_none v some none = cc

-- what holds where memory ran out, and in any case
pub on_err : {T E P : Type 0} (r : Result T E) → P → OnErr r P
on_err (Ok x) p = tt
on_err (Err e) p = p
