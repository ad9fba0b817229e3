-- The requests that wait, as a map.
use Rattle.std.proofs.Common.{◌≡◌, ℕ, ◌+◌, ◌<◌, ◌≤◌, nat_le, Bool, true, false, cond, ◌||◌, Option, None, Some, refl, ap, ◌∙◌, arith}
use Rattle.std.specs.Option.{is_some}
use Rattle.std.specs.Ordering.{nat_cmp, eq_by_cmp}
use Rattle.std.specs.Cmp.{nat_cmp_total}
use Rattle.std.specs.FinMap.{nat_cmp-IsAntisymmetric, get, insert, remove, len, empty, get-empty, len-empty, get-insert, get-remove}
use Rattle.std.proofs.lemmas.Bool.Decides.{nat_tests}
use Rattle.someip_tables.proofs.Entries.{same_by_test}
use Rattle.someip_tables.proofs.MapLaws.{len-insert-≤, len-remove-≤}
use Rattle.someip_rpc.specs.declared.request.Asked.{Asked}
use Rattle.someip_rpc.specs.Requests.{OpenRequests, has_no_room}

-- 1024 requests wait at most, all of them under tokens that were given
abbrev pub AreOpen : OpenRequests → ℕ → Type 0
AreOpen requests next = (len requests ≤ 1024) × ((token : ℕ) → next ≤ token → is_some (get requests token) ≡ false)

pub none_open : (requests : OpenRequests) (next : ℕ) → requests ≡ empty → AreOpen requests next
none_open requests next is =
    let none : len requests ≡ 0 = ap len is ∙ len-empty nat_cmp Asked in
    (omega arith, λ token given. ap (λ m. is_some (get m token)) is ∙ ap is_some (get-empty nat_cmp token))

first_false : (a b : Bool) → (a || b) ≡ false → a ≡ false
first_false false b is = refl
first_false true b is = is

-- there is a place
pub has_room : (requests : OpenRequests) (next : ℕ) → has_no_room requests next ≡ false → len requests < 1024
has_room requests next is =
    let few : nat_le 1024 (len requests) ≡ false = first_false _ _ is in
    grind (arith, nat_tests)

absent_after : (requests : OpenRequests) (next token : ℕ) (request : Asked) (b : Bool) → eq_by_cmp nat_cmp token next ≡ b → next + 1 ≤ token → is_some (get requests token) ≡ false
    → is_some (cond b (Some request) (get requests token)) ≡ false
absent_after requests next token request true is given none = let same : token ≡ next = same_by_test nat_cmp-IsAntisymmetric token next is in absurd (omega arith)
absent_after requests next token request false is given none = none

pub one_more_open : (old new : OpenRequests) (next : ℕ) (request : Asked) → has_no_room old next ≡ false → AreOpen old next → new ≡ insert old next request → AreOpen new (next + 1)
one_more_open old new next request place are is =
    let below = has_room old next place in
    let le = len-insert-≤ nat_cmp_total nat_cmp-IsAntisymmetric old next request in
    let same : len new ≡ len (insert old next request) = ap len is in (
      omega arith,
      λ token given.
          ap (λ m. is_some (get m token)) is ∙ ap is_some (get-insert nat_cmp_total old next request token)
          ∙ absent_after old next token request (eq_by_cmp nat_cmp token next) refl given (are.1 token (omega (arith, given))),
    )

stays_absent : (v : Option Asked) (b : Bool) → is_some v ≡ false → is_some (cond b None v) ≡ false
stays_absent v true none = refl
stays_absent v false none = none

pub one_less_open : (old new : OpenRequests) (next token : ℕ) → AreOpen old next → new ≡ remove old token → AreOpen new next
one_less_open old new next token are is =
    let le = len-remove-≤ nat_cmp_total nat_cmp-IsAntisymmetric old token in
    let same : len new ≡ len (remove old token) = ap len is in
    let few = are.0 in (
      omega arith,
      λ other given.
          ap (λ m. is_some (get m other)) is ∙ ap is_some (get-remove nat_cmp_total old token other)
          ∙ stays_absent (get old other) (eq_by_cmp nat_cmp other token) (are.1 other given),
    )
