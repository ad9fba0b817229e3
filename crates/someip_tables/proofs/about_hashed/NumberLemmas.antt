-- Endpoints compared as numbers.
use Rattle.std.proofs.Common.{◌≡◌, ℕ, ◌+◌, ◌*◌, ◌<◌, nat_lt, Bool, true, false, List, [], ◌∷◌, length, slice_index, refl, ap, ◌∙◌, zero-add, arith}
use Rattle.std.specs.declared.cmp.Ordering.{Ordering}
use Rattle.std.specs.declared.cmp.Ordering.TheVariants.{Less, Equal, Greater}
use Rattle.std.specs.Ordering.{nat_cmp, ordering_then}
use Rattle.std.specs.Cmp.Lexicographic.{slice_cmp}
use Rattle.std.proofs.lemmas.Bool.{ltb-true, ltb-false}
use Rattle.std.proofs.lemmas.Bool.Decides.{nat_tests}
use Rattle.std.specs.declared.net.ipv4_addr.Ipv4Addr.{Ipv4Addr}
use Rattle.std.specs.declared.net.socket_addr.SocketAddrV4.{SocketAddrV4}
use Rattle.std.specs.Net.Socket.{v4_ip, v4_port}
use Rattle.std.specs.Net.Addr.{ipv4_octets}
use Rattle.someip_tables.specs.Endpoints.{address_cmp, endpoint_cmp}
use Rattle.someip_tables.specs.hashed.EndpointNumbers.{IsAddress, IsEndpoint, address_number, endpoint_number, spelled}

less : (x y : ℕ) → x < y → nat_cmp x y ≡ Less
less x y lt = grind (arith, nat_tests)

more : (x y : ℕ) → y < x → nat_cmp x y ≡ Greater
more x y gt = grind (arith, nat_tests)

tie : (x y : ℕ) → x ≡ y → nat_cmp x y ≡ Equal
tie x y is = grind (arith, nat_tests)

-- the last digit to the base 256 decides where those before it tie
decides_256 : (x y r s : ℕ) → r < 256 → s < 256 → nat_cmp (x * 256 + r) (y * 256 + s) ≡ ordering_then (nat_cmp x y) (nat_cmp r s)
decides_256 x y r s low other = first (nat_lt x y) (nat_lt y x) refl refl
  where
    second : x ≡ y → (l g : Bool) → nat_lt r s ≡ l → nat_lt s r ≡ g → nat_cmp (x * 256 + r) (y * 256 + s) ≡ ordering_then (nat_cmp x y) (nat_cmp r s)
    second same true g l is =
        let lt : r < s = ltb-true r s l in
        let below : x * 256 + r < y * 256 + s = omega (arith, same, lt) in
        rw (less _ _ below, tie x y same, less r s lt) refl
    second same false true l is =
        let gt : s < r = ltb-true s r is in
        let above : y * 256 + s < x * 256 + r = omega (arith, same, gt) in
        rw (more _ _ above, tie x y same, more r s gt) refl
    second same false false l is =
        let equal : r ≡ s = omega (arith, ltb-false r s l, ltb-false s r is) in
        let both : x * 256 + r ≡ y * 256 + s = omega (arith, same, equal) in
        rw (tie _ _ both, tie x y same, tie r s equal) refl

    first : (l g : Bool) → nat_lt x y ≡ l → nat_lt y x ≡ g → nat_cmp (x * 256 + r) (y * 256 + s) ≡ ordering_then (nat_cmp x y) (nat_cmp r s)
    first true g l is =
        let lt : x < y = ltb-true x y l in
        let below : x * 256 + r < y * 256 + s = omega (arith, lt, low) in
        rw (less _ _ below, less x y lt) refl
    first false true l is =
        let gt : y < x = ltb-true y x is in
        let above : y * 256 + s < x * 256 + r = omega (arith, gt, other) in
        rw (more _ _ above, more x y gt) refl
    first false false l is = let same : x ≡ y = omega (arith, ltb-false x y l, ltb-false y x is) in second same (nat_lt r s) (nat_lt s r) refl refl

-- the last digit to the base 65536 decides where those before it tie
pub decides_65536 : (x y r s : ℕ) → r < 65536 → s < 65536 → nat_cmp (x * 65536 + r) (y * 65536 + s) ≡ ordering_then (nat_cmp x y) (nat_cmp r s)
decides_65536 x y r s low other = first (nat_lt x y) (nat_lt y x) refl refl
  where
    second : x ≡ y → (l g : Bool) → nat_lt r s ≡ l → nat_lt s r ≡ g → nat_cmp (x * 65536 + r) (y * 65536 + s) ≡ ordering_then (nat_cmp x y) (nat_cmp r s)
    second same true g l is =
        let lt : r < s = ltb-true r s l in
        let below : x * 65536 + r < y * 65536 + s = omega (arith, same, lt) in
        rw (less _ _ below, tie x y same, less r s lt) refl
    second same false true l is =
        let gt : s < r = ltb-true s r is in
        let above : y * 65536 + s < x * 65536 + r = omega (arith, same, gt) in
        rw (more _ _ above, tie x y same, more r s gt) refl
    second same false false l is =
        let equal : r ≡ s = omega (arith, ltb-false r s l, ltb-false s r is) in
        let both : x * 65536 + r ≡ y * 65536 + s = omega (arith, same, equal) in
        rw (tie _ _ both, tie x y same, tie r s equal) refl

    first : (l g : Bool) → nat_lt x y ≡ l → nat_lt y x ≡ g → nat_cmp (x * 65536 + r) (y * 65536 + s) ≡ ordering_then (nat_cmp x y) (nat_cmp r s)
    first true g l is =
        let lt : x < y = ltb-true x y l in
        let below : x * 65536 + r < y * 65536 + s = omega (arith, lt, low) in
        rw (less _ _ below, less x y lt) refl
    first false true l is =
        let gt : y < x = ltb-true y x is in
        let above : y * 65536 + s < x * 65536 + r = omega (arith, gt, other) in
        rw (more _ _ above, more x y gt) refl
    first false false l is = let same : x ≡ y = omega (arith, ltb-false x y l, ltb-false y x is) in second same (nat_lt r s) (nat_lt s r) refl refl

pub then_assoc : (a b c : Ordering) → ordering_then (ordering_then a b) c ≡ ordering_then a (ordering_then b c)
then_assoc Less b c = refl
then_assoc Equal b c = refl
then_assoc Greater b c = refl

-- four octets
octets_decide : (a b c d a' b' c' d' : ℕ) → b < 256 → c < 256 → d < 256 → b' < 256 → c' < 256 → d' < 256
    → nat_cmp (((a * 256 + b) * 256 + c) * 256 + d) (((a' * 256 + b') * 256 + c') * 256 + d')
    ≡ slice_cmp nat_cmp (a ∷ b ∷ c ∷ d ∷ []) (a' ∷ b' ∷ c' ∷ d' ∷ [])
octets_decide a b c d a' b' c' d' lb lc ld lb' lc' ld' =
    decides_256 ((a * 256 + b) * 256 + c) ((a' * 256 + b') * 256 + c') d d' ld ld'
    ∙ ap (λ o. ordering_then o (nat_cmp d d')) (decides_256 (a * 256 + b) (a' * 256 + b') c c' lc lc')
    ∙ ap (λ o. ordering_then (ordering_then o (nat_cmp c c')) (nat_cmp d d')) (decides_256 a a' b b' lb lb')
    ∙ chain (nat_cmp a a') (nat_cmp b b') (nat_cmp c c') (nat_cmp d d')
  where
    chain : (p q r s : Ordering) → ordering_then (ordering_then (ordering_then p q) r) s ≡ ordering_then p (ordering_then q (ordering_then r (ordering_then s Equal)))
    chain Less q r s = refl
    chain Greater q r s = refl
    chain Equal Less r s = refl
    chain Equal Greater r s = refl
    chain Equal Equal Less s = refl
    chain Equal Equal Greater s = refl
    chain Equal Equal Equal Less = refl
    chain Equal Equal Equal Greater = refl
    chain Equal Equal Equal Equal = refl

-- lists of four
spelled_decide : (xs ys : List ℕ) → length xs ≡ 4 → length ys ≡ 4 → ((i : ℕ) → slice_index xs i < 256) → ((i : ℕ) → slice_index ys i < 256)
    → nat_cmp (spelled 0 xs) (spelled 0 ys) ≡ slice_cmp nat_cmp xs ys
spelled_decide (a ∷ b ∷ c ∷ d ∷ []) (a' ∷ b' ∷ c' ∷ d' ∷ []) long long' low low' =
    rw (zero-add a, zero-add a') (octets_decide a b c d a' b' c' d' (low 1) (low 2) (low 3) (low' 1) (low' 2) (low' 3))
spelled_decide xs ys long long' low low' = absurd (omega (arith, long, long'))

pub addresses_compared : (a b : Ipv4Addr) → IsAddress a → IsAddress b → nat_cmp (address_number a) (address_number b) ≡ address_cmp a b
addresses_compared a b va vb = spelled_decide (ipv4_octets a) (ipv4_octets b) va.0 vb.0 va.1 vb.1

pub endpoints_compared : (a b : SocketAddrV4) → IsEndpoint a → IsEndpoint b → nat_cmp (endpoint_number a) (endpoint_number b) ≡ endpoint_cmp a b
endpoints_compared a b va vb =
    decides_65536 (address_number (v4_ip a)) (address_number (v4_ip b)) (v4_port a) (v4_port b) va.1 vb.1
    ∙ ap (λ o. ordering_then o (nat_cmp (v4_port a) (v4_port b))) (addresses_compared (v4_ip a) (v4_ip b) va.0 vb.0)
