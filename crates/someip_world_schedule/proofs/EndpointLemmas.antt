-- The texts of endpoints.
use Rattle.std.proofs.Common.{◌≡◌, ◌==◌, ◌||◌, ℕ, suc, ◌+◌, ◌<◌, ◌≤◌, ◌^◌, Bool, true, false, cond, nat_lt, List, [], ◌∷◌, ◌++◌, length, take, drop, get_or, decimal, codes, Option, Some, None, refl, sym, ap, ◌∙◌, arith, lt-ltb, ltb-true, eqb-true, eq-eqb, length-append}
use Rattle.std.specs.List.{list_all, list_any, position_or_len, before_first, after_first}
use Rattle.std.specs.Net.Text.{dotted_text, ipv4_text, socket_v4_text}
use Rattle.std.specs.declared.net.socket_addr.SocketAddrV4.{SocketAddrV4}
use Rattle.std.proofs.lemmas.Grind.{common_steps}
use Rattle.std.proofs.lemmas.List.Sums.{split_at_first, passes_at_first}
use Rattle.std.proofs.lemmas.Bool.{and_parts}
use Rattle.std.proofs.lemmas.List.Folds.{list_any-append}
use Rattle.someip_texts.specs.Numbers.{is_digit, number_in}
use Rattle.someip_texts.proofs.NumberLemmas.{only_decimal, each_decimal, decimal_digits}
use Rattle.someip_world_schedule.specs.StepWords.{◌>>=◌, cut_in, address_in, endpoint_in}

bind_some : {A B : Type 0} (o : Option A) (f : A → Option B) (b : B) → (o >>= f) ≡ Some b → (a : A) × (o ≡ Some a) × (f a ≡ Some b)
bind_some (Some a) f b h = (a, refl, h)
bind_some None f b h = absurd (cc h)

cut_at : (c : ℕ) (word : List ℕ) → position_or_len (λ b. b == c) word < length word
    → word ≡ before_first (λ b. b == c) word ++ c ∷ after_first (λ b. b == c) word
cut_at c word within =
    let here = eqb-true (get_or word (position_or_len (λ b. b == c) word) 0) c (passes_at_first (λ b. b == c) word 0 within) in
    split_at_first (λ b. b == c) word 0 within
    ∙ ap (λ b. before_first (λ b. b == c) word ++ b ∷ after_first (λ b. b == c) word) here

some_same : (p q : List ℕ × List ℕ) → Some p ≡ Some q → p ≡ q
some_same p q h = cc h

fits : (within : Bool) (front rest x y : List ℕ) → cond {A = Option (List ℕ × List ℕ)} within (Some (front, rest)) None ≡ Some (x, y) → (within ≡ true) × (front ≡ x) × (rest ≡ y)
fits true front rest x y h =
    let same = some_same (front, rest) (x, y) h in
    (refl, ap (λ (p : List ℕ × List ℕ). p.0) same, ap (λ (p : List ℕ × List ℕ). p.1) same)
fits false front rest x y h = absurd (cc h)

-- the parts of a word stand around the byte that it is cut at
cut_only : (c : ℕ) (word x y : List ℕ) → cut_in c word ≡ Some (x, y) → word ≡ x ++ c ∷ y
cut_only c word x y h =
    let f = fits (nat_lt (position_or_len (λ b. b == c) word) (length word)) (before_first (λ b. b == c) word) (after_first (λ b. b == c) word) x y h in
    cut_at c word (ltb-true (position_or_len (λ b. b == c) word) (length word) f.0) ∙ rw (f.1, f.2) refl

dots : (w x y z : List ℕ) → w ++ 0x2e ∷ (x ++ 0x2e ∷ (y ++ 0x2e ∷ z)) ≡ w ++ codes "." ++ x ++ codes "." ++ y ++ codes "." ++ z
dots w x y z = grind (arith, common_steps)

dotted : (word front1 rest1 front2 rest2 front3 rest3 : List ℕ) (a b c d : ℕ)
    → word ≡ front1 ++ 0x2e ∷ rest1 → rest1 ≡ front2 ++ 0x2e ∷ rest2 → rest2 ≡ front3 ++ 0x2e ∷ rest3
    → front1 ≡ decimal a → front2 ≡ decimal b → front3 ≡ decimal c → rest3 ≡ decimal d
    → word ≡ dotted_text a b c d
dotted word front1 rest1 front2 rest2 front3 rest3 a b c d e1 e2 e3 f1 f2 f3 f4 =
    rw (e1, e2, e3, f1, f2, f3, f4) (dots (decimal a) (decimal b) (decimal c) (decimal d))

-- an address is read only of its own text
pub only_address : (word octets : List ℕ) → address_in word ≡ Some octets → word ≡ ipv4_text octets
only_address word octets h =
    let one = bind_some (cut_in 0x2e word) _ octets h in
    let two = bind_some (cut_in 0x2e one.0.1) _ octets one.2 in
    let three = bind_some (cut_in 0x2e two.0.1) _ octets two.2 in
    let a = bind_some (number_in (2 ^ 8) one.0.0) _ octets three.2 in
    let b = bind_some (number_in (2 ^ 8) two.0.0) _ octets a.2 in
    let c = bind_some (number_in (2 ^ 8) three.0.0) _ octets b.2 in
    let d = bind_some (number_in (2 ^ 8) three.0.1) _ octets c.2 in
    let is : a.0 ∷ b.0 ∷ c.0 ∷ d.0 ∷ [] ≡ octets = cc d.2 in
    let low : 2 ^ 8 ≤ 2 ^ 64 = omega arith in
    dotted word one.0.0 one.0.1 two.0.0 two.0.1 three.0.0 three.0.1 a.0 b.0 c.0 d.0
    (cut_only 0x2e word one.0.0 one.0.1 one.1) (cut_only 0x2e one.0.1 two.0.0 two.0.1 two.1) (cut_only 0x2e two.0.1 three.0.0 three.0.1 three.1)
    (only_decimal (2 ^ 8) a.0 one.0.0 low a.1).0 (only_decimal (2 ^ 8) b.0 two.0.0 low b.1).0 (only_decimal (2 ^ 8) c.0 three.0.0 low c.1).0
    (only_decimal (2 ^ 8) d.0 three.0.1 low d.1).0
    ∙ ap ipv4_text is

colon : (x y : List ℕ) → x ++ 0x3a ∷ y ≡ x ++ codes ":" ++ y
colon x y = grind (arith, common_steps)

around : (word front rest : List ℕ) (e : SocketAddrV4) (octets : List ℕ) (port : ℕ) → word ≡ front ++ 0x3a ∷ rest
    → front ≡ ipv4_text octets → rest ≡ decimal port → record { ip = record { octets = octets }; port = port } ≡ e → word ≡ socket_v4_text e
around word front rest e octets port cut f g is =
    rw (cut, f, g) (colon (ipv4_text octets) (decimal port)) ∙ ap socket_v4_text is

-- and an endpoint
pub only_endpoint : (word : List ℕ) (e : SocketAddrV4) → endpoint_in word ≡ Some e → word ≡ socket_v4_text e
only_endpoint word e h =
    let parts = bind_some (cut_in 0x3a word) _ e h in
    let ip = bind_some (address_in parts.0.0) _ e parts.2 in
    let port = bind_some (number_in (2 ^ 16) parts.0.1) _ e ip.2 in
    around word parts.0.0 parts.0.1 e ip.0 port.0 (cut_only 0x3a word parts.0.0 parts.0.1 parts.1)
    (only_address parts.0.0 ip.0 ip.1) (only_decimal (2 ^ 16) port.0 parts.0.1 (omega arith) port.1).0 (cc port.2)

-- ---- each text

-- a text without a byte
abbrev Lacks : ℕ → List ℕ → Type 0
Lacks c text = list_any (λ b. b == c) text ≡ false

lacking : (c b : ℕ) (text : List ℕ) (same : Bool) → (b == c) ≡ same → Lacks c (b ∷ text) → ((b == c) ≡ false) × Lacks c text
lacking c b text true is h = absurd (let none : ((b == c) || list_any (λ b. b == c) text) ≡ false = h in cc (rw is at none))
lacking c b text false is h = (is, (let none : ((b == c) || list_any (λ b. b == c) text) ≡ false = h in rw is at none))

first_at : (c : ℕ) (x y : List ℕ) → Lacks c x → position_or_len (λ b. b == c) (x ++ c ∷ y) ≡ length x
first_at c [] y h = rw (eq-eqb c c refl) refl
first_at c (b ∷ x) y h =
    let p = lacking c b x (b == c) refl h in
    let more : 1 + length x ≡ suc (length x) = omega arith in
    rw p.0 (ap (λ n. 1 + n) (first_at c x y p.1) ∙ more)

take_front : (x y : List ℕ) → take (length x) (x ++ y) ≡ x
take_front [] y = refl
take_front (b ∷ x) y = ap (λ t. b ∷ t) (take_front x y)

drop_front : (c : ℕ) (x y : List ℕ) → drop (length x + 1) (x ++ c ∷ y) ≡ y
drop_front c [] y = refl
drop_front c (b ∷ x) y = let e : length (b ∷ x) + 1 ≡ suc (length x + 1) = omega arith in rw e (drop_front c x y)

cut_front : (c : ℕ) (x y : List ℕ) → Lacks c x → cut_in c (x ++ c ∷ y) ≡ Some (x, y)
cut_front c x y h =
    let within : length x < length (x ++ c ∷ y) = omega (arith, length-append x (c ∷ y)) in
    rw (first_at c x y h, lt-ltb (length x) (length (x ++ c ∷ y)) within, take_front x (c ∷ y), drop_front c x y) refl

other_byte : (c b : ℕ) (same : Bool) → (b == c) ≡ same → is_digit c ≡ false → is_digit b ≡ true → (b == c) ≡ false
other_byte c b true is no_digit digit = absurd (let e = sym (ap is_digit (eqb-true b c is)) in cc (sym no_digit ∙ e ∙ digit))
other_byte c b false is no_digit digit = is

digits_lack : (c : ℕ) (text : List ℕ) → is_digit c ≡ false → list_all is_digit text ≡ true → Lacks c text
digits_lack c [] no_digit h = refl
digits_lack c (b ∷ text) no_digit h =
    let p = and_parts (is_digit b) (list_all is_digit text) h in
    rw (other_byte c b (b == c) refl no_digit p.0) (digits_lack c text no_digit p.1)

number_lacks : (c n : ℕ) → is_digit c ≡ false → n < 2 ^ 64 → Lacks c (decimal n)
number_lacks c n no_digit small = digits_lack c (decimal n) no_digit (decimal_digits n small)

each_address : (a b c d : ℕ) → a < 2 ^ 8 → b < 2 ^ 8 → c < 2 ^ 8 → d < 2 ^ 8
    → address_in (decimal a ++ 0x2e ∷ (decimal b ++ 0x2e ∷ (decimal c ++ 0x2e ∷ decimal d))) ≡ Some (a ∷ b ∷ c ∷ d ∷ [])
each_address a b c d la lb lc ld =
    let low : 2 ^ 8 ≤ 2 ^ 64 = omega arith in
    rw (
      cut_front 0x2e (decimal a) (decimal b ++ 0x2e ∷ (decimal c ++ 0x2e ∷ decimal d)) (number_lacks 0x2e a refl (omega (arith, la, low))),
      cut_front 0x2e (decimal b) (decimal c ++ 0x2e ∷ decimal d) (number_lacks 0x2e b refl (omega (arith, lb, low))),
      cut_front 0x2e (decimal c) (decimal d) (number_lacks 0x2e c refl (omega (arith, lc, low))),
      each_decimal (2 ^ 8) a la low,
      each_decimal (2 ^ 8) b lb low,
      each_decimal (2 ^ 8) c lc low,
      each_decimal (2 ^ 8) d ld low,
    ) refl

more_lacks : (n : ℕ) (rest : List ℕ) → n < 2 ^ 64 → Lacks 0x3a rest → Lacks 0x3a (decimal n ++ 0x2e ∷ rest)
more_lacks n rest small h = list_any-append (λ b. b == 0x3a) (decimal n) (0x2e ∷ rest) ∙ rw (number_lacks 0x3a n refl small, h) refl

-- each endpoint is read of its text
pub each_endpoint : (a b c d port : ℕ) → a < 2 ^ 8 → b < 2 ^ 8 → c < 2 ^ 8 → d < 2 ^ 8 → port < 2 ^ 16
    → let endpoint : SocketAddrV4 = record { ip = record { octets = a ∷ b ∷ c ∷ d ∷ [] }; port = port } in
    endpoint_in (socket_v4_text endpoint) ≡ Some endpoint
each_endpoint a b c d port la lb lc ld lp =
    let low : 2 ^ 8 ≤ 2 ^ 64 = omega arith in
    let text : List ℕ = decimal a ++ 0x2e ∷ (decimal b ++ 0x2e ∷ (decimal c ++ 0x2e ∷ decimal d)) in
    let spelled : socket_v4_text (record { ip = record { octets = a ∷ b ∷ c ∷ d ∷ [] }; port = port }) ≡ text ++ 0x3a ∷ decimal port =
    sym (rw (dots (decimal a) (decimal b) (decimal c) (decimal d)) (colon (ipv4_text (a ∷ b ∷ c ∷ d ∷ [])) (decimal port))) in
    let lacks = more_lacks a (decimal b ++ 0x2e ∷ (decimal c ++ 0x2e ∷ decimal d)) (omega (arith, la, low))
    (more_lacks b (decimal c ++ 0x2e ∷ decimal d) (omega (arith, lb, low))
    (more_lacks c (decimal d) (omega (arith, lc, low)) (number_lacks 0x3a d refl (omega (arith, ld, low))))) in
    rw (
      spelled,
      cut_front 0x3a text (decimal port) lacks,
      each_address a b c d la lb lc ld,
      each_decimal (2 ^ 16) port lp (omega arith),
    ) refl
