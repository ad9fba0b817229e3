-- Tags as numbers: what was written is read again, and each number is that of one tag.
use Rattle.std.proofs.Common.{◌≡◌, inl, inr, ℕ, zero, suc, ◌+◌, ◌*◌, ◌/◌, ◌%◌, ◌^◌, ◌<◌, ◌≤◌, Bool, true, false, refl, ap, ◌∙◌, arith}
use Rattle.std.proofs.lemmas.Bool.{cases_lt}
use Rattle.someip_payload_values.specs.declared.number.Size.TheVariants.{S8, S16, S32, S64}
use Rattle.someip_payload_values.specs.declared.shape.Width.TheVariants.{W8, W16, W32}
use Rattle.someip_payload_values.specs.declared.tag.WireType.{WireType}
use Rattle.someip_payload_values.specs.declared.tag.WireType.TheVariants.{Basic, OwnLength, Length}
use Rattle.someip_payload_values.specs.declared.tag.Tag.{Tag}
use Rattle.someip_payload_values.specs.Numbers.{bit_of}
use Rattle.someip_payload_values.specs.Tags.{wire_type_number, wire_type_in, tag_number, tag_in}

type_below : (t : WireType) → wire_type_number t < 8
type_below (Basic S8) = omega arith
type_below (Basic S16) = omega arith
type_below (Basic S32) = omega arith
type_below (Basic S64) = omega arith
type_below OwnLength = omega arith
type_below (Length W8) = omega arith
type_below (Length W16) = omega arith
type_below (Length W32) = omega arith

type_again : (t : WireType) → wire_type_in (wire_type_number t) ≡ t
type_again (Basic S8) = refl
type_again (Basic S16) = refl
type_again (Basic S32) = refl
type_again (Basic S64) = refl
type_again OwnLength = refl
type_again (Length W8) = refl
type_again (Length W16) = refl
type_again (Length W32) = refl

type_is : (k : ℕ) → k < 8 → wire_type_number (wire_type_in k) ≡ k
type_is zero lt = refl
type_is (suc zero) lt = refl
type_is (suc (suc zero)) lt = refl
type_is (suc (suc (suc zero))) lt = refl
type_is (suc (suc (suc (suc zero)))) lt = refl
type_is (suc (suc (suc (suc (suc zero))))) lt = refl
type_is (suc (suc (suc (suc (suc (suc zero)))))) lt = refl
type_is (suc (suc (suc (suc (suc (suc (suc zero))))))) lt = refl
type_is (suc (suc (suc (suc (suc (suc (suc (suc k)))))))) lt = absurd (omega arith)

bit_below : (b : Bool) → bit_of b ≤ 1
bit_below true = omega arith
bit_below false = omega arith

pub tag_below : (r : Bool) (t : WireType) (id : ℕ) → id < 2 ^ 12 → tag_number r t id < 2 ^ 16
tag_below r t id lt = omega (arith, bit_below r, type_below t)

type_part : (b k id : ℕ) → b ≤ 1 → k < 8 → id < 2 ^ 12 → (b * 2 ^ 15 + (k * 2 ^ 12 + id)) / 2 ^ 12 % 8 ≡ k
type_part b k id b1 k8 lt = omega arith

id_part : (b k id : ℕ) → id < 2 ^ 12 → (b * 2 ^ 15 + (k * 2 ^ 12 + id)) % 2 ^ 12 ≡ id
id_part b k id lt = omega arith

-- what a tag says is what was written
pub tag_says : (r : Bool) (t : WireType) (id : ℕ) → id < 2 ^ 12 → tag_in (tag_number r t id) ≡ record { wire_type = t; id = id }
tag_says r t id lt =
    let k = type_part (bit_of r) (wire_type_number t) id (bit_below r) (type_below t) lt in
    let is : wire_type_in (tag_number r t id / 2 ^ 12 % 8) ≡ t = ap wire_type_in k ∙ type_again t in
    ap (λ (x : WireType). let y : Tag = record { wire_type = x; id = tag_number r t id % 2 ^ 12 } in y) is
    ∙ ap (λ (x : ℕ). let y : Tag = record { wire_type = t; id = x } in y) (id_part (bit_of r) (wire_type_number t) id lt)

number_is : (b k n : ℕ) → k ≡ n / 2 ^ 12 % 8 → n < 2 ^ 16 → b ≡ n / 2 ^ 15 → b * 2 ^ 15 + (k * 2 ^ 12 + n % 2 ^ 12) ≡ n
number_is b k n is lt at = omega arith

-- each number is that of what it says, with its highest bit as the reserved one
pub tag_is : (n : ℕ) → n < 2 ^ 16 → (r : Bool) × (tag_number r (tag_in n).wire_type (tag_in n).id ≡ n) × ((tag_in n).id < 2 ^ 12)
tag_is n lt =
    let k : wire_type_number (tag_in n).wire_type ≡ n / 2 ^ 12 % 8 = type_is (n / 2 ^ 12 % 8) (omega arith) in
    elim (cases_lt n (2 ^ 15)) [
      | inl small ↦ (false, number_is 0 (wire_type_number (tag_in n).wire_type) n k lt (omega arith), omega arith)
      | inr large ↦ (true, number_is 1 (wire_type_number (tag_in n).wire_type) n k lt (omega arith), omega arith)
    ]
