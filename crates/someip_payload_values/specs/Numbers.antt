-- Numbers, from the highest byte on where nothing else is said, and bodies after their length.
use Rattle.std.specs.Prelude.{◌≡◌, ℕ, ℤ, pos, negsuc, nat_lt, ◌<◌, ◌^◌, ◌%◌, ◌==◌, Bool, true, false, List, ◌++◌, length}
use Rattle.std.specs.Int.{Width as IntWidth, w8, w16, w32, w64, to_be_bytes, to_le_bytes, byte_len}
use Rattle.someip_payload_values.specs.declared.number.Order.{Order}
use Rattle.someip_payload_values.specs.declared.number.Order.TheVariants.{Big, Little}
use Rattle.someip_payload_values.specs.declared.number.Size.{Size}
use Rattle.someip_payload_values.specs.declared.number.Size.TheVariants.{S8, S16, S32, S64}
use Rattle.someip_payload_values.specs.declared.shape.Width.{Width}
use Rattle.someip_payload_values.specs.declared.shape.Width.TheVariants.{W8, W16, W32}

abbrev pub width_of : Size → IntWidth
width_of S8 = w8
width_of S16 = w16
width_of S32 = w32
width_of S64 = w64

-- one more than the largest number of a size
abbrev pub limit_of : Size → ℕ
limit_of S8 = 2 ^ 8
limit_of S16 = 2 ^ 16
limit_of S32 = 2 ^ 32
limit_of S64 = 2 ^ 64

-- half the numbers of a size are below 0
abbrev pub half_of : Size → ℕ
half_of S8 = 2 ^ 7
half_of S16 = 2 ^ 15
half_of S32 = 2 ^ 31
half_of S64 = 2 ^ 63

-- a signed number is in the range of the size
abbrev pub is_signed : Size → ℤ → Bool
is_signed size (pos n) = nat_lt n (half_of size)
is_signed size (negsuc n) = nat_lt n (half_of size)

abbrev pub size_of : Width → Size
size_of W8 = S8
size_of W16 = S16
size_of W32 = S32

-- how many bytes a length field has
abbrev pub field_len : Width → ℕ
field_len width = byte_len (width_of (size_of width))

-- a number, from its highest byte on
abbrev pub number : Size → ℕ → List ℕ
number size n = to_be_bytes (width_of size) n

-- a number in an order: from its highest byte on, or from its lowest on
abbrev pub number_in : Order → Size → ℕ → List ℕ
number_in Big size n = to_be_bytes (width_of size) n
number_in Little size n = to_le_bytes (width_of size) n

-- the lowest bit
abbrev pub is_odd : ℕ → Bool
is_odd n = n % 2 == 1

abbrev pub bit_of : Bool → ℕ
bit_of true = 1
bit_of false = 0

-- a number in a field of that width
abbrev pub length_bytes : Width → ℕ → List ℕ
length_bytes width n = number (size_of width) n

-- a body after its length
abbrev pub framed : Width → List ℕ → List ℕ
framed width body = length_bytes width (length body) ++ body

-- a body after its length and a type number, in fields of these widths
abbrev pub typed : Width → Width → ℕ → List ℕ → List ℕ
typed width type kind body = length_bytes width (length body) ++ (length_bytes type kind ++ body)

-- bytes of such a kind in the body of a length field
abbrev pub Framed : Width → (List ℕ → Type 0) → List ℕ → Type 0
Framed width P bytes = (body : List ℕ) × (length body < limit_of (size_of width)) × (bytes ≡ framed width body) × P body

-- bytes of such a kind in the body of a length and a type number
abbrev pub Typed : Width → Width → ℕ → (List ℕ → Type 0) → List ℕ → Type 0
Typed width type kind P bytes = (body : List ℕ) × (length body < limit_of (size_of width)) × (bytes ≡ typed width type kind body) × P body

-- bytes of such a kind, and others that are skipped
abbrev pub Begins : (List ℕ → Type 0) → List ℕ → Type 0
Begins P bytes = (front more : List ℕ) × (bytes ≡ front ++ more) × P front
