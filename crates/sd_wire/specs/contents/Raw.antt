-- Options that are kept as they were read (SOME/IP Service Discovery, "Options Format").
use Rattle.std.specs.Prelude.{ℕ, ◌<◌, ◌≤◌, ◌≡◌, ◌^◌, Bool, false, if◌then◌else◌, List, length, Option, Some, None, is_some, ◌||◌, ◌&&◌, ◌==◌, nat_eq}
use Rattle.std.specs.Cmp.Lexicographic.{pointwise}

-- a type and the bytes that the length counts
pub record RawValue : Type 0 where
  pub kind : ℕ
  pub bytes : List ℕ

-- the type is that of an IPv4 endpoint, an IPv4 multicast or an IPv4 SD endpoint option
abbrev pub is_ipv4 : ℕ → Bool
is_ipv4 kind = kind == 0x04 || kind == 0x14 || kind == 0x24

-- the same for IPv6
abbrev pub is_ipv6 : ℕ → Bool
is_ipv6 kind = kind == 0x06 || kind == 0x16 || kind == 0x26

-- what the Length field of an option of the type holds, where the type has a layout
abbrev pub layout_len : ℕ → Option ℕ
layout_len kind =
    if kind == 0x02 then Some 5
    else (if is_ipv4 kind then Some 9
    else (if is_ipv6 kind then Some 21
    else None))

-- the type has a layout
abbrev pub has_layout : ℕ → Bool
has_layout kind = is_some (layout_len kind)

-- a type without a layout, and at least one byte, as many as the Length field can say
pub record IsRaw (kind : ℕ) (bytes : List ℕ) : Type 0 where
  pub unknown : has_layout kind ≡ false
  pub some : 1 ≤ length bytes
  pub fits : length bytes < 2 ^ 16

-- two raw options are the same
abbrev pub raw_eq : RawValue → RawValue → Bool
raw_eq a b = nat_eq a.kind b.kind && pointwise nat_eq a.bytes b.bytes
