-- What is read of the text of an address.
use Rattle.std.proofs.Common.{◌≡◌, ℕ, List, [], ◌∷◌, Option, Some, None, refl, sym, ◌∙◌, append-nil, subst, arith}
use Rattle.std.specs.Option.{option_and_then}
use Rattle.std.specs.Net.Grammar.{IsDotted, IsIpv4Text}
use Rattle.std.specs.Net.Reader.{read_ipv4}
use Rattle.std.specs.Net.Addr.{ipv4_octets}
use Rattle.std.proofs.NetLemmas.Ipv4.{read_ipv4_complete, read_ipv4_sound}
use Rattle.std.proofs.NetLemmas.Numbers.{NoDigit}
use Rattle.std.specs.declared.net.ipv4_addr.Ipv4Addr.{Ipv4Addr}
use Rattle.someip_world_setup_keys.specs.Keys.{address_of, whole_address}

pub reads_address : (text : List ℕ) (a : Ipv4Addr) → IsIpv4Text text a → address_of text ≡ Some a
unfolding address_of
reads_address text a dotted =
    let nothing_left : NoDigit 10 [] = omega arith in
    let read : read_ipv4 text ≡ Some (ipv4_octets a, []) = subst (λ t. read_ipv4 t ≡ Some (ipv4_octets a, [])) (append-nil text) (read_ipv4_complete text (ipv4_octets a) [] dotted nothing_left) in
    rw read refl

-- what was read, if all of it was, is an address
none_read : (text : List ℕ) (read : Option (List ℕ × List ℕ)) → read_ipv4 text ≡ read → ((a : Ipv4Addr) → ¬ (IsIpv4Text text a)) → option_and_then whole_address read ≡ None
none_read text None is none = refl
none_read text (Some (octets, c ∷ rest)) is none = refl
none_read text (Some (octets, [])) is none =
    let (front, whole, dotted) = read_ipv4_sound text octets [] is in
    absurd (none (record { octets = octets }) (subst (λ t. IsDotted t octets) (sym (whole ∙ append-nil front)) dotted))

pub reads_none : (text : List ℕ) → ((a : Ipv4Addr) → ¬ (IsIpv4Text text a)) → address_of text ≡ None
unfolding address_of
reads_none text none = none_read text (read_ipv4 text) refl none
