-- Each text of a value is read as it: texts between quotes.
use Rattle.std.proofs.Common.{◌≡◌, ℕ, zero, suc, ◌+◌, ◌<◌, ◌≤◌, ◌⊎◌, inl, inr, Bool, true, false, ◌||◌, cond, eqb, List, [], ◌∷◌, ◌++◌, length, codes, Some, None, refl, sym, ap, subst, ◌∙◌, append_assoc, append-nil, arith, eqb-true}
use Rattle.std.specs.List.{flat_map}
use Rattle.std.proofs.lemmas.Bool.Decides.{nat_tests}
use Rattle.std.proofs.lemmas.List.{length-append}
use Rattle.someip_payload_values.specs.Data.{Data, phrase}
use Rattle.someip_payload.specs.ReadValues.{token, past_token, after, byte_of, escape_in, byte_in, unquoted, as_text, string_in}
use Rattle.someip_payload.specs.ValueReading.{escaped_byte, hex_text, IsTextOfPhrase, is_control}
use Rattle.someip_payload.proofs.ValueAgain.{Ends, Again}

-- ---- texts

control_again : (b : ℕ) (rest : List ℕ) → b < 32 → (after 34 (escaped_byte b ++ rest) ≡ None) × (byte_in (escaped_byte b ++ rest) ≡ Some (b, rest))
unfolding after byte_in escape_in byte_of
control_again zero rest lt = (refl, refl)
control_again (suc zero) rest lt = (refl, refl)
control_again (suc (suc zero)) rest lt = (refl, refl)
control_again (suc (suc (suc zero))) rest lt = (refl, refl)
control_again (suc (suc (suc (suc zero)))) rest lt = (refl, refl)
control_again (suc (suc (suc (suc (suc zero))))) rest lt = (refl, refl)
control_again (suc (suc (suc (suc (suc (suc zero)))))) rest lt = (refl, refl)
control_again (suc (suc (suc (suc (suc (suc (suc zero))))))) rest lt = (refl, refl)
control_again (suc (suc (suc (suc (suc (suc (suc (suc zero)))))))) rest lt = (refl, refl)
control_again (suc (suc (suc (suc (suc (suc (suc (suc (suc zero))))))))) rest lt = (refl, refl)
control_again (suc (suc (suc (suc (suc (suc (suc (suc (suc (suc zero)))))))))) rest lt = (refl, refl)
control_again (suc (suc (suc (suc (suc (suc (suc (suc (suc (suc (suc zero))))))))))) rest lt = (refl, refl)
control_again (suc (suc (suc (suc (suc (suc (suc (suc (suc (suc (suc (suc zero)))))))))))) rest lt = (refl, refl)
control_again (suc (suc (suc (suc (suc (suc (suc (suc (suc (suc (suc (suc (suc zero))))))))))))) rest lt = (refl, refl)
control_again (suc (suc (suc (suc (suc (suc (suc (suc (suc (suc (suc (suc (suc (suc zero)))))))))))))) rest lt = (refl, refl)
control_again (suc (suc (suc (suc (suc (suc (suc (suc (suc (suc (suc (suc (suc (suc (suc zero))))))))))))))) rest lt = (refl, refl)
control_again (suc (suc (suc (suc (suc (suc (suc (suc (suc (suc (suc (suc (suc (suc (suc (suc zero)))))))))))))))) rest lt = (refl, refl)
control_again (suc (suc (suc (suc (suc (suc (suc (suc (suc (suc (suc (suc (suc (suc (suc (suc (suc zero))))))))))))))))) rest lt = (refl, refl)
control_again (suc (suc (suc (suc (suc (suc (suc (suc (suc (suc (suc (suc (suc (suc (suc (suc (suc (suc zero)))))))))))))))))) rest lt = (refl, refl)
control_again (suc (suc (suc (suc (suc (suc (suc (suc (suc (suc (suc (suc (suc (suc (suc (suc (suc (suc (suc zero))))))))))))))))))) rest lt = (refl, refl)
control_again (suc (suc (suc (suc (suc (suc (suc (suc (suc (suc (suc (suc (suc (suc (suc (suc (suc (suc (suc (suc zero)))))))))))))))))))) rest lt = (refl, refl)
control_again (suc (suc (suc (suc (suc (suc (suc (suc (suc (suc (suc (suc (suc (suc (suc (suc (suc (suc (suc (suc (suc zero))))))))))))))))))))) rest lt = (refl, refl)
control_again (suc (suc (suc (suc (suc (suc (suc (suc (suc (suc (suc (suc (suc (suc (suc (suc (suc (suc (suc (suc (suc (suc zero)))))))))))))))))))))) rest lt = (refl, refl)
control_again (suc (suc (suc (suc (suc (suc (suc (suc (suc (suc (suc (suc (suc (suc (suc (suc (suc (suc (suc (suc (suc (suc (suc zero))))))))))))))))))))))) rest lt = (refl, refl)
control_again (suc (suc (suc (suc (suc (suc (suc (suc (suc (suc (suc (suc (suc (suc (suc (suc (suc (suc (suc (suc (suc (suc (suc (suc zero)))))))))))))))))))))))) rest lt = (refl, refl)
control_again (suc (suc (suc (suc (suc (suc (suc (suc (suc (suc (suc (suc (suc (suc (suc (suc (suc (suc (suc (suc (suc (suc (suc (suc (suc zero))))))))))))))))))))))))) rest lt = (refl, refl)
control_again (suc (suc (suc (suc (suc (suc (suc (suc (suc (suc (suc (suc (suc (suc (suc (suc (suc (suc (suc (suc (suc (suc (suc (suc (suc (suc zero)))))))))))))))))))))))))) rest lt = (refl, refl)
control_again (suc (suc (suc (suc (suc (suc (suc (suc (suc (suc (suc (suc (suc (suc (suc (suc (suc (suc (suc (suc (suc (suc (suc (suc (suc (suc (suc zero))))))))))))))))))))))))))) rest lt = (refl, refl)
control_again (suc (suc (suc (suc (suc (suc (suc (suc (suc (suc (suc (suc (suc (suc (suc (suc (suc (suc (suc (suc (suc (suc (suc (suc (suc (suc (suc (suc zero)))))))))))))))))))))))))))) rest lt = (refl, refl)
control_again (suc (suc (suc (suc (suc (suc (suc (suc (suc (suc (suc (suc (suc (suc (suc (suc (suc (suc (suc (suc (suc (suc (suc (suc (suc (suc (suc (suc (suc zero))))))))))))))))))))))))))))) rest lt = (refl, refl)
control_again (suc (suc (suc (suc (suc (suc (suc (suc (suc (suc (suc (suc (suc (suc (suc (suc (suc (suc (suc (suc (suc (suc (suc (suc (suc (suc (suc (suc (suc (suc zero)))))))))))))))))))))))))))))) rest lt = (refl, refl)
control_again (suc (suc (suc (suc (suc (suc (suc (suc (suc (suc (suc (suc (suc (suc (suc (suc (suc (suc (suc (suc (suc (suc (suc (suc (suc (suc (suc (suc (suc (suc (suc zero))))))))))))))))))))))))))))))) rest lt = (refl, refl)
control_again (suc (suc (suc (suc (suc (suc (suc (suc (suc (suc (suc (suc (suc (suc (suc (suc (suc (suc (suc (suc (suc (suc (suc (suc (suc (suc (suc (suc (suc (suc (suc (suc b)))))))))))))))))))))))))))))))) rest lt = absurd (omega arith)

control_is : (b : ℕ) → is_control b ≡ true → (b < 32) ⊎ (b ≡ 127)
control_is b is = grind (arith, nat_tests, is)

escaped_again : (b : ℕ) (rest : List ℕ) (quote back control : Bool) → eqb b 34 ≡ quote → eqb b 92 ≡ back → is_control b ≡ control
    → (after 34 (escaped_byte b ++ rest) ≡ None) × (byte_in (escaped_byte b ++ rest) ≡ Some (b, rest))
unfolding after byte_in escape_in byte_of
escaped_again b rest true back control isq isb isc = subst (λ n. (after 34 (escaped_byte n ++ rest) ≡ None) × (byte_in (escaped_byte n ++ rest) ≡ Some (n, rest))) (sym (eqb-true b 34 isq)) (refl, refl)
escaped_again b rest false true control isq isb isc = subst (λ n. (after 34 (escaped_byte n ++ rest) ≡ None) × (byte_in (escaped_byte n ++ rest) ≡ Some (n, rest))) (sym (eqb-true b 92 isb)) (refl, refl)
escaped_again b rest false false true isq isb isc = elim (control_is b isc) [
  | inl small ↦ control_again b rest small
  | inr same ↦ subst (λ n. (after 34 (escaped_byte n ++ rest) ≡ None) × (byte_in (escaped_byte n ++ rest) ≡ Some (n, rest))) (sym same) (refl, refl)
]
escaped_again b rest false false false isq isb isc =
    let plain : escaped_byte b ≡ b ∷ [] = rw (isq, isb, isc) refl in
    rw plain (rw isq refl, rw (isb, isc) refl)

some_escaped : (b : ℕ) (x y : Bool) → 0 < length (cond x (92 ∷ b ∷ []) (cond y (codes "\\u{" ++ (hex_text b ++ codes "}")) (b ∷ [])))
some_escaped b true y = omega arith
some_escaped b false true = omega arith
some_escaped b false false = omega arith

long_enough : (s rest : List ℕ) → length s ≤ length (flat_map escaped_byte s ++ rest)
long_enough [] rest = omega arith
long_enough (b ∷ bs) rest =
    let one = some_escaped b (eqb b 34 || eqb b 92) (is_control b) in
    let others = long_enough bs rest in
    let whole : length ((escaped_byte b ++ flat_map escaped_byte bs) ++ rest) ≡ length (escaped_byte b) + length (flat_map escaped_byte bs ++ rest) = ap length (append_assoc (escaped_byte b) (flat_map escaped_byte bs) rest) ∙ length-append (escaped_byte b) (flat_map escaped_byte bs ++ rest) in
    omega (arith, one, others, whole)

more : (left b : ℕ) (bs behind rest : List ℕ) → after 34 (escaped_byte b ++ behind) ≡ None → byte_in (escaped_byte b ++ behind) ≡ Some (b, behind) → unquoted left behind ≡ Some (bs, rest) → unquoted (suc left) (escaped_byte b ++ behind) ≡ Some (b ∷ bs, rest)
unfolding unquoted
more left b bs behind rest none read others = rw (none, read, others) refl

unquoted_again : (left : ℕ) (s rest : List ℕ) → length s < left → unquoted left (flat_map escaped_byte s ++ (34 ∷ rest)) ≡ Some (s, rest)
unfolding unquoted after
unquoted_again zero s rest lt = absurd (omega arith)
unquoted_again (suc left) [] rest lt = refl
unquoted_again (suc left) (b ∷ bs) rest lt =
    let behind : List ℕ = flat_map escaped_byte bs ++ (34 ∷ rest) in
    let parts : (escaped_byte b ++ flat_map escaped_byte bs) ++ (34 ∷ rest) ≡ escaped_byte b ++ behind = append_assoc (escaped_byte b) (flat_map escaped_byte bs) (34 ∷ rest) in
    let first = escaped_again b behind (eqb b 34) (eqb b 92) (is_control b) refl refl refl in
    ap (unquoted (suc left)) parts ∙ more left b bs behind rest first.0 first.1 (unquoted_again left bs rest (omega (arith, lt)))

pub string_again : (d : Data) (t rest : List ℕ) → IsTextOfPhrase d t → Ends rest → Again string_in d t rest
unfolding string_in as_text token past_token after
string_again d t rest own ends = subst (λ (x : Data). Again string_in x t rest) (sym own.1) (subst (λ (x : List ℕ). Again string_in (phrase own.0) x rest) (sym own.3) (
    let parts : (flat_map escaped_byte own.0 ++ codes "\"") ++ rest ≡ flat_map escaped_byte own.0 ++ (34 ∷ rest) = append_assoc (flat_map escaped_byte own.0) (codes "\"") rest in
    let long : length own.0 < length (flat_map escaped_byte own.0 ++ (34 ∷ rest)) = omega (arith, long_enough own.0 [], ap length (append-nil (flat_map escaped_byte own.0)), length-append (flat_map escaped_byte own.0) (34 ∷ rest)) in
    record {
      value = rw (parts, unquoted_again (length (flat_map escaped_byte own.0 ++ (34 ∷ rest))) own.0 rest long, own.2) refl;
      no_name = refl;
      no_dash = refl;
      no_bracket = refl;
    }))
