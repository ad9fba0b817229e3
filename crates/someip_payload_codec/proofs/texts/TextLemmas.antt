-- Texts in either encoding: what is read is spelled so, what is spelled so is read, and what fails.
use Rattle.std.proofs.Common.{◌≡◌, inl, inr, ℕ, true, List, [], Ok, Err, refl, sym, append-nil, arith}
use Rattle.std.specs.Str.{chars, IsUtf8, is_utf8}
use Rattle.std.proofs.lemmas.Str.{IsUtf8-from_is_utf8, encodes-chars, scalars-chars}
use Rattle.someip_payload_values.specs.declared.error.PayloadError.{PayloadError}
use Rattle.someip_payload_values.specs.declared.shape.Encoding.{Encoding}
use Rattle.someip_payload_values.specs.declared.shape.Encoding.TheVariants.{Utf8, Utf16}
use Rattle.someip_payload_codec.specs.View.{View}
use Rattle.someip_payload_codec.specs.Texts.{SpellsText}
use Rattle.someip_payload_codec.specs.Reading.{text_at}
use Rattle.someip_payload_values.specs.Writing.{text_body}
use Rattle.someip_payload_codec.specs.Faults.{FaultInText}
use Rattle.someip_payload_codec.proofs.parts.Parts.{IsBytes}
use Rattle.someip_payload_codec.proofs.texts.Utf8Texts.{utf8_took, utf8_again, utf8_failed}
use Rattle.someip_payload_codec.proofs.texts.Utf16Texts.{utf16_took, utf16_again, utf16_failed}

pub text_took : (encoding : Encoding) (place : ℕ) (body s : List ℕ) → IsBytes body → text_at encoding place body ≡ Ok s → SpellsText encoding s body
unfolding text_at
text_took Utf8 place body s fits h = utf8_took place body s h
text_took Utf16 place body s fits h = utf16_took place body s fits h

pub text_again : (encoding : Encoding) (place : ℕ) (body s : List ℕ) → SpellsText encoding s body → text_at encoding place body ≡ Ok s
unfolding text_at
text_again Utf8 place body s spells = utf8_again place body s spells
text_again Utf16 place body s spells = utf16_again place body s spells

no_text : (encoding : Encoding) (place : ℕ) (body : List ℕ) (e : PayloadError) → text_at encoding place body ≡ Err e → (s : List ℕ) → SpellsText encoding s body → ⊥
no_text encoding place body e h s spells = let good : text_at encoding place body ≡ Ok s = text_again encoding place body s spells in absurd cc

pub text_failed : (encoding : Encoding) (place : ℕ) (b : View) (e : PayloadError) → IsBytes b.bytes → text_at encoding place b.bytes ≡ Err e → FaultInText encoding place e b
unfolding text_at
text_failed Utf8 place b e fits h =
    elim (utf8_failed place b.bytes e h) [
      | inl (open_end, same) ↦ inl (λ (front, is). open_end front is, same)
      | inr (ended, same) ↦ inr (ended, no_text Utf8 place b.bytes e h, same)
    ]
text_failed Utf16 place b e fits h =
    elim (utf16_failed place b.bytes e fits h) [
      | inl (open_end, same) ↦ inl (open_end, same)
      | inr (ended, same) ↦ inr (ended, no_text Utf16 place b.bytes e h, same)
    ]

-- what is written is spelled so
pub text_spells : (encoding : Encoding) (s : List ℕ) → is_utf8 s ≡ true → SpellsText encoding s (text_body encoding s)
unfolding text_body
text_spells Utf8 s good = (IsUtf8-from_is_utf8 s good, inl refl)
text_spells Utf16 s good =
    let is : IsUtf8 s = IsUtf8-from_is_utf8 s good in
    (true, chars s, [], scalars-chars s is, sym (encodes-chars s is), omega arith, sym (append-nil _))
