use Rattle.std.proofs.Common.{◌≡◌, ℕ, ◌<◌, true, false, Option, Some, None, Bor, List, [], ◌∷◌, slice_range, sym, ◌∙◌, arith, MatchOption, IfNone}
use Rattle.std.specs.List.{list_all}
use Rattle.std.specs.Str.{is_utf8, IsAscii}
use Rattle.std.proofs.lemmas.Bool.{true≢false, and_parts}
use Rattle.std.proofs.lemmas.Bool.Decides.{nat_tests}
use Rattle.std.proofs.lemmas.Str.{IsUtf8-from_ascii, is_utf8-from_IsUtf8}
use Rattle.std.proofs.lemmas.Str.Ascii.{IsAscii-nil, IsAscii-cons}
use Rattle.someip_payload_values.specs.Check.{is_later}
use Rattle.someipctl_show.proofs.about_types.ReferenceLemmas.{name_parts}
use Rattle.someipctl_show.proofs.types.references.name_between.Goals as goal

later_ascii : (b : ℕ) → is_later b ≡ true → b < 128
later_ascii b is = grind (arith, nat_tests)

all_ascii : (n : List ℕ) → list_all is_later n ≡ true → IsAscii n
all_ascii [] all = IsAscii-nil
all_ascii (b ∷ bs) all =
    let (here, rest) = and_parts (is_later b) (list_all is_later bs) all in
    IsAscii-cons b bs (later_ascii b here) (all_ascii bs rest)

some_text : (P : Bor (List ℕ) → Type 0) (n : List ℕ) (first end : ℕ) (r : Option (Bor (List ℕ))) → list_all is_later n ≡ true → MatchOption r (is_utf8 n ≡ false) P → IfNone r (first ≡ end)
some_text P n first end None all said = absurd (true≢false (sym (is_utf8-from_IsUtf8 n (IsUtf8-from_ascii n (all_ascii n all))) ∙ said))
some_text P n first end (Some t) all said = tt

pub returns-clause-none : goal.returns-clause-none
returns-clause-none c =
    let lt : c.args.first < c.args.end = grind (arith, c.requires.places.0, c.if-first-end.false) in
    let name = name_parts (slice_range c.args.text.now c.args.first c.args.end) (c.requires.name lt) in
    some_text _ (slice_range c.args.text.now c.args.first c.args.end) c.args.first c.args.end c.text_of.result name.0 (rw c.as_bytes.ensures.value at c.text_of.ensures)
