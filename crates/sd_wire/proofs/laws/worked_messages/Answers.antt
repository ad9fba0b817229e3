use Rattle.std.proofs.Common.{◌≡◌, List, [], ◌∷◌, length, take, drop, refl, sym, ap, ◌∙◌, arith, inl, inr}
use Rattle.std.specs.Prelude.{Ok}
use Rattle.std.proofs.lemmas.List.{length-take, length-drop}
use Rattle.sd_wire.specs.declared.option.SdOption.{SdOption}
use Rattle.sd_wire.specs.layout.Spelling.{Runs}
use Rattle.sd_wire.specs.encoding.Writing.{IsNowhere, PlacesEntry, WritesSd}
use Rattle.sd_wire.specs.decoding.Program.{options_within, reading}
use Rattle.sd_wire.specs.Examples.{bytes_from, read_offer, read_bad, two_offers, shared_text, anew_text, offer_entry, endpoint_option, entry_from}
use Rattle.sd_wire.proofs.spelled.FieldLemmas.{IsBytes-literal}
use Rattle.sd_wire.proofs.decoding.SdLemmas.{reading_holds, holds_read}
use Rattle.sd_wire.proofs.encoding.WriteLemmas.{one_text}
use Rattle.sd_wire.proofs.laws.worked_messages.Goals as goal

pub returns-clause-offer : goal.returns-clause-offer
unfolding options_within
returns-clause-offer c = reading_holds (bytes_from 0) read_offer (IsBytes-literal (bytes_from 0) refl) refl

pub returns-clause-bad : goal.returns-clause-bad
unfolding options_within
returns-clause-bad c = reading_holds (bytes_from 1) read_bad (IsBytes-literal (bytes_from 1) refl) refl

pub returns-clause-not_fewer : goal.returns-clause-not_fewer
unfolding options_within
returns-clause-not_fewer c = λ v holds. let read : reading (bytes_from 1) ≡ Ok read_bad = refl in let same = sym (holds_read v (bytes_from 1) holds) ∙ read in cc

runs : Runs
runs = record { index1 = 0; index2 = 0; count1 = 1; count2 = 0 }

nowhere : IsNowhere [] (endpoint_option ∷ [])
nowhere i holds = let none : List SdOption = [] in omega (arith, ap length holds, length-take 1 (drop i none), length-drop i none)

first : PlacesEntry [] offer_entry runs (endpoint_option ∷ [])
unfolding runs
first = record {
  middle = endpoint_option ∷ [];
  first = inr (inr (omega arith, nowhere, refl, refl));
  second = inl (refl, refl, refl);
  count1 = refl;
  count2 = refl;
  fits = record { index1 = omega arith; index2 = omega arith; count1 = omega arith; count2 = omega arith };
}

second : PlacesEntry (endpoint_option ∷ []) offer_entry runs (endpoint_option ∷ [])
unfolding runs
second = record {
  middle = endpoint_option ∷ [];
  first = inr (inl (omega arith, (refl, λ i lt. absurd (omega (arith, lt))), refl));
  second = inl (refl, refl, refl);
  count1 = refl;
  count2 = refl;
  fits = record { index1 = omega arith; index2 = omega arith; count1 = omega arith; count2 = omega arith };
}

shared : WritesSd two_offers shared_text
unfolding runs
shared = record {
  entries = drop 8 (take 40 shared_text);
  pool = endpoint_option ∷ [];
  packs = (runs, endpoint_option ∷ [], entry_from 0, first, refl, (runs, endpoint_option ∷ [], [], second, refl, (refl, refl)));
  is = refl;
  entries_fit = omega arith;
  options_fit = omega arith;
}

pub returns-clause-shared : goal.returns-clause-shared
returns-clause-shared c = shared

pub returns-clause-not_anew : goal.returns-clause-not_anew
returns-clause-not_anew c = λ anew. let same = one_text two_offers shared_text anew_text shared anew in omega (arith, ap length same)
