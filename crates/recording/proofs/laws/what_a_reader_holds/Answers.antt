use Rattle.std.proofs.Common.{[], ◌∷◌, refl, lit<, lit≤, arith}
use Rattle.recording.specs.Examples.{cut_packet}
use Rattle.recording.proofs.laws.what_a_reader_holds.Goals as goal

pub returns-clause-spelled : goal.returns-clause-spelled
returns-clause-spelled c = record {
  free = 2 ∷ 0 ∷ 4 ∷ 0 ∷ 0 ∷ 0 ∷ 0 ∷ 0 ∷ 0 ∷ 0 ∷ 0 ∷ 0 ∷ 0xff ∷ 0xff ∷ 0 ∷ 0 ∷ [];
  upper = 0;
  rest = cut_packet;
  is = refl;
  free_len = refl;
  upper_fits = lit< tt;
  link_fits = lit< tt;
  packets_fit = (record { seconds = lit< tt; fraction = lit< tt; captured = lit< tt; original = lit< tt }, tt);
  ends = ((λ none. cc), refl);
}

pub returns-clause-cut : goal.returns-clause-cut
returns-clause-cut c = record { packets_held = (lit≤ tt, tt); rest_held = refl }

pub returns-clause-too_long : goal.returns-clause-too_long
returns-clause-too_long c = λ held. let short = held.rest_held in cc

pub returns-clause-long : goal.returns-clause-long
returns-clause-long c = record { packets_held = tt; rest_held = refl }

pub returns-clause-blocks : goal.returns-clause-blocks
returns-clause-blocks c = (
  record {
    rest = [];
    is = refl;
    begins = refl;
    long = lit≤ tt;
    blocks_fit = (
      record { number = lit< tt; len = lit< tt; padded = refl; told = tt },
      (record { number = lit< tt; len = lit< tt; padded = refl; told = λ same. omega (arith, same) }, tt),
    );
    ends = refl;
  },
  record { blocks_held = (lit≤ tt, (lit≤ tt, tt)); interfaces_held = (lit≤ tt, (lit≤ tt, tt)); rest_held = refl },
)

pub returns-clause-most : goal.returns-clause-most
returns-clause-most c = (lit≤ tt, tt)

pub returns-clause-more : goal.returns-clause-more
returns-clause-more c = λ held. omega (arith, held.0)

pub returns-clause-next : goal.returns-clause-next
returns-clause-next c = (lit≤ tt, (lit≤ tt, tt))
