-- Two ways to send Offers and Finds.
use Rattle.std.specs.Prelude.{refl}
use Rattle.std.proofs.lemmas.Bool.{leb-true}
use Rattle.sd_core.specs.declared.phases.Phases.{Phases}

-- a base delay of 30 ms, three repetitions, and a cyclic delay of a second
abbrev pub three_repetitions : Phases
three_repetitions = record {
  base = 30;
  repetitions = 3;
  cyclic = 1000;
  base_from = leb-true 1 30 refl;
  base_to = leb-true 30 60000 refl;
  repetitions_to = leb-true 3 16 refl;
  cyclic_from = leb-true 1 1000 refl;
  cyclic_to = leb-true 1000 3600000 refl;
}

-- the same without repetitions
abbrev pub no_repetitions : Phases
no_repetitions = record {
  base = 30;
  repetitions = 0;
  cyclic = 1000;
  base_from = leb-true 1 30 refl;
  base_to = leb-true 30 60000 refl;
  repetitions_to = leb-true 0 16 refl;
  cyclic_from = leb-true 1 1000 refl;
  cyclic_to = leb-true 1000 3600000 refl;
}
