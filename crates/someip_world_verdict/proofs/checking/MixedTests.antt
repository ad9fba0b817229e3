-- What the book's test for mixed segments says.
use Rattle.std.proofs.Common.{◌≡◌, ◌≢◌, ◌<◌, ℕ, ◌+◌, Bool, true, false, not, ◌&&◌, eqb, nat_lt, Option, None, Some, refl}
use Rattle.std.specs.FinMap as finite
use Rattle.std.specs.Option.{option_map}
use Rattle.std.proofs.lemmas.Bool.{eq-eqb, eqb-true, lt-ltb, ltb-true}
use Rattle.someip_reassembly.specs.declared.key.ReassemblyKey.{ReassemblyKey}
use Rattle.someip_world_verdict.specs.Books.{LifeKept, arrival_at, is_mixed}
use Rattle.someip_world_verdict.specs.Streams.{stream_of}
use Rattle.someip_world_verdict.specs.declared.life.Arrival.{Arrival}

-- the segment that came last has another payload than this one, and came less than the timeout ago
pub record IsMixedWith (timeout now : ℕ) (arrival : Arrival) (payload : ℕ) : Type 0 where
  pub other : arrival.payload ≢ payload
  pub recent : now < arrival.moment + timeout

module _ (timeout now : ℕ) (arrival : Arrival) (payload : ℕ) where
  -- by whether the payloads differ
  differs_from : (b : Bool) → eqb arrival.payload payload ≡ b → (not b && nat_lt now (arrival.moment + timeout)) ≡ true → IsMixedWith timeout now arrival payload
  differs_from true same is = absurd cc
  differs_from false same is = record {
    other = λ e. let equal = eq-eqb arrival.payload payload e in absurd cc;
    recent = ltb-true now (arrival.moment + timeout) is;
  }

  differs_so : (b : Bool) → eqb arrival.payload payload ≡ b → IsMixedWith timeout now arrival payload → (not b && nat_lt now (arrival.moment + timeout)) ≡ true
  differs_so true same mixed = absurd (mixed.other (eqb-true arrival.payload payload same))
  differs_so false same mixed = lt-ltb now (arrival.moment + timeout) mixed.recent

  -- where that is so, the test passes
  pub mixed_passes : IsMixedWith timeout now arrival payload → is_mixed timeout now (Some arrival) (Some payload) ≡ true
  mixed_passes mixed = differs_so (eqb arrival.payload payload) refl mixed

-- something goes in segments under a reassembly key, if it does at all, and a segment of another payload came last under it
pub record HasMixed (timeout now : ℕ) (life : LifeKept) (payload : Option ℕ) (o : Option ReassemblyKey) : Type 0 where
  pub key : ReassemblyKey
  pub is : o ≡ Some key
  pub arrival : Arrival
  pub came : finite.get life.arrivals (stream_of key) ≡ Some arrival
  pub number : ℕ
  pub numbered : payload ≡ Some number
  pub mixed : IsMixedWith timeout now arrival number

module _ (timeout now : ℕ) (life : LifeKept) where
  -- it passes only at a segment under the key, and for a payload
  passed_at : (key : ReassemblyKey) (came : Option Arrival) → finite.get life.arrivals (stream_of key) ≡ came → (payload : Option ℕ) → is_mixed timeout now came payload ≡ true
      → HasMixed timeout now life payload (Some key)
  passed_at key None at payload is = absurd cc
  passed_at key (Some arrival) at None is = absurd cc
  passed_at key (Some arrival) at (Some number) is = record {
    key = key;
    is = refl;
    arrival = arrival;
    came = at;
    number = number;
    numbered = refl;
    mixed = differs_from timeout now arrival number (eqb arrival.payload number) refl is;
  }

  -- the test passes only there
  pub mixed_passed : (payload : Option ℕ) (o : Option ReassemblyKey) → is_mixed timeout now (arrival_at life (option_map stream_of o)) payload ≡ true
      → HasMixed timeout now life payload o
  mixed_passed payload None is = absurd cc
  mixed_passed payload (Some key) is = passed_at key (finite.get life.arrivals (stream_of key)) refl payload is
