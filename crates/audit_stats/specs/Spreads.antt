-- How values spread: how many they are, the least and the greatest, and how many lie in each bucket.
use Rattle.std.specs.Prelude.{Bool, ℕ, zero, suc, ◌+◌, ◌-◌, ◌*◌, ◌/◌, ◌^◌, ◌==◌, min, max, nat_le, nat_lt, if◌then◌else◌, List, [], ◌∷◌, Option, None, Some, refl}
use Rattle.std.specs.Coded.{Coded, code_by, coded×, coded_ℕ}
use Rattle.std.specs.Option.{is_none}
use Rattle.std.specs.FinMap as finite
use Rattle.std.specs.FinMap.{FinMap}
use Rattle.std.specs.Ordering.{nat_cmp}
use Rattle.audit_stats.specs.declared.spread.Summary.{Summary}

-- a counter after some more: at 2^64 - 1 it stays
abbrev pub raised : ℕ → ℕ → ℕ
raised number by = min (number + by) (2 ^ 64 - 1)

-- ---- buckets, named by their low ends

-- the low end of a value's bucket: a value below 64 has a bucket of its own, and the bucket of a greater one begins at
-- twice the low end of its half. The first number says how often it may be halved
unfoldable pub low_within : ℕ → ℕ → ℕ
low_within zero value = value
low_within (suc n) value = if nat_lt value 64 then value else 2 * low_within n (value / 2)

-- so each power of two from 64 on is divided into 32 buckets; what is 2^32 or more counts in the last one
abbrev pub low_end : ℕ → ℕ
low_end value = low_within 26 (min value (2 ^ 32 - 1))

-- how many values lie in each bucket that has one
abbrev pub Buckets : Type 0
Buckets = FinMap nat_cmp ℕ

-- how many lie in a bucket
abbrev pub number_of : Option ℕ → ℕ
number_of None = 0
number_of (Some number) = number

-- ---- spreads

-- how many values there are, the least and the greatest of them, and their buckets
pub record Values : Type 0 where
  pub count : ℕ
  pub least : ℕ
  pub greatest : ℕ
  pub buckets : Buckets

-- there is none yet: the least is the greatest number that there is
abbrev pub no_values : Values
no_values = record { count = 0; least = 2 ^ 64 - 1; greatest = 0; buckets = finite.empty }

-- once one more came
abbrev pub with_value : ℕ → Values → Values
with_value value s = record {
  count = raised s.count 1;
  least = min s.least value;
  greatest = max s.greatest value;
  buckets = finite.insert s.buckets (low_end value) (raised (number_of (finite.get s.buckets (low_end value))) 1);
}

-- a value takes memory where its bucket has none yet
abbrev pub is_first_in_bucket : ℕ → Values → Bool
is_first_in_bucket value s = is_none (finite.get s.buckets (low_end value))

-- the spread of the values of a list
abbrev pub spread_of : List ℕ → Values
spread_of [] = no_values
spread_of (value ∷ values) = with_value value (spread_of values)

-- ---- what is told of a spread

-- the rank of a quantile of so many values, in percent: from 1 on, in rising order
abbrev pub rank_of : ℕ → ℕ → ℕ
rank_of percent count = (percent * count + 99) / 100

-- the low end of the bucket that has the value of a rank, of buckets by rising low end
abbrev pub bucket_at : ℕ → List (ℕ × ℕ) → ℕ
bucket_at rank [] = 0
bucket_at rank (bucket ∷ others) = if nat_le rank bucket.1 then bucket.0 else bucket_at (rank - bucket.1) others

-- a quantile: the low end of the bucket of its value, or the least value where that is greater
abbrev pub quantile : ℕ → Values → ℕ
quantile percent s = max s.least (bucket_at (rank_of percent s.count) (finite.entries s.buckets))

-- what is told of a spread that has a value
abbrev pub summary_of : Values → Option Summary
summary_of s =
    if s.count == 0 then None
    else Some (record { least = s.least; p50 = quantile 50 s; p99 = quantile 99 s; greatest = s.greatest })

-- ---- codes, by which a proof tells values apart

abbrev pub coded_values : Coded Values
coded_values =
    code_by ((ℕ × ℕ) × (ℕ × Buckets)) (coded× (coded× coded_ℕ coded_ℕ) (coded× coded_ℕ (finite.code coded_ℕ coded_ℕ)))
    (λ s. ((s.count, s.least), (s.greatest, s.buckets))) (λ c. record { count = c.0.0; least = c.0.1; greatest = c.1.0; buckets = c.1.1 }) (λ _. refl)
