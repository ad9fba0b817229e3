-- How many answers are owed to the Subscribes of a subscription: each of them has one.
use Rattle.std.specs.Prelude.{ℕ, ◌+◌, ◌-◌, ◌^◌, min, nat_lt, if◌then◌else◌, Option, None, Some, refl}
use Rattle.std.specs.Coded.{Coded, code_by, coded_ℕ}
use Rattle.std.specs.FinMap as finite
use Rattle.std.specs.FinMap.{FinMap}
use Rattle.audit_sd.specs.declared.subscriptions.key.SubscriptionKey.{SubscriptionKey}
use Rattle.audit_sd.specs.declared.subscriptions.owed.Owed.{Owed}
use Rattle.audit_sd.specs.subscriptions.SubscriptionKeys.{subscription_cmp}

-- what is owed, by the subscription; nothing is where none stands
abbrev pub Owing : Type 0
Owing = FinMap subscription_cmp Owed

-- an answer may come at any moment
abbrev pub waits_for_none : Owed → Option ℕ
waits_for_none owed = None

-- what is owed once one more Subscribe came, as far as is counted
abbrev pub one_more : Option Owed → Owed
one_more None = record { answers = 1 }
one_more (Some owed) = record { answers = min (owed.answers + 1) (2 ^ 32 - 1) }

-- and once one more answer came
abbrev pub one_less : Option Owed → Option Owed
one_less None = None
one_less (Some owed) = if nat_lt 1 owed.answers then Some (record { answers = owed.answers - 1 }) else None

-- all that is owed once this is owed to a subscription
abbrev pub with_owed : Option Owed → SubscriptionKey → Owing → Owing
with_owed None key owing = finite.remove owing key
with_owed (Some owed) key owing = finite.insert owing key owed

-- and once a Subscribe came, or an answer
abbrev pub once_asked : SubscriptionKey → Owing → Owing
once_asked key owing = finite.insert owing key (one_more (finite.get owing key))

abbrev pub once_answered : SubscriptionKey → Owing → Owing
once_answered key owing = with_owed (one_less (finite.get owing key)) key owing

-- a code, by which a proof tells values apart
abbrev pub coded_owed : Coded Owed
coded_owed = code_by ℕ coded_ℕ (λ o. o.answers) (λ n. record { answers = n }) (λ _. refl)
