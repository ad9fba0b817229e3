-- The words of goals.
use Rattle.std.proofs.Common.{◌≡◌, ℕ, true, refl}
use Rattle.someip_node_rules.specs.declared.output.Output.TheVariants.{Sent, Called, Request, Answered, TimedOut, Event, Known, Gone, Subscribed, Unsubscribed, Accepted, Nacked, Rebooted, Dropped}
use Rattle.someip_world_rules.specs.declared.line.Told.{Told}
use Rattle.someip_world_rules.specs.declared.line.Told.TheVariants.{Gave, Refused}
use Rattle.someip_explore.specs.Goals.{told_words}
use Rattle.someipctl_explore.specs.GoalTexts.{begins_told}

-- each line of a trace tells by one of the words
pub each_is_told : (number : ℕ) (told : Told) → begins_told (told_words number told) ≡ true
each_is_told number (Refused refusal) = refl
each_is_told number (Gave (Sent from to bytes)) = refl
each_is_told number (Gave (Called message session)) = refl
each_is_told number (Gave (Request token instance method payload)) = refl
each_is_told number (Gave (Answered message session code payload)) = refl
each_is_told number (Gave (TimedOut message session)) = refl
each_is_told number (Gave (Event instance event payload)) = refl
each_is_told number (Gave (Known instance endpoint)) = refl
each_is_told number (Gave (Gone instance)) = refl
each_is_told number (Gave (Subscribed eventgroup counter)) = refl
each_is_told number (Gave (Unsubscribed eventgroup)) = refl
each_is_told number (Gave (Accepted eventgroup endpoint counter)) = refl
each_is_told number (Gave (Nacked eventgroup cause)) = refl
each_is_told number (Gave (Rebooted peer)) = refl
each_is_told number (Gave (Dropped reason)) = refl
