-- Why something is told of an event, in plain words. A list of what was shown has the newest first.
use Rattle.std.specs.Prelude.{◌≡◌, ◌≢◌, ◌⊎◌, ℕ, true, false, List, [], ◌∷◌, ◌++◌, Some}
use Rattle.someip_tables.specs.Sessions.{next_session}
use Rattle.audit_traffic.specs.declared.events.flow.EventFlow.{EventFlow}
use Rattle.audit_traffic.specs.declared.events.notification.Notification.{Notification}
use Rattle.audit_traffic.specs.declared.events.finding.Finding.TheVariants.{Behind, Repeated}
use Rattle.audit_traffic.specs.events.EventRules.{is_at, is_behind, is_between, is_of_service, is_other, is_skipped}
use Rattle.audit_traffic.specs.events.EventHistories.{BeganAgain, Came, Changed, Shown, Withdrawn, shown_after}

-- each of these is so
abbrev pub Each : (Shown → Type 0) → List Shown → Type 0
Each P [] = Unit {0}
Each P (shown ∷ more) = P shown × Each P more

-- it is no event of a flow with another session, unless that is behind, and no reboot of the flow's sender or receiver
abbrev pub LeavesLast : EventFlow → ℕ → Shown → Type 0
LeavesLast flow last (Came event) = event.flow ≡ flow → (event.session ≡ 0) ⊎ ((event.session ≡ last) ⊎ (is_behind last event.session ≡ true))
LeavesLast flow last (Changed client server service) = Unit {0}
LeavesLast flow last (Withdrawn server service) = Unit {0}
LeavesLast flow last (BeganAgain address) = is_at address flow ≡ false

-- it begins and ends no subscription by which a flow goes, and withdraws no offer of its service
abbrev pub LeavesReceivers : EventFlow → Shown → Type 0
LeavesReceivers flow (Came event) = Unit {0}
LeavesReceivers flow (Changed client server service) = is_between client server service flow ≡ false
LeavesReceivers flow (Withdrawn server service) = is_of_service server service flow ≡ false
LeavesReceivers flow (BeganAgain address) = Unit {0}

-- it is no event of another receiver, of the same event of the same sender, with a session between the last one and another
abbrev pub LeavesSkipped : EventFlow → ℕ → ℕ → Shown → Type 0
LeavesSkipped flow last session (Came event) = event.session ≢ 0 → is_other event.flow flow ≡ true → is_skipped last session event.session ≡ false
LeavesSkipped flow last session (Changed client server service) = Unit {0}
LeavesSkipped flow last session (Withdrawn server service) = Unit {0}
LeavesSkipped flow last session (BeganAgain address) = Unit {0}

-- the last event of a flow came with this session, and was neither a repeated one nor behind another; and this was shown since
abbrev pub IsLast : EventFlow → ℕ → List Shown → List Shown → Type 0
IsLast flow last newer shown =
    (event : Notification) × (older : List Shown) × (shown ≡ newer ++ Came event ∷ older) × (event.flow ≡ flow) × (event.session ≡ last) × (last ≢ 0)
    × ((shown_after older event ≢ Some Repeated) × (shown_after older event ≢ Some Behind)) × Each (LeavesLast flow last) newer

-- an event has the session of the last one of its flow
abbrev pub IsRepeated : Notification → List Shown → Type 0
IsRepeated event shown = (newer : List Shown) × IsLast event.flow event.session newer shown

-- an event is behind the last one of its flow: by 1 to 64 sessions
abbrev pub IsBehind : Notification → List Shown → Type 0
IsBehind event shown =
    (last : ℕ) × (newer : List Shown) × IsLast event.flow last newer shown × (event.session ≢ 0) × (event.session ≢ last) × (is_behind last event.session ≡ true)

-- an event has another session S than the last one of its flow, is not behind it, and has not the next one, E; and since the last one no
-- subscription by which the flow goes began or ended, no offer of its service was withdrawn, and no other receiver got a session
-- between
abbrev pub IsGap : ℕ → ℕ → Notification → List Shown → Type 0
IsGap session expected event shown =
    (last : ℕ) × (newer : List Shown) × IsLast event.flow last newer shown × (event.session ≡ session) × (session ≢ 0) × (session ≢ last)
    × (is_behind last session ≡ false) × (next_session last ≡ expected) × (session ≢ expected) × Each (LeavesReceivers event.flow) newer × Each (LeavesSkipped event.flow last session) newer
