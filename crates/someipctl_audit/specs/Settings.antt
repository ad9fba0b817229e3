-- The settings of an audit, as texts.
use Rattle.std.specs.Prelude.{ℕ, ◌≡◌, List, Option, Some, None, codes, if◌then◌else◌}
use Rattle.std.specs.Str.{bytes_eq}
use Rattle.audit_traffic.specs.declared.sequence.Counting.{Counting}
use Rattle.audit_traffic.specs.declared.sequence.Counting.TheVariants.{ByEvent, BySender}
use Rattle.someip_audit.specs.declared.AuditRules.{AuditRules}
use Rattle.someipctl_recordings.specs.WholeLimits.{number_or, view_text}
use Rattle.someipctl_audit.specs.declared.settings.SettingError.{SettingError}
use Rattle.someipctl_audit.specs.declared.settings.SettingError.TheVariants.{BadAnswer, BadOvertake, BadSessions, BadSettle}
use Rattle.someipctl_audit.specs.declared.settings.SettingTexts.{SettingTexts}

-- the texts, as far as they are given
pub record SettingsValue : Type 0 where
  pub answer : Option (List ℕ)
  pub settle : Option (List ℕ)
  pub overtake : Option (List ℕ)
  pub sessions : Option (List ℕ)

abbrev pub view_settings : SettingTexts → SettingsValue
view_settings t = record { answer = view_text t.answer_ms; settle = view_text t.settle_ms; overtake = view_text t.overtake_ms; sessions = view_text t.sessions }

-- how many milliseconds an answer may take: from 1 on, 2000 without a text
abbrev pub answer_in : Option (List ℕ) → Option ℕ
answer_in = number_or 2000 1 4294967295

-- for how many no event without a subscription is told: from 0 on, 10000 without a text
abbrev pub settle_in : Option (List ℕ) → Option ℕ
settle_in = number_or 10000 0 4294967295

-- how many after a later one a message may come that was overtaken: at most a minute, 100 without a text
abbrev pub overtake_in : Option (List ℕ) → Option ℕ
overtake_in = number_or 100 0 60000

-- which events a sender counts together: each for itself without a text
abbrev pub counting_of : List ℕ → Option Counting
counting_of text =
    if bytes_eq text (codes "event") then Some ByEvent
    else if bytes_eq text (codes "sender") then Some BySender
    else None

abbrev pub counting_in : Option (List ℕ) → Option Counting
counting_in None = Some ByEvent
counting_in (Some text) = counting_of text

-- the texts say these settings; a book holds 65536 keys, and segments are put together as `recording --whole` does
pub record SaysRules (texts : SettingsValue) (rules : AuditRules) : Type 0 where
  pub answer_is : answer_in texts.answer ≡ Some rules.answer_ms
  pub settle_is : settle_in texts.settle ≡ Some rules.settle_ms
  pub overtake_is : overtake_in texts.overtake ≡ Some rules.overtake_ms
  pub counting_is : counting_in texts.sessions ≡ Some rules.counting
  pub limit_is : rules.limit ≡ 65536
  pub judged_is : rules.judged ≡ 65536
  pub segments_are : rules.segments ≡ record { slots = 16; limit = 1048576; timeout_ms = 5000 }

-- the text that the error names says none
abbrev pub IsRefusedSetting : SettingsValue → SettingError → Type 0
IsRefusedSetting texts BadAnswer = answer_in texts.answer ≡ None
IsRefusedSetting texts BadSettle = settle_in texts.settle ≡ None
IsRefusedSetting texts BadOvertake = overtake_in texts.overtake ≡ None
IsRefusedSetting texts BadSessions = counting_in texts.sessions ≡ None
