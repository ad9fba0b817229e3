-- The settings of an audit that the words ask for, as texts.
use Rattle.std.specs.Prelude.{None}
use Rattle.someipctl_audit.specs.declared.SettingTexts.{SettingTexts}
use Rattle.someipctl_words.specs.declared.SettingOptions.{SettingOptions}
use Rattle.someipctl_words.specs.declared.StatsOptions.{StatsOptions}

-- those of `audit`
abbrev pub texts_of : SettingOptions → SettingTexts
texts_of o = record { answer_ms = o.answer_ms; settle_ms = o.settle_ms; overtake_ms = o.overtake_ms; sessions = o.sessions }

-- those of the audit behind the figures of `stats`
abbrev pub stats_texts_of : StatsOptions → SettingTexts
stats_texts_of o = record { answer_ms = None; settle_ms = None; overtake_ms = o.overtake_ms; sessions = o.sessions }
