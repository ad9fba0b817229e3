-- What figures lack since a book of the audit was full.
use Rattle.std.specs.Prelude.{Bool, true, false}
use Rattle.someipctl_stats.specs.declared.lacks.Lacks.{Lacks}
use Rattle.someipctl_stats.specs.declared.shown.Lack.{Lack}
use Rattle.someipctl_stats.specs.declared.shown.Lack.TheVariants as lack

abbrev pub lacks_none : Lacks
lacks_none = record { endpoints = false; gaps = false; reboots = false }

-- something lacks from now on
abbrev pub with_lack : Lack → Lacks → Lacks
with_lack lack.Endpoints l = record l { endpoints = true }
with_lack lack.Gaps l = record l { gaps = true }
with_lack lack.Reboots l = record l { reboots = true }

abbrev pub lacks : Lack → Lacks → Bool
lacks lack.Endpoints l = l.endpoints
lacks lack.Gaps l = l.gaps
lacks lack.Reboots l = l.reboots
