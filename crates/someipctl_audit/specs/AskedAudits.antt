-- What an audit goes by.
use Rattle.std.specs.Prelude.{Bool, ◌||◌, List, is_none}
use Rattle.audit_rules.specs.declared.Rule.{Rule}
use Rattle.someip_audit.specs.declared.AuditRules.{AuditRules}
use Rattle.someipctl_io.specs.declared.form.Form.{Form}
use Rattle.someipctl_audit.specs.declared.asked.AuditAsked.{AuditAsked}
use Rattle.someipctl_recordings.specs.Wanted.{WantedValue, view_wanted}

-- its settings; the rules of a bench; which packets and ports are looked at, and of which services, clients, addresses and times findings are told;
-- the form of the lines; whether each tells the number of its packet; and whether only the first three of a group are shown
pub record AskedAudit : Type 0 where
  pub rules : AuditRules
  pub bench : List Rule
  pub wanted : WantedValue
  pub form : Form
  pub frames : Bool
  pub group : Bool

-- endpoints are learnt where that is asked for, and where no ports are named
abbrev pub learns : WantedValue → Bool
learns w = w.learned || is_none w.ports

-- by the program's values
abbrev pub view_asked : AuditAsked → AskedAudit
view_asked asked = record { rules = asked.rules; bench = asked.bench.now; wanted = view_wanted asked.wanted; form = asked.form; frames = asked.frames; group = asked.group }
