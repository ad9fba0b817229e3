-- The lines of what figures lack.
use Rattle.std.specs.Prelude.{ℕ, if◌then◌else◌, List, [], ◌∷◌, ◌++◌, codes}
use Rattle.someipctl_io.specs.declared.form.Form.{Form}
use Rattle.someipctl_io.specs.ToldLines.{ToldField, field, line_text, text}
use Rattle.someipctl_show.specs.VerdictForms.{no_head, wordless}
use Rattle.someipctl_stats.specs.declared.lacks.Lacks.{Lacks}
use Rattle.someipctl_stats.specs.declared.shown.Lack.{Lack}
use Rattle.someipctl_stats.specs.declared.shown.Lack.TheVariants as lack
use Rattle.someipctl_stats.specs.Lacks.{lacks}

-- what lacks, in a word
abbrev pub lack_name : Lack → List ℕ
lack_name lack.Endpoints = codes "endpoints"
lack_name lack.Gaps = codes "gaps"
lack_name lack.Reboots = codes "reboots"

-- plain `full NAME`
abbrev pub lack_fields : Lack → List ToldField
lack_fields l = field (codes "full ") (codes "name") (text (lack_name l)) ∷ []

-- a line, if this lacks
abbrev pub lack_text : Form → Lacks → Lack → List ℕ
lack_text form all l = if lacks l all then line_text form no_head (wordless (codes "full") (lack_fields l)) else []

abbrev pub lacks_text : Form → Lacks → List ℕ
lacks_text form all = lack_text form all lack.Endpoints ++ (lack_text form all lack.Gaps ++ lack_text form all lack.Reboots)
