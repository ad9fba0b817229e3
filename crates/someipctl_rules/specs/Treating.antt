-- How a rule treats the kinds of findings.
use Rattle.std.specs.Prelude.{ℕ, ℤ, pos, negsuc, Bool, true, false, not, nat_le, if◌then◌else◌, codes, bytes_eq, List, [], ◌∷◌, Option, Some, None}
use Rattle.std.specs.List.{list_any}
use Rattle.toml.specs.Data.{Data, get, as_integer, as_str}
use Rattle.audit_rules.specs.declared.kind.Kind.{Kind}
use Rattle.audit_rules.specs.declared.rule.Treatment.{Treatment}
use Rattle.audit_rules.specs.declared.rule.Treatment.TheVariants.{Counts, Allowed, AtMost}
use Rattle.someipctl_show.specs.types.Tables.{as_list, has_unknown, is_table, is_unknown}
use Rattle.someipctl_rules.specs.Keys.{◌>>=◌, if_any}
use Rattle.audit_rules.specs.Kinds.{kind_words}

-- ---- which kinds are named

-- the words of all kinds
abbrev pub all_words : List (List ℕ)
all_words =
    codes "malformed" ∷ codes "bad run" ∷ codes "no endpoint" ∷ codes "reboot" ∷ codes "sd session" ∷ codes "sd overtaken" ∷ codes "unanswered" ∷ codes "late" ∷ codes "error" ∷ codes "unasked" ∷ codes "repeated" ∷ codes "key reused" ∷ codes "interface" ∷ codes "not offered" ∷ codes "event repeated" ∷ codes "event overtaken" ∷ codes "event gap" ∷ codes "event unsubscribed" ∷ codes "silent" ∷ codes "segments" ∷ codes "segments missing" ∷ codes "offer expired" ∷ codes "offer moved" ∷ codes "nack" ∷ codes "subscribe unanswered" ∷ codes "unasked ack" ∷ codes "unasked nack" ∷ codes "full" ∷ []

-- words are those of a kind
abbrev pub names_kind : List ℕ → Bool
names_kind words = not (is_unknown all_words words)

-- a value is the text of these words
abbrev pub has_words : List ℕ → Option (List ℕ) → Bool
has_words words None = false
has_words words (Some text) = bytes_eq text words

abbrev pub is_text_of : List ℕ → Data → Bool
is_text_of words d = has_words words (as_str d)

-- a value is the text of a kind's words
abbrev pub is_kind_text : Option (List ℕ) → Bool
is_kind_text None = false
is_kind_text (Some text) = names_kind text

abbrev pub names_one : Data → Bool
names_one d = is_kind_text (as_str d)

-- ---- `allow` and `at_most`

-- the list that was found, and none where the key is absent
abbrev pub list_of : Option Data → Option (List Data)
list_of None = Some []
list_of (Some d) = as_list d

abbrev pub list_at : List ℕ → Data → Option (List Data)
list_at key d = list_of (get key d)

-- the table at `at_most`, if there is one
abbrev pub table_of : Data → Option Data
table_of d = if is_table d then Some d else None

abbrev pub bounds_at : Data → Option (Option Data)
bounds_at d = if_any table_of (get (codes "at_most") d)

-- each key of it names a kind
abbrev pub has_only_kinds : Option Data → Bool
has_only_kinds None = true
has_only_kinds (Some d) = not (has_unknown all_words d)

-- how many may come
abbrev pub number_of : ℤ → Option ℕ
number_of (pos n) = if nat_le n 0xFFFFFFFF then Some n else None
number_of (negsuc n) = None

-- how many of a kind may come, if a table says so
abbrev pub bound_in : Kind → Option Data → Option (Option ℕ)
bound_in kind None = Some None
bound_in kind (Some d) = if_any (λ v. as_integer v >>= number_of) (get (kind_words kind) d)

-- ---- each kind

-- how a kind is treated of which so many may come, or that is among those that are allowed
abbrev pub treated : Kind → List Data → Option ℕ → Treatment
treated kind allowed (Some most) = AtMost most
treated kind allowed None = if list_any (is_text_of (kind_words kind)) allowed then Allowed else Counts

abbrev pub treated_in : List Data → Option Data → Kind → Option Treatment
treated_in allowed bounds kind = bound_in kind bounds >>= (λ bound. Some (treated kind allowed bound))

-- how each of these kinds is treated
abbrev pub each_treated : List Data → Option Data → List Kind → Option (List Treatment)
each_treated allowed bounds [] = Some []
each_treated allowed bounds (kind ∷ kinds) = treated_in allowed bounds kind >>= (λ one. each_treated allowed bounds kinds >>= (λ others. Some (one ∷ others)))
