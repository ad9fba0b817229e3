-- Where the parts of a message lie in its bytes (SOME/IP Service Discovery, "SOME/IP-SD Header").
use Rattle.std.specs.Prelude.{ℕ, ◌+◌, List, drop, slice_range}
use Rattle.sd_wire.specs.layout.Fields.{field16, field32}

-- how many bytes the entries have
abbrev pub entries_len : List ℕ → ℕ
entries_len bytes = field32 bytes 4

-- where the options begin, and how many bytes they have
abbrev pub options_place : List ℕ → ℕ
options_place bytes = entries_len bytes + 12

abbrev pub options_len : List ℕ → ℕ
options_len bytes = field32 bytes (entries_len bytes + 8)

-- where the options end
abbrev pub options_end : List ℕ → ℕ
options_end bytes = options_place bytes + options_len bytes

-- the bytes of the entries
abbrev pub entries_in : List ℕ → List ℕ
entries_in bytes = slice_range bytes 8 (entries_len bytes + 8)

-- the bytes from the options on
abbrev pub options_in : List ℕ → List ℕ
options_in bytes = drop (options_place bytes) bytes

-- how many bytes the length of the option at the front counts
abbrev pub option_len : List ℕ → ℕ
option_len bytes = field16 bytes 0
