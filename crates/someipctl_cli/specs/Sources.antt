-- Where recordings are read from.
use Rattle.std.specs.Prelude.{ℕ, List, Option}
use Rattle.someipctl_cli.specs.declared.source.Source as declared_source
use Rattle.someipctl_cli.specs.declared.source.Source.TheVariants.{File, Standard}

-- the bytes that reads will give, by what is known of a file and of standard input
abbrev pub remaining_of : {F I : Type 0} → (F → Option (List ℕ)) → (I → Option (List ℕ)) → declared_source.Source F I → Option (List ℕ)
remaining_of file input (File f) = file f
remaining_of file input (Standard i) = input i
