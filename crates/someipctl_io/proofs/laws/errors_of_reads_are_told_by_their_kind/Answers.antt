use Rattle.std.proofs.Common.{◌≡◌, ◌≢◌, refl}
use Rattle.std.specs.declared.io.ErrorKind.{ErrorKind}
use Rattle.std.specs.declared.io.ErrorKind.TheVariants as kinds
use Rattle.someipctl_io.specs.Inputs.{read_fault}
use Rattle.someipctl_io.specs.declared.input.ReadFault.TheVariants.{CannotRead}
use Rattle.someipctl_io.proofs.laws.errors_of_reads_are_told_by_their_kind.Goals as goal

any_other : (kind : ErrorKind) → kind ≢ kinds.OutOfMemory → read_fault kind ≡ CannotRead
any_other kinds.OutOfMemory other = absurd (other refl)
any_other kind other = refl

pub returns-clause-other : goal.returns-clause-other
returns-clause-other c = any_other
