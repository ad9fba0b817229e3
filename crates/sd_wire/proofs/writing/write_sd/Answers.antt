use Rattle.std.proofs.Common.{◌≡◌, ℕ, List, ◌++◌, Err, refl, ap, rules}
use Rattle.std.proofs.lemmas.Result.{err_from_is_err_and}
use Rattle.sd_wire.specs.declared.error.SdError.{SdError}
use Rattle.sd_wire.specs.declared.error.SdError.TheVariants as errors
use Rattle.sd_wire.specs.declared.error.SdError.TheVariants.{OutOfMemory, TooManyOptions}
use Rattle.sd_wire.specs.contents.Values.{SdMessageValue, view_message}
use Rattle.sd_wire.specs.encoding.Writing.{WritesSd, TooMany, IsWriteError}
use Rattle.sd_wire.specs.encoding.Written.{Refuses, HasNoBytes}
use Rattle.sd_wire.specs.encoding.Encoding.{message_bytes}
use Rattle.sd_wire.proofs.encoding.WriteLemmas.{written_not_refused, one_refused}
use Rattle.sd_wire.proofs.encoding.EncodingLemmas.{written_bytes, refused_bytes}
use Rattle.sd_wire.proofs.fronts.FrontLemmas.{fits_with}
use Rattle.sd_wire.proofs.writing.write_sd.Goals as goal

only_memory : (m : SdMessageValue) (text : List ℕ) (e : SdError) → WritesSd m text → IsWriteError m e → e ≡ OutOfMemory
only_memory m text errors.OutOfMemory w is = refl
only_memory m text (errors.TooManyOptions k) w is = absurd (written_not_refused m text k w is)
only_memory m text (errors.Truncated p) w is = absurd is
only_memory m text (errors.EntriesLength p) w is = absurd is
only_memory m text (errors.UnknownEntryType p) w is = absurd is
only_memory m text (errors.OptionLength p) w is = absurd is
only_memory m text (errors.TrailingBytes p) w is = absurd is

named : (m : SdMessageValue) (k : ℕ) (e : SdError) → TooMany m.entries k → IsWriteError m e → Refuses k (Err e)
named m k errors.OutOfMemory t is = tt
named m k (errors.TooManyOptions n) t is = ap TooManyOptions (one_refused m.entries n k is t)
named m k (errors.Truncated p) t is = absurd is
named m k (errors.EntriesLength p) t is = absurd is
named m k (errors.UnknownEntryType p) t is = absurd is
named m k (errors.OptionLength p) t is = absurd is
named m k (errors.TrailingBytes p) t is = absurd is

none : (m : SdMessageValue) (e : SdError) → IsWriteError m e → HasNoBytes e (message_bytes m)
none m errors.OutOfMemory is = tt
none m (errors.TooManyOptions k) is = refused_bytes m k is
none m (errors.Truncated p) is = absurd is
none m (errors.EntriesLength p) is = absurd is
none m (errors.UnknownEntryType p) is = absurd is
none m (errors.OptionLength p) is = absurd is
none m (errors.TrailingBytes p) is = absurd is

pub returns-in_err-text-clause-none : goal.returns-in_err-text-clause-none
returns-in_err-text-clause-none c =
    let p = err_from_is_err_and c.from_residual.result c.from_residual.ensures.1 in
    rw (p.1, p.2) (none (view_message c.args.message.now) c.in_err-text.field-0.0 c.in_err-text.ensures.refused)

pub returns-in_err-text-clause-fits : goal.returns-in_err-text-clause-fits
returns-in_err-text-clause-fits c = λ fits.
    let m : SdMessageValue = view_message c.args.message.now in
    let p = err_from_is_err_and c.from_residual.result c.from_residual.ensures.1 in
    let text = fits_with m.flags m.entries fits in
    rw (p.1, p.2) (only_memory m text.0 c.in_err-text.field-0.0 text.1 c.in_err-text.ensures.refused)

pub returns-in_err-text-clause-only : goal.returns-in_err-text-clause-only
returns-in_err-text-clause-only c = λ text w.
    let p = err_from_is_err_and c.from_residual.result c.from_residual.ensures.1 in
    rw (p.1, p.2) (only_memory (view_message c.args.message.now) text c.in_err-text.field-0.0 w c.in_err-text.ensures.refused)

pub returns-in_err-text-clause-named : goal.returns-in_err-text-clause-named
returns-in_err-text-clause-named c = λ number t.
    let p = err_from_is_err_and c.from_residual.result c.from_residual.ensures.1 in
    rw (p.1, p.2) (named (view_message c.args.message.now) number c.in_err-text.field-0.0 t c.in_err-text.ensures.refused)

pub returns-clause-named : goal.returns-clause-named
returns-clause-named c = λ number t. absurd (written_not_refused (view_message c.args.message.now) _ number c.in_ok-text.ensures.writes t)

pub returns-clause-exact : goal.returns-clause-exact
returns-clause-exact c =
    let bytes = written_bytes (view_message c.args.message.now) c.in_ok-text.text.items c.in_ok-text.ensures.writes in
    let new : c.extend_from_slice.new.self.items ≡ c.args.out.now.items ++ c.in_ok-text.text.items = search rules in
    rw (bytes, new) refl
