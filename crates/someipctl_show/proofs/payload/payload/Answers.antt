use Rattle.std.proofs.Common.{◌≡◌, Some, string_bytes, rules}
use Rattle.std.proofs.lemmas.Result.{err_from_is_err_and}
use Rattle.std.specs.Io.KnownBytes.{Appends}
use Rattle.someip_payload_values.specs.View.{form}
use Rattle.someipctl_show.specs.Payload.{AnswersPayload, argument_bytes}
use Rattle.someipctl_show.proofs.PayloadLemmas.{beginning_told}
use Rattle.someipctl_show.proofs.payload.payload.Goals as goal

pub returns-clause-shown : goal.returns-clause-shown
returns-clause-shown g c =
    let says : argument_bytes c.args.hex.now ≡ Some c.in-Some.bytes.items = search rules in
    let wrote : Appends (g.W.Write.contents c.args.writer.now) (g.W.Write.contents c.write_text.new.writer) (string_bytes c.in_ok-text.text) = search rules in
    let answers : AnswersPayload c.args.shape.now c.args.hex.now (string_bytes c.in_ok-text.text) c.in_ok-text.outcome =
    record {
      shape = form c.in_ok-shape.shape;
      named = search rules;
      bytes = c.in-Some.bytes.items;
      says = says;
      told = rw c.deref.ensures.value at c.in_ok-text.ensures;
    } in
    (string_bytes c.in_ok-text.text, answers, wrote)

pub returns-in_err-write_text-clause-refused : goal.returns-in_err-write_text-clause-refused
returns-in_err-write_text-clause-refused g c =
    let p = err_from_is_err_and c.from_residual-in_err-write_text.result c.from_residual-in_err-write_text.ensures.1 in
    let says : argument_bytes c.args.hex.now ≡ Some c.in-Some.bytes.items = search rules in
    let answers : AnswersPayload c.args.shape.now c.args.hex.now (string_bytes c.in_ok-text.text) c.in_ok-text.outcome =
    record {
      shape = form c.in_ok-shape.shape;
      named = search rules;
      bytes = c.in-Some.bytes.items;
      says = says;
      told = rw c.deref.ensures.value at c.in_ok-text.ensures;
    } in
    rw (p.1, p.2) (beginning_told c.args.shape.now c.args.hex.now (string_bytes c.in_ok-text.text) c.in_ok-text.outcome _ _ c.in_err-write_text.ensures.err.0 answers (search rules))
