use Rattle.std.proofs.Common.{string_bytes, rules}
use Rattle.std.proofs.lemmas.Result.{err_from_is_err_and}
use Rattle.std.specs.Io.KnownBytes.{Appends}
use Rattle.someip_payload_values.specs.View.{data_of, form}
use Rattle.someipctl_show.specs.Encoding.{AnswersValue}
use Rattle.someipctl_show.proofs.PayloadLemmas.{beginning_encoded, refused_value}
use Rattle.someipctl_show.proofs.encode.encode.Goals as goal

pub returns-clause-shown : goal.returns-clause-shown
returns-clause-shown g c =
    let wrote : Appends (g.W.Write.contents c.args.writer.now) (g.W.Write.contents c.write_text.new.writer) (string_bytes c.in_ok-text.text) = search rules in
    let answers : AnswersValue c.args.shape.now c.args.value.now (string_bytes c.in_ok-text.text) c.in_ok-text.outcome =
    record {
      shape = form c.in_ok-shape.shape;
      named = search rules;
      said = data_of c.in_ok-value.value;
      says = search rules;
      told = search rules;
    } in
    (string_bytes c.in_ok-text.text, answers, wrote)

pub returns-in_err-value-clause-refused : goal.returns-in_err-value-clause-refused
returns-in_err-value-clause-refused g c =
    let p = err_from_is_err_and c.from_residual-in_err-value.result c.from_residual-in_err-value.ensures.1 in
    rw (p.1, p.2) (refused_value c.args.shape.now c.args.value.now (form c.in_ok-shape.shape) _ _ _ (search rules) (search rules) (search rules))

pub returns-in_err-write_text-clause-refused : goal.returns-in_err-write_text-clause-refused
returns-in_err-write_text-clause-refused g c =
    let p = err_from_is_err_and c.from_residual-in_err-write_text.result c.from_residual-in_err-write_text.ensures.1 in
    let answers : AnswersValue c.args.shape.now c.args.value.now (string_bytes c.in_ok-text.text) c.in_ok-text.outcome =
    record {
      shape = form c.in_ok-shape.shape;
      named = search rules;
      said = data_of c.in_ok-value.value;
      says = search rules;
      told = search rules;
    } in
    rw (p.1, p.2) (beginning_encoded c.args.shape.now c.args.value.now (string_bytes c.in_ok-text.text) c.in_ok-text.outcome _ _ c.in_err-write_text.ensures.err.0 answers (search rules))
