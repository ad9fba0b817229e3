use Rattle.std.proofs.Common.{rules, ◌≡◌, true}
use Rattle.someip_payload_codec.specs.Reading.{is_ended, utf8_at}
use Rattle.someip_payload_codec.proofs.texts.Strings.{is_utf8_true, is_utf8_false}
use Rattle.someip_payload_codec.proofs.text.utf8.Goals as goal

pub returns-in_ok-from_str-in-Ok : goal.returns-in_ok-from_str-in-Ok
unfolding utf8_at
returns-in_ok-from_str-in-Ok c =
    let ended : is_ended c.args.body.now ≡ true = search rules in
    rw ended (search (rules, is_utf8_true))

pub returns-in-Err : goal.returns-in-Err
unfolding utf8_at
returns-in-Err c =
    let ended : is_ended c.args.body.now ≡ true = search rules in
    rw ended (search (rules, is_utf8_false))
