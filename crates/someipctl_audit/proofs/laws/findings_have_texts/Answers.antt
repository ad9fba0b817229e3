use Rattle.std.proofs.Common.{refl}
use Rattle.std.specs.Fmt.{digits}
use Rattle.hex.specs.Hex.{encode_with}
use Rattle.someipctl_audit.proofs.laws.findings_have_texts.Goals as goal

pub returns : goal.returns
unfolding digits encode_with
returns c = record { malformed = refl; malformed_sd = refl; bad_run = refl; no_endpoint = refl; no_header = refl; reboot = refl; session = refl; overtaken = refl; late = refl; error = refl; unasked = refl; repeated = refl; key_reused = refl; interface = refl; not_offered = refl; servers = refl; twice = refl; event_overtaken = refl; gap = refl; wide_gap = refl; gaps = refl; unsubscribed = refl; segment = refl; moved = refl; nack = refl; unasked_ack = refl; unasked_nack = refl; full = refl; endpoints = refl; ways = refl }
