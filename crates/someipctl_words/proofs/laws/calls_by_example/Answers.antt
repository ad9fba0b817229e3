use Rattle.std.proofs.Common.{inl, refl}
use Rattle.clap.proofs.OnLiterals.{clap_on_literals}
use Rattle.someipctl_words.proofs.laws.calls_by_example.Goals as goal

pub returns : goal.returns
unfolding clap_on_literals
returns c = record {
  show = refl;
  encode = refl;
  vectors = refl;
  run = refl;
  run_options = refl;
  run_begins = refl;
  show_options = refl;
  json = refl;
  run_json = refl;
  recording_json = refl;
  audit_json = refl;
  recording = refl;
  recording_options = refl;
  files = refl;
  chart = refl;
  audit = refl;
  audit_choice = refl;
  audit_group = refl;
  audit_options = refl;
  extract = refl;
  services = refl;
  stats = refl;
  bare_expect = ((λ e. cc), inl refl);
  twice = ((λ e. cc), inl refl);
  bare = ((λ e. cc), inl refl);
  bare_show = ((λ e. cc), inl refl);
  help_flag = inl refl;
  help = inl refl;
  show_help_flag = inl refl;
  help_show = inl refl;
}
