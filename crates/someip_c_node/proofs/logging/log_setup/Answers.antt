use Rattle.std.proofs.Common.{◌≡◌, rules, inl, subst}
use Rattle.std.specs.Prelude.{false, IsUtf8}
use Rattle.std.proofs.lemmas.Result.{err_from_is_err_and}
use Rattle.someip_node_rules.specs.forms.GoodConfigs.{is_good_delay}
use Rattle.someip_c_node.specs.Texts.{IsConfigIn}
use Rattle.someip_c_node.proofs.LogLemmas.{fault_of_peers, logged_ok}
use Rattle.someip_c_node.proofs.StartLemmas.{bad_delay}
use Rattle.someip_c_node.proofs.logging.log_setup.Goals as goal

pub returns-then-delay-config-clause-refused : goal.returns-then-delay-config-clause-refused
returns-then-delay-config-clause-refused c =
    let utf8 : IsUtf8 c.args.text.now = search rules in
    let same : c.in-Ok.text.now ≡ c.args.text.now = search rules in
    let found : IsConfigIn c.args.text.now c.args.name.now c.in_ok-config.config = subst (λ text. IsConfigIn text c.args.name.now c.in_ok-config.config) same c.in_ok-config.ensures.found in
    let outside : is_good_delay c.in_ok-config.config c.args.delay ≡ false = search rules in
    inl (bad_delay c.args.text.now c.args.name.now c.in_ok-config.config c.args.delay utf8 found outside)

pub returns-in_err-refuse_peers-clause-refused : goal.returns-in_err-refuse_peers-clause-refused
returns-in_err-refuse_peers-clause-refused c =
    let p = err_from_is_err_and c.from_residual-in_err-refuse_peers.result c.from_residual-in_err-refuse_peers.ensures.1 in
    let same : c.in-Ok.text.now ≡ c.args.text.now = search rules in
    let found : IsConfigIn c.args.text.now c.args.name.now c.in_ok-config.config = subst (λ text. IsConfigIn text c.args.name.now c.in_ok-config.config) same c.in_ok-config.ensures.found in
    rw (p.1, p.2) (fault_of_peers c.args.text.now c.args.name.now c.args.delay c.args.peers.now c.in_ok-config.config _ found c.in_err-refuse_peers.ensures.err)

pub returns-clause-log : goal.returns-clause-log
returns-clause-log c =
    let same : c.in-Ok.text.now ≡ c.args.text.now = search rules in
    logged_ok c.args.text.now c.args.name.now c.args.delay c.args.peers.now c.in_ok-config.config c.in-Ok-logged.log
    (subst (λ text. IsConfigIn text c.args.name.now c.in_ok-config.config) same c.in_ok-config.ensures.found) c.in-Ok-logged.ensures
