use Rattle.someip_audit.specs.Audits.{audit_begun}
use Rattle.someip_audit.proofs.LossDueLemmas.{same_audits, same_begun}
use Rattle.someip_audit.proofs.loss_laws.sessions_rest_on_few_rules.Goals as goal

pub returns : goal.returns
returns c = λ rules other bench others ports learns begins last datagrams reports more left after agree.
    same_audits last datagrams (audit_begun rules bench ports learns begins) (audit_begun other others ports learns begins) reports more left after (same_begun rules other bench others ports learns begins agree)
