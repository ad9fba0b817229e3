use Rattle.audit_sd.proofs.about_sessions.ReasonLemmas.{overtaken_is, is_overtaken_told, reboot_is, is_reboot_told, not_next_is, is_not_next_told, last_is, is_last}
use Rattle.audit_sd.proofs.sessions.laws.each_finding_has_its_reason.Goals as goal

pub returns-clause-overtaken : goal.returns-clause-overtaken
returns-clause-overtaken c = λ overtake stamp message messages. (overtaken_is overtake stamp message messages, is_overtaken_told overtake stamp message messages)

pub returns-clause-reboot : goal.returns-clause-reboot
returns-clause-reboot c = λ overtake message messages. (reboot_is overtake message messages, is_reboot_told overtake message messages)

pub returns-clause-not_next : goal.returns-clause-not_next
returns-clause-not_next c = λ overtake stamp expected message messages. (not_next_is overtake stamp expected message messages, is_not_next_told overtake stamp expected message messages)

pub returns-clause-last : goal.returns-clause-last
returns-clause-last c = λ overtake sender destination last messages. (last_is overtake sender destination last messages, is_last overtake sender destination last messages)
