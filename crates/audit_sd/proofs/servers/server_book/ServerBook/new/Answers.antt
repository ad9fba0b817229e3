use Rattle.audit_sd.proofs.about_servers.ServerLemmas.{none_within}
use Rattle.audit_sd.proofs.servers.server_book.ServerBook.new.Goals as goal

pub invariant_of-result : goal.invariant_of-result
invariant_of-result c = none_within _ c.new.result.limit c.new-2.ensures
