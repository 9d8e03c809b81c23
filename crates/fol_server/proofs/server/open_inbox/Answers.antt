use Rattle.fol_inbox.specs.Ids.{inbox_id}
use Rattle.fol_server.proofs.Dealt.{only_sender}
use Rattle.fol_server.proofs.server.open_inbox.Goals as goal

pub returns-clause-sender : goal.returns-clause-sender
returns-clause-sender c = only_sender (inbox_id c.in-Ok.parts.inbox) c.in-Ok.parts.senders.items c.remove-sender.result c.in-Ok.ensures.senders c.remove-sender.ensures.value
