use Rattle.std.proofs.Common.{List, None, sym, subst}
use Rattle.fol_inbox.specs.declared.letter.Receipt.{Receipt}
use Rattle.fol_inbox.specs.Receipts.{IsDrainer}
use Rattle.fol_inbox.proofs.Steps.{begins}
use Rattle.fol_inbox.proofs.Taken.{new_drainer}
use Rattle.fol_inbox.proofs.inbox.Inbox.start.Goals as goal

pub with_rule-requires : goal.with_rule-requires
with_rule-requires c = begins

pub invariant_of-drainer : goal.invariant_of-drainer
invariant_of-drainer c =
    let p = c.deal-dealt.ensures.first in
    subst (λ (rs : List Receipt). IsDrainer c.args.seat c.of-since.result.value c.deal-dealt.new.first rs None) (sym c.new.ensures.items)
    (new_drainer c.args.seat c.of-since.result.value c.deal-dealt.new.first c.args.senders c.of-since.ensures c.requires.no_tick (record { hand = p.0.1; spare = p.0.2 }) p.1)
