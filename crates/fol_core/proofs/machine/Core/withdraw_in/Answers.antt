use Rattle.std.proofs.Common.{◌∙◌}
use Rattle.fol_core.proofs.machine.Core.withdraw_in.Goals as goal

pub returns-clause-withdrawn : goal.returns-clause-withdrawn
returns-clause-withdrawn c = let s = c.give_up_room.ensures.stays in let w = c.take_back-is_ready.ensures.withdrawn in record {
  opening = s.opening ∙ w.opening;
  history = s.history ∙ w.history;
  prepared = s.prepared ∙ w.prepared;
}
