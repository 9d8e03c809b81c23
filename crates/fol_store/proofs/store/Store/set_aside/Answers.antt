use Rattle.std.proofs.Common.{◌∙◌}
use Rattle.fol_store.proofs.Arriving.{bags_same}
use Rattle.fol_store.proofs.store.Store.set_aside.Goals as goal

pub returns-in_err-i-clause-bags : goal.returns-in_err-i-clause-bags
returns-in_err-i-clause-bags c = bags_same _ _ c.spot_of.ensures.bags

pub returns-clause-bags : goal.returns-clause-bags
returns-clause-bags c = bags_same _ _ c.hand_out_to.ensures.bags ∙ c.note.ensures.bags ∙ bags_same _ _ c.spot_of.ensures.bags

pub returns-in_err-note-clause-bags : goal.returns-in_err-note-clause-bags
returns-in_err-note-clause-bags c = c.note.ensures.bags ∙ bags_same _ _ c.spot_of.ensures.bags
