use Rattle.fol_end_laws.proofs.SentNowhere.{sent_nowhere}
use Rattle.fol_end_laws.proofs.sent_stand_nowhere.Goals as goal

pub returns : goal.returns
returns c = sent_nowhere
