use Rattle.std.proofs.Common.{rules}
use Rattle.fol_offers.proofs.CalledBack.{back_idle}
use Rattle.fol_offers.proofs.offers.Offers.call_back_one.Goals as goal

pub returns-else-is_prepared : goal.returns-else-is_prepared
returns-else-is_prepared c = back_idle c.args.self.now c.args.by c.args.region (search rules)
