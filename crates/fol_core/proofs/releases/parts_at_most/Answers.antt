use Rattle.std.proofs.Common.{refl}
use Rattle.fol_world.specs.MostParts.{parts_at_most}
use Rattle.fol_core.proofs.releases.parts_at_most.Goals as goal

pub returns-clause-parts : goal.returns-clause-parts
unfolding parts_at_most
returns-clause-parts c = let most = c.min.ensures in let present = c.present_count.ensures in rw (most, present) refl
