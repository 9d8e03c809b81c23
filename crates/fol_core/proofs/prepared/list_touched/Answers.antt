use Rattle.std.proofs.Common.{◌≡◌, ◌∙◌, [], ◌∷◌, rules}
use Rattle.fol_regions.specs.Table.{grid_state}
use Rattle.fol_regions.specs.Touched.{is_touched}
use Rattle.fol_core.proofs.HeldTouched.{alone_listed}
use Rattle.fol_core.proofs.prepared.list_touched.Goals as goal

pub returns-clause-listed : goal.returns-clause-listed
returns-clause-listed c =
    let one : c.push.new.self.items ≡ c.in-Some.id ∷ [] = search rules in
    one ∙ alone_listed (is_touched (grid_state c.args.regions.now) c.args.c) c.in-Some.id (grid_state c.args.regions.now).next c.in-Some.ensures.given c.in-Some.ensures.alone
