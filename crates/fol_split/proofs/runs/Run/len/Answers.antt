use Rattle.std.proofs.Common.{◌≡◌, arith, rules}
use Rattle.std.proofs.lemmas.Int.{to_z-of_z}
use mir.Val.{to_z, of_z, SFits}
use mir.Syntax.{w32}
use borrow.Author.Differences.{ints}
use Rattle.fol_split.proofs.Rows.{length-run}
use Rattle.fol_split.proofs.runs.Run.len.Goals as goal

pub returns : goal.returns
returns c =
    let ff : SFits w32 c.args.self.from = search rules in
    let ft : SFits w32 c.args.self.to = search rules in
    let from : to_z w32 (of_z w32 c.args.self.from) ≡ c.args.self.from = simp to_z-of_z in
    let to : to_z w32 (of_z w32 c.args.self.to) ≡ c.args.self.to = simp to_z-of_z in
    rw (length-run c.args.self) (omega (arith, ints, from, to, ff, ft, c.requires))
