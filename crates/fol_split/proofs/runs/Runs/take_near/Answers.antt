use Rattle.fol_split.proofs.RunLists.{run_near}
use Rattle.fol_split.proofs.runs.Runs.take_near.Goals as goal

pub grown-first-requires-clause-near : goal.grown-first-requires-clause-near
grown-first-requires-clause-near c =
    let requires = rw (← c.self.view_is) at c.requires in
    run_near c.self.inside.runs.items c.args.k c.index.result.now c.self.invariant.0.sound requires.in_place c.index.ensures
