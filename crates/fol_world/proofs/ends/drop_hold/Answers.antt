use Rattle.std.proofs.Common.{◌≡◌, sym, ◌∙◌}
use Rattle.fol_regions.specs.Table.{grid_state}
use Rattle.fol_sections.specs.declared.answers.Removed.TheVariants.{Gone, Lowered, NotLoaded}
use Rattle.fol_store.specs.Stock.{bag_of}
use Rattle.fol_world.proofs.Loosened.{loosens_gone, loosens_still}
use Rattle.fol_world.proofs.ends.drop_hold.Goals as goal

pub returns-in-Gone-clause-bags : goal.returns-in-Gone-clause-bags
returns-in-Gone-clause-bags c = rw c.remove.ensures.state (loosens_gone (grid_state c.args.regions.now) c.args.chunk c.args.region (bag_of c.args.store.now) (bag_of c.lose.new.self)
    c.requires.out c.lose.ensures.own (c.lose.ensures.away c.requires.out) c.lose.ensures.others)

pub returns-in-Lowered-clause-bags : goal.returns-in-Lowered-clause-bags
returns-in-Lowered-clause-bags c = rw c.remove.ensures.state (loosens_still (grid_state c.args.regions.now) c.args.chunk c.args.region (bag_of c.args.store.now) (λ e.
    let x : Lowered ≡ Gone = sym c.in-Lowered.is ∙ c.remove.ensures.answer ∙ e in absurd (cc)))

pub returns-in-NotLoaded-clause-bags : goal.returns-in-NotLoaded-clause-bags
returns-in-NotLoaded-clause-bags c = rw c.remove.ensures.state (loosens_still (grid_state c.args.regions.now) c.args.chunk c.args.region (bag_of c.args.store.now) (λ e.
    let x : NotLoaded ≡ Gone = sym c.in-NotLoaded.is ∙ c.remove.ensures.answer ∙ e in absurd (cc)))
