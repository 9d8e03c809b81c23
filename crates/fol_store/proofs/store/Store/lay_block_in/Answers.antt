use Rattle.std.proofs.Common.{inl, inr, arith}
use Rattle.fol_store.specs.contracts.store.Store.{the_view}
use Rattle.fol_bags.specs.Slots.{spot_in}
use Rattle.fol_keyed.proofs.Answers.{answer_cases, on_ok}
use Rattle.fol_store.proofs.Arriving.{spot_same}
use Rattle.fol_store.proofs.LayingThings.{InSpot, BlockLaid, block_laid}
use Rattle.fol_model.specs.Geometry.{chunk_of}
use Rattle.fol_bags.specs.Moves.{SameThings, LaysBlock}
use Rattle.fol_store.proofs.store.Store.lay_block_in.Goals as goal

in_spot : (c : goal.After-lay_block) → InSpot (the_view c.self.inside) c.lay_block.new.spots.items c.args.i (spot_in c.lay_block.new.spots.items c.args.i) (chunk_of c.args.at)
in_spot c = record {
  each = c.lay_block.ensures.spots;
  at = rw (← c.self.view_is) at c.requires.spot;
  long = omega arith;
  timely = c.lay_block.ensures.timely;
  closed = rw (← c.self.view_is) at c.requires.closed;
}

step : (c : goal.After-lay_block) → LaysBlock c.args.at c.args.id (spot_in c.self.inside.spots.items c.args.i) (spot_in c.lay_block.new.spots.items c.args.i) → BlockLaid (the_view c.self.inside) c.lay_block.new.spots.items c.args.i (spot_in c.lay_block.new.spots.items c.args.i) c.args.at c.args.id
step c laid = block_laid (the_view c.self.inside) c.lay_block.new.spots.items c.args.i (spot_in c.lay_block.new.spots.items c.args.i) c.args.at c.args.id (in_spot c) laid (rw (← c.self.view_is) at c.requires.fresh) c.requires.above c.self.invariant

pub invariant_of-self : goal.invariant_of-self
invariant_of-self c =
    elim (answer_cases c.lay_block.result) [
      | inl w ↦ (step c (rw w.1 at c.lay_block.ensures.laid)).sound
      | inr w ↦
          let same : SameThings (spot_in c.self.inside.spots.items c.args.i) (spot_in c.lay_block.new.spots.items c.args.i) = rw w.1 at c.lay_block.ensures.err in
          (spot_same (the_view c.self.inside) c.lay_block.new.spots.items c.args.i c.lay_block.ensures.spots same c.lay_block.ensures.timely (omega arith) c.self.invariant).sound
    ]

pub returns-clause-blocks : goal.returns-clause-blocks
returns-clause-blocks c = rw (← c.self.view_is) (on_ok c.lay_block.result _ _ c.lay_block.ensures.laid (λ laid. (step c laid).blocks))

pub returns-clause-entities : goal.returns-clause-entities
returns-clause-entities c = rw (← c.self.view_is) (on_ok c.lay_block.result _ _ c.lay_block.ensures.laid (λ laid. (step c laid).entities))

pub returns-clause-tasks : goal.returns-clause-tasks
returns-clause-tasks c = rw (← c.self.view_is) (on_ok c.lay_block.result _ _ c.lay_block.ensures.laid (λ laid. (step c laid).tasks))
