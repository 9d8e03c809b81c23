use Rattle.std.proofs.Common.{◌≡◌, inl, inr, arith, None}
use Rattle.fol_store.specs.contracts.store.Store.{the_view}
use Rattle.fol_bags.specs.Slots.{spot_in}
use Rattle.fol_bags.specs.Things.{of_entity}
use Rattle.fol_store.specs.Stock.{in_spot as spot_part, found}
use Rattle.fol_store.proofs.Totals.{found_none}
use Rattle.fol_keyed.proofs.Answers.{answer_cases, on_ok}
use Rattle.fol_store.proofs.Arriving.{spot_same}
use Rattle.fol_store.proofs.LayingThings.{InSpot, EntityLaid, entity_laid}
use Rattle.fol_model.specs.Geometry.{chunk_of}
use Rattle.fol_bags.specs.Moves.{SameThings, LaysEntity}
use Rattle.fol_store.proofs.store.Store.lay_entity_in.Goals as goal

in_spot : (c : goal.After-lay_entity) → InSpot (the_view c.self.inside) c.lay_entity.new.spots.items c.args.i (spot_in c.lay_entity.new.spots.items c.args.i) (chunk_of c.args.e.at)
in_spot c = record {
  each = c.lay_entity.ensures.spots;
  at = rw (← c.self.view_is) at c.requires.spot;
  long = omega arith;
  timely = c.lay_entity.ensures.timely;
  closed = rw (← c.self.view_is) at c.requires.closed;
}

step : (c : goal.After-lay_entity) → LaysEntity c.args.e (spot_in c.self.inside.spots.items c.args.i) (spot_in c.lay_entity.new.spots.items c.args.i) → EntityLaid (the_view c.self.inside) c.lay_entity.new.spots.items c.args.i (spot_in c.lay_entity.new.spots.items c.args.i) c.args.e
step c laid = entity_laid (the_view c.self.inside) c.lay_entity.new.spots.items c.args.i (spot_in c.lay_entity.new.spots.items c.args.i) c.args.e (in_spot c) laid (rw (← c.self.view_is) at c.requires.fresh) c.self.invariant

pub invariant_of-self : goal.invariant_of-self
invariant_of-self c =
    elim (answer_cases c.lay_entity.result) [
      | inl w ↦ (step c (rw w.1 at c.lay_entity.ensures.laid)).sound
      | inr w ↦
          let same : SameThings (spot_in c.self.inside.spots.items c.args.i) (spot_in c.lay_entity.new.spots.items c.args.i) = rw w.1 at c.lay_entity.ensures.err in
          (spot_same (the_view c.self.inside) c.lay_entity.new.spots.items c.args.i c.lay_entity.ensures.spots same c.lay_entity.ensures.timely (omega arith) c.self.invariant).sound
    ]

pub returns-clause-entities : goal.returns-clause-entities
returns-clause-entities c = rw (← c.self.view_is) (on_ok c.lay_entity.result _ _ c.lay_entity.ensures.laid (λ laid. (step c laid).entities))

pub returns-clause-blocks : goal.returns-clause-blocks
returns-clause-blocks c = rw (← c.self.view_is) (on_ok c.lay_entity.result _ _ c.lay_entity.ensures.laid (λ laid. (step c laid).blocks))

pub returns-clause-tasks : goal.returns-clause-tasks
returns-clause-tasks c = rw (← c.self.view_is) (on_ok c.lay_entity.result _ _ c.lay_entity.ensures.laid (λ laid. (step c laid).tasks))

pub lay_entity-requires-clause-fresh : goal.lay_entity-requires-clause-fresh
lay_entity-requires-clause-fresh c =
    let none : found (the_view c.self.inside) (of_entity c.args.e.id) ≡ None = rw (← c.self.view_is) at c.requires.fresh in
    found_none (the_view c.self.inside) (of_entity c.args.e.id) none (spot_part c.args.i)
