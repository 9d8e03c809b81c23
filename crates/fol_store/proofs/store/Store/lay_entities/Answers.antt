use Rattle.std.proofs.Common.{◌∙◌, ap, arith}
use Rattle.fol_model.specs.World.{standing_in}
use Rattle.fol_model.specs.declared.entities.Entity.{Entity}
use Rattle.std.specs.Prelude.{List}
use Rattle.fol_store.specs.Stock.{found}
use Rattle.fol_bags.specs.Things.{of_entity}
use Rattle.fol_store.proofs.Baring.{all_closed}
use Rattle.fol_store.proofs.LayingThings.{entity_fresh, entity_more, take_all}
use Rattle.fol_store.proofs.store.Store.lay_entities.Goals as goal

pub lay_entity-requires-clause-closed : goal.lay_entity-requires-clause-closed
lay_entity-requires-clause-closed c = all_closed c.args.self.now c.loop-entity.self c.requires.closed c.loop-entity.invariant.bags

pub lay_entity-requires-clause-fresh : goal.lay_entity-requires-clause-fresh
lay_entity-requires-clause-fresh c = c.loop-entity.invariant.entities _ ∙ entity_fresh c.args.entities.now c.loop-entity.entity-index _ c.requires.order c.loop-entity-test.true

pub loop-entity-preserved : goal.loop-entity-preserved
loop-entity-preserved c = record {
  entities = λ n. c.in_ok-lay_entity.ensures.entities n ∙ entity_more c.args.entities.now c.loop-entity.entity-index _ _ n (found c.loop-entity.self (of_entity n)) c.requires.order c.loop-entity-test.true (omega arith) (c.loop-entity.invariant.entities n);
  blocks = λ q. c.in_ok-lay_entity.ensures.blocks q ∙ c.loop-entity.invariant.blocks q;
  tasks = λ n. c.in_ok-lay_entity.ensures.tasks n ∙ c.loop-entity.invariant.tasks n;
  bags = c.lay_entity.ensures.bags ∙ c.loop-entity.invariant.bags;
}

pub returns-clause-entities : goal.returns-clause-entities
returns-clause-entities c = λ n. c.loop-entity.invariant.entities n ∙ ap (λ (xs : List Entity). standing_in xs n) (take_all c.args.entities.now c.loop-entity.entity-index (omega (arith, c.loop-entity-test.false)))
