use Rattle.std.proofs.Common.{◌≡◌, ◌<◌, ◌≤◌, length, get_or, true, false}
use Rattle.std.specs.List.Sorted.{IsPartitionPoint}
use Rattle.std.specs.Ordering.{nat_cmp}
use Rattle.std.proofs.lemmas.List.Sums.{sum_by-insert}
use Rattle.std.specs.declared.cmp.Ordering.TheVariants.{Less, Greater}
use Rattle.fol_model.specs.declared.entities.Entity.{Entity}
use Rattle.fol_chunks.proofs.EntityLists.{standing_at, standing_inserted, order_inserted}
use Rattle.fol_chunks.proofs.entity_list.put.Goals as goal

pub unreachable-requires : goal.unreachable-requires
unreachable-requires c =
    let found : (c.in-Ok.field-0 < length c.args.entities.now.items) × ((d : Entity) → (get_or c.args.entities.now.items c.in-Ok.field-0 d).id ≡ c.args.entity.id) = rw c.deref.ensures.value at c.in-Ok.ensures in
    let there : true ≡ false = rw (standing_at _ c.in-Ok.field-0 c.args.entity.id c.args.entity c.requires.order found.0 found.1) at c.requires.fresh in
    cc

pub returns-clause-entity : goal.returns-clause-entity
returns-clause-entity c =
    let absent : (c.in-Err.i ≤ length c.args.entities.now.items) × IsPartitionPoint (λ (x : Entity). nat_cmp x.id c.args.entity.id ≡ Less) (λ (x : Entity). nat_cmp x.id c.args.entity.id ≡ Greater) c.args.entities.now.items c.in-Err.i =
    rw c.deref.ensures.value at c.in-Err.ensures in
    rw c.in-Ok-insert.ensures.items (standing_inserted _ c.in-Err.i c.args.entity c.requires.order absent.1)

pub returns-clause-order : goal.returns-clause-order
returns-clause-order c =
    let absent : (c.in-Err.i ≤ length c.args.entities.now.items) × IsPartitionPoint (λ (x : Entity). nat_cmp x.id c.args.entity.id ≡ Less) (λ (x : Entity). nat_cmp x.id c.args.entity.id ≡ Greater) c.args.entities.now.items c.in-Err.i =
    rw c.deref.ensures.value at c.in-Err.ensures in
    rw c.in-Ok-insert.ensures.items (order_inserted _ c.in-Err.i c.args.entity c.requires.order absent.0 absent.1)

pub returns-clause-sums : goal.returns-clause-sums
returns-clause-sums c = λ f. rw c.in-Ok-insert.ensures.items (sum_by-insert f c.args.entities.now.items c.in-Err.i c.args.entity)
