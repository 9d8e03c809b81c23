use Rattle.std.proofs.Common.{◌≡◌, ◌<◌, ◌≤◌, length, get_or, refl, ◌∙◌, ap, Some, [], arith}
use Rattle.std.specs.List.Sorted.{IsPartitionPoint}
use Rattle.std.specs.Ordering.{nat_cmp}
use Rattle.std.proofs.lemmas.List.Sums.{sum_by-cons, sum_by-remove}
use Rattle.std.specs.declared.cmp.Ordering.TheVariants.{Less, Greater}
use Rattle.fol_model.specs.declared.entities.Entity.{Entity}
use Rattle.fol_chunks.proofs.EntityLists.{standing_at, none_stands, standing_removed, standing_stays, order_removed, entity_back}
use Rattle.fol_chunks.proofs.entity_list.take.Goals as goal

pub returns-in-Ok-clause-entity : goal.returns-in-Ok-clause-entity
returns-in-Ok-clause-entity c =
    let found : (c.in-Ok.i < length c.args.entities.now.items) × ((d : Entity) → (get_or c.args.entities.now.items c.in-Ok.i d).id ≡ c.args.id) = rw c.deref.ensures.value at c.in-Ok.ensures in
    let same : c.remove.result.id ≡ c.args.id = ap (λ (e : Entity). e.id) c.remove.ensures.value ∙ found.1 c.remove.result in
    rw (standing_at _ c.in-Ok.i c.args.id c.remove.result c.requires found.0 found.1, ← c.remove.ensures.value) (ap (λ (e : Entity). Some e) (entity_back c.remove.result c.args.id same))

pub returns-in-Ok-clause-left : goal.returns-in-Ok-clause-left
returns-in-Ok-clause-left c =
    let found : (c.in-Ok.i < length c.args.entities.now.items) × ((d : Entity) → (get_or c.args.entities.now.items c.in-Ok.i d).id ≡ c.args.id) = rw c.deref.ensures.value at c.in-Ok.ensures in
    rw c.remove.ensures.items (standing_removed _ c.in-Ok.i c.args.id c.remove.result c.requires found.0 found.1)

pub returns-in-Ok-clause-order : goal.returns-in-Ok-clause-order
returns-in-Ok-clause-order c = rw c.remove.ensures.items (order_removed _ c.in-Ok.i c.requires)

pub returns-in-Err-clause-entity : goal.returns-in-Err-clause-entity
returns-in-Err-clause-entity c =
    let absent : (c.in-Err.field-0 ≤ length c.args.entities.now.items) × IsPartitionPoint (λ (x : Entity). nat_cmp x.id c.args.id ≡ Less) (λ (x : Entity). nat_cmp x.id c.args.id ≡ Greater) c.args.entities.now.items c.in-Err.field-0 =
    rw c.deref.ensures.value at c.in-Err.ensures in
    rw (none_stands _ c.in-Err.field-0 c.args.id absent.1) refl

pub returns-in-Err-clause-left : goal.returns-in-Err-clause-left
returns-in-Err-clause-left c =
    let absent : (c.in-Err.field-0 ≤ length c.args.entities.now.items) × IsPartitionPoint (λ (x : Entity). nat_cmp x.id c.args.id ≡ Less) (λ (x : Entity). nat_cmp x.id c.args.id ≡ Greater) c.args.entities.now.items c.in-Err.field-0 =
    rw c.deref.ensures.value at c.in-Err.ensures in
    standing_stays _ c.args.id (none_stands _ c.in-Err.field-0 c.args.id absent.1)

pub returns-in-Ok-clause-sums : goal.returns-in-Ok-clause-sums
returns-in-Ok-clause-sums c = λ f.
    let found : (c.in-Ok.i < length c.args.entities.now.items) × ((d : Entity) → (get_or c.args.entities.now.items c.in-Ok.i d).id ≡ c.args.id) = rw c.deref.ensures.value at c.in-Ok.ensures in
    rw c.remove.ensures.items (omega (arith, sum_by-remove f c.args.entities.now.items c.in-Ok.i c.remove.result found.0, ap f c.remove.ensures.value, sum_by-cons f c.remove.result []))
