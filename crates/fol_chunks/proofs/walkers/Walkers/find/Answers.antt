use Rattle.std.proofs.Common.{◌≡◌, ◌<◌, ◌≤◌, ◌∙◌, refl, ap, length, get_or, Some}
use Rattle.std.specs.List.Sorted.{IsPartitionPoint}
use Rattle.std.specs.Ordering.{nat_cmp}
use Rattle.std.specs.declared.cmp.Ordering.TheVariants.{Less, Greater}
use Rattle.fol_model.specs.declared.entities.Entity.{Entity}
use Rattle.fol_chunks.specs.Areas.{paid}
use Rattle.fol_chunks.proofs.EntityLists.{entity_back, none_stands, standing_at}
use Rattle.fol_chunks.proofs.Owing.{order_before, standing_paid}
use Rattle.fol_chunks.proofs.walkers.Walkers.find.Goals as goal

pub place_of-requires : goal.place_of-requires
place_of-requires c = rw c.deref.ensures.value (order_before c.self.inside.owed c.self.inside.list.items c.self.invariant)

pub returns-in-Ok : goal.returns-in-Ok
returns-in-Ok c =
    let found : (c.in-Ok.i < length c.self.inside.list.items) × ((d : Entity) → (get_or c.self.inside.list.items c.in-Ok.i d).id ≡ c.args.id) = rw c.deref.ensures.value at c.in-Ok.ensures in
    let order = order_before c.self.inside.owed c.self.inside.list.items c.self.invariant in
    let same : c.index.result.now.id ≡ c.args.id = ap (λ (e : Entity). e.id) c.index.ensures ∙ found.1 c.index.result.now in
    rw (← c.self.view_is, standing_paid c.self.inside.owed c.self.inside.list.items c.args.id, standing_at c.self.inside.list.items c.in-Ok.i c.args.id c.index.result.now order found.0 found.1, ← c.index.ensures)
    (ap (λ (e : Entity). Some e.at) c.pay.ensures ∙ ap (λ (e : Entity). Some (paid c.self.inside.owed e).at) (entity_back c.index.result.now c.args.id same))

pub returns-in-Err : goal.returns-in-Err
returns-in-Err c =
    let absent : (c.in-Err.field-0 ≤ length c.self.inside.list.items) × IsPartitionPoint (λ (x : Entity). nat_cmp x.id c.args.id ≡ Less) (λ (x : Entity). nat_cmp x.id c.args.id ≡ Greater) c.self.inside.list.items c.in-Err.field-0 =
    rw c.deref.ensures.value at c.in-Err.ensures in
    rw (← c.self.view_is, standing_paid c.self.inside.owed c.self.inside.list.items c.args.id, none_stands c.self.inside.list.items c.in-Err.field-0 c.args.id absent.1) refl
