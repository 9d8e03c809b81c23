use Rattle.std.proofs.Common.{◌≡◌, true, [], ◌∷◌, sym, ◌∙◌}
use Rattle.std.specs.List.Sorted.{IsStrictlySortedBy}
use Rattle.fol_chunks.specs.Contents.{is_recorded, size_within}
use Rattle.fol_store.specs.contracts.store.Store.{the_view}
use Rattle.fol_bags.specs.declared.slot.Slot.{Slot}
use Rattle.fol_data.specs.Rests.{rests_of}
use Rattle.fol_bags.specs.Clear.{HasNoTask, IsClearOf}
use Rattle.fol_store.specs.Stock.{slot, bag_of, in_bag}
use Rattle.fol_bags.proofs.OpenBags.{here_open}
use Rattle.fol_bags.proofs.Counting.{clear_of}
use Rattle.fol_store.proofs.NoTask.{none_in_part}
use Rattle.fol_store.proofs.store.Store.size_on.Goals as goal

pub slot-requires : goal.slot-requires
unfolding bag_of
slot-requires c =
    let h : (slot (the_view c.self.inside) c.args.id).here ≡ true = rw (← c.self.view_is) at c.requires in
    here_open c.self.inside.bags.items c.args.id h

pub size_listed-requires : goal.size_listed-requires
unfolding IsStrictlySortedBy
size_listed-requires c = (tt, tt)

pub returns-clause-none : goal.returns-clause-none
returns-clause-none c zero none =
    let P : Slot → Type 0 = λ b. IsClearOf c.args.c b.body in
    let tasks : HasNoTask c.args.c (rests_of (slot (the_view c.self.inside) c.args.id).body) = none_in_part (the_view c.self.inside) c.args.c c.self.invariant.unique (rw (← c.self.view_is) at none) (in_bag c.args.id) in
    let contents : size_within (is_recorded (c.args.c ∷ [])) c.slot.result.now.body.chunks ≡ 0 = sym c.size_listed.ensures ∙ zero in
    rw (← c.self.view_is) (clear_of c.args.c (slot (the_view c.self.inside) c.args.id).body tasks (rw c.slot.ensures at contents))
