use Rattle.std.proofs.Common.{rules, sym, subst, ◌<◌, IsSomeAnd}
use mathlib.Core.Option.{none}
use Rattle.atomic_table.specs.Table.{step}
use Rattle.fol_slots.specs.Shown.{place_at}
use Rattle.fol_slots.proofs.KeepSteps.{offers}
use Rattle.fol_slots.proofs.slots.Slots.offer.Goals as goal

pub store-requires : goal.store-requires
store-requires g c =
    let i = c.args.i in
    let slots = c.args.self.now in
    let inv = c.seat.invariant in (
      search rules,
      subst (λ k. i < k) (sym slots.one_word_each) c.requires.inside,
      offers g.T.Body.fit _ (step 0 i 0 0 none) _ _ _ (subst (λ k. i < k) slots.one_slot_each c.requires.inside) (record { keeper = inv.keeper; worker = inv.worker }) inv.out
          (subst (λ k. IsSomeAnd (place_at k i).kept g.T.Body.fit) (sym c.seat.view_is) c.requires.kept),
    )
