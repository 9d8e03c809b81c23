use Rattle.std.proofs.Common.{rules, ap, ◌∙◌, sym, subst, ◌<◌}
use mathlib.Core.Option.{none}
use Rattle.atomic_table.specs.Table.{step}
use Rattle.fol_slots.specs.Shown.{place_at}
use Rattle.fol_slots.proofs.KeepSteps.{keeps_step}
use Rattle.fol_slots.proofs.WordFacts.{word_after}
use Rattle.fol_slots.proofs.slots.Slots.try_keep.Goals as goal

pub compare_exchange-found-requires : goal.compare_exchange-found-requires
compare_exchange-found-requires g c =
    let i = c.args.i in
    let slots = c.args.self.now in
    let inv = c.seat.invariant in (
      search rules,
      subst (λ k. i < k) (sym slots.one_word_each) c.requires.inside,
      keeps_step g.T.Body.fit _ (step 0 i 0 0 none) _ _ _ (subst (λ k. i < k) slots.one_slot_each c.requires.inside) (record { keeper = inv.keeper; worker = inv.worker }) inv.out
          (ap (λ k. (place_at k i).kept) c.seat.view_is ∙ c.requires.not_kept),
    )

pub returns-clause-word : goal.returns-clause-word
returns-clause-word g c = word_after g.T.Body.fit c.args.seat.now _ c.args.i _ (subst (λ z. c.args.i < z.slots) (sym c.requires.slots) c.requires.inside) (search rules)
