use Rattle.std.proofs.Common.{rules, ap, ◌∙◌, subst, ◌<◌, arith}
use mathlib.Core.Option.{none}
use Rattle.atomic_table.specs.Table.{step}
use Rattle.fol_slots.proofs.SeatSteps.{joins, parts}
use Rattle.fol_slots.proofs.MeetSteps.{meets}
use Rattle.fol_slots.proofs.WordFacts.{word_held, slot_held}
use Rattle.fol_slots.proofs.Between.{held_at, joined}
use Rattle.fol_slots.proofs.slots.Slots.meet.Goals as goal

pub join_seat-requires : goal.join_seat-requires
join_seat-requires g c =
    let t = c.args.self.now.table.shared.table_id in
    let wk = c.seat.invariant in
    let h = held_at _ t _ _ c.seat.inside.pass.me c.args.seat c.unwrap-at.result wk c.seat.view_is c.requires.seat c.unwrap-at.ensures c.args.self.now.one_word_each in (
      search rules,
      search rules,
      wk.empty,
      omega (arith, h.word),
      joins g.T.Body.fit _ _ _ _ _ c.keeper.invariant.keeper wk.worker wk.out,
    )

pub load-requires : goal.load-requires
load-requires g c =
    let t = c.args.self.now.table.shared.table_id in
    let i = c.unwrap-at.result in
    let slots = c.args.self.now in
    let h = held_at _ t _ _ c.seat.inside.pass.me c.args.seat i c.seat.invariant c.seat.view_is c.requires.seat c.unwrap-at.ensures slots.one_word_each in
    let j = joined _ _ _ i c.keeper.inside.pass.me c.seat.inside.pass.me c.join_seat.new.seat.me c.keeper.invariant c.seat.invariant c.unwrap-at.ensures c.join_seat.ensures.2 in (
      search rules,
      h.word,
      meets g.T.Body.fit _ (step 0 i 0 0 none) _ _ _ (subst (λ k. i < k) slots.one_slot_each h.slot) j.0 j.1,
    )

pub split_seat-pass-requires : goal.split_seat-pass-requires
split_seat-pass-requires g c =
    let t = c.args.self.now.table.shared.table_id in
    let i = c.unwrap-at.result in
    let h = held_at _ t _ _ c.seat.inside.pass.me c.args.seat i c.seat.invariant c.seat.view_is c.requires.seat c.unwrap-at.ensures c.args.self.now.one_word_each in
    let j = joined _ _ _ i c.keeper.inside.pass.me c.seat.inside.pass.me c.join_seat.new.seat.me c.keeper.invariant c.seat.invariant c.unwrap-at.ensures c.join_seat.ensures.2 in
    let is = c.load.ensures.2.1 in (
      search rules,
      omega (arith, h.word),
      parts g.T.Body.fit _ _ _ (ap (λ m. m.0.keeper) is ∙ j.0.keeper) (ap (λ m. m.0.worker) is ∙ j.0.worker) (ap (λ m. m.0.out) is),
    )

pub returns-clause-word : goal.returns-clause-word
returns-clause-word g c = word_held g.T.Body.fit _ c.args.seat _ (slot_held g.T.Body.fit c.args.seat c.requires.holds)
