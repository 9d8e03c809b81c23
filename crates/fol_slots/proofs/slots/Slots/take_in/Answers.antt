use Rattle.std.proofs.Common.{rules, ap, refl, ◌∙◌, sym, subst, ◌<◌, ℕ, arith, Some, subst₂}
use mathlib.Core.Option.{none}
use Rattle.atomic_table.specs.Table.{step}
use Rattle.atomic_table.specs.Seated.{TableId}
use Rattle.fol_slots.specs.Steps.{parted_left, parted_right}
use Rattle.fol_slots.specs.Shown.{held_slot}
use Rattle.fol_slots.proofs.Changes.{none_some, not_true}
use Rattle.fol_slots.proofs.SeatSteps.{joins, parts}
use Rattle.fol_slots.proofs.MeetSteps.{meets_out, takes_in}
use Rattle.fol_slots.proofs.WordFacts.{word_held, slot_held, word_keeping}
use Rattle.fol_slots.proofs.Between.{held_at, joined, at_store, is_at_store, ends, is_freed, is_keeping}
use Rattle.fol_slots.proofs.slots.Slots.take_in.Goals as goal

pub join_seat-requires : goal.join_seat-requires
join_seat-requires g c =
    let t = c.args.self.now.table.shared.table_id in
    let i = c.unwrap-at.result in
    let h = held_at _ t _ _ c.seat.inside.pass.me c.args.seat i c.seat.invariant c.seat.view_is c.requires.seat c.unwrap-at.ensures c.args.self.now.one_word_each in (
      search rules,
      search rules,
      c.seat.invariant.empty,
      omega (arith, h.word),
      joins g.T.Body.fit _ _ _ _ _ c.keeper.invariant.keeper c.seat.invariant.worker c.seat.invariant.out,
    )

pub load-requires : goal.load-requires
load-requires g c =
    let t = c.args.self.now.table.shared.table_id in
    let i = c.unwrap-at.result in
    let h = held_at _ t _ _ c.seat.inside.pass.me c.args.seat i c.seat.invariant c.seat.view_is c.requires.seat c.unwrap-at.ensures c.args.self.now.one_word_each in
    let j = joined _ _ _ i c.keeper.inside.pass.me c.seat.inside.pass.me c.join_seat.new.seat.me c.keeper.invariant c.seat.invariant c.unwrap-at.ensures c.join_seat.ensures.2 in (
      search rules,
      h.word,
      meets_out g.T.Body.fit _ (step 0 i 0 0 none) _ _ _ (subst (λ n. i < n) c.args.self.now.one_slot_each h.slot) j.0 j.1,
    )

pub store-requires : goal.store-requires
store-requires g c =
    let t = c.args.self.now.table.shared.table_id in
    let i = c.unwrap-at.result in
    let h = held_at _ t _ _ c.seat.inside.pass.me c.args.seat i c.seat.invariant c.seat.view_is c.requires.seat c.unwrap-at.ensures c.args.self.now.one_word_each in
    let k = c.keeper.inside.pass.me in
    let w = c.seat.inside.pass.me in
    let wk = c.seat.invariant in
    let now = is_at_store i k w c.join_seat.new.seat.me c.load.new.seat.me c.exchange.new.seat.me c.args.body c.keeper.invariant.empty c.join_seat.ensures.2 c.load.ensures.2.1 c.exchange.ensures.3 in (
      search rules,
      h.word,
      takes_in g.T.Body.fit _ (step 0 i 0 0 none) _ _ _ (at_store k.0 w.0 i) c.args.body (subst (λ n. i < n) c.args.self.now.one_slot_each h.slot) now
          (record { keeper = c.keeper.invariant.keeper; worker = wk.worker; slot = wk.slot_is ∙ c.unwrap-at.ensures }) refl,
    )

pub split_seat-pass-requires : goal.split_seat-pass-requires
split_seat-pass-requires g c =
    let t = c.args.self.now.table.shared.table_id in
    let i = c.unwrap-at.result in
    let h = held_at _ t _ _ c.seat.inside.pass.me c.args.seat i c.seat.invariant c.seat.view_is c.requires.seat c.unwrap-at.ensures c.args.self.now.one_word_each in
    let k = c.keeper.inside.pass.me in
    let w = c.seat.inside.pass.me in
    let is = ends i k w c.join_seat.new.seat.me c.load.new.seat.me c.exchange.new.seat.me c.store.new.seat.me c.args.body c.keeper.invariant.empty c.join_seat.ensures.2 c.load.ensures.2.1 c.exchange.ensures.3 c.store.ensures.2 in (
      search rules,
      omega (arith, h.word),
      parts g.T.Body.fit _ _ _ (ap (λ m. m.0.keeper) is ∙ c.keeper.invariant.keeper) (ap (λ m. m.0.worker) is ∙ c.seat.invariant.worker) (ap (λ m. m.0.out) is),
    )

pub invariant_of-keeper : goal.invariant_of-keeper
invariant_of-keeper g c =
    let i = c.unwrap-at.result in
    let k = c.keeper.inside.pass.me in
    let w = c.seat.inside.pass.me in
    let is = ends i k w c.join_seat.new.seat.me c.load.new.seat.me c.exchange.new.seat.me c.store.new.seat.me c.args.body c.keeper.invariant.empty c.join_seat.ensures.2 c.load.ensures.2.1 c.exchange.ensures.3 c.store.ensures.2 in
    let left = c.split_seat-pass.ensures.2 in record {
      keeper = ap (λ m. m.0.keeper) left ∙ (ap (λ m. m.0.keeper) is ∙ c.keeper.invariant.keeper);
      worker = ap (λ m. m.0.worker) left;
      out = ap (λ m. m.0.out) left ∙ ap (λ m. m.0.out) is;
      empty = ap (λ m. m.1) left ∙ ap (λ m. m.1) is;
    }

pub invariant_of-result : goal.invariant_of-result
invariant_of-result g c =
    let i = c.unwrap-at.result in
    let k = c.keeper.inside.pass.me in
    let w = c.seat.inside.pass.me in
    let is = ends i k w c.join_seat.new.seat.me c.load.new.seat.me c.exchange.new.seat.me c.store.new.seat.me c.args.body c.keeper.invariant.empty c.join_seat.ensures.2 c.load.ensures.2.1 c.exchange.ensures.3 c.store.ensures.2 in
    let right = c.split_seat-pass.ensures.4 in record {
      worker = ap (λ m. m.0.worker) right ∙ (ap (λ m. m.0.worker) is ∙ c.seat.invariant.worker);
      keeper = ap (λ m. m.0.keeper) right;
      out = ap (λ m. m.0.out) right;
      empty = ap (λ m. m.1) right;
      number_is = ap (λ m. m.0.number) right ∙ (ap (λ m. m.0.number) is ∙ c.seat.invariant.number_is);
      slot_is = ap (λ m. m.0.slot) right ∙ ap (λ m. m.0.slot) is;
      inside = λ a e. absurd (none_some a e);
      settled = λ e. absurd (not_true e);
    }

pub returns-clause-word : goal.returns-clause-word
returns-clause-word g c = word_held g.T.Body.fit _ c.args.seat _ (slot_held g.T.Body.fit c.args.seat c.requires.holds)

pub returns-clause-seat : goal.returns-clause-seat
returns-clause-seat g c =
    let i = c.unwrap-at.result in
    let k = c.keeper.inside.pass.me in
    let w = c.seat.inside.pass.me in
    let is = ends i k w c.join_seat.new.seat.me c.load.new.seat.me c.exchange.new.seat.me c.store.new.seat.me c.args.body c.keeper.invariant.empty c.join_seat.ensures.2 c.load.ensures.2.1 c.exchange.ensures.3 c.store.ensures.2 in
    let right = c.split_seat-pass.ensures.4 in
    let table = c.split_seat-pass.ensures.3 ∙ (c.store.ensures.0 ∙ (c.exchange.ensures.0 ∙ (c.load.ensures.0 ∙ c.join_seat.ensures.0))) in
    is_freed i _ _ k.0 w.0 c.split_seat-pass.result.me.0 c.args.body c.args.seat (table ∙ (ap (λ x. x.slots) c.keeper.view_is ∙ (c.requires.keeper ∙ sym c.requires.seat)))
    (ap (λ m. m.0) right ∙ ap (λ m. parted_right m.0) is) c.seat.view_is

pub returns-clause-keeper : goal.returns-clause-keeper
returns-clause-keeper g c =
    let t = c.args.self.now.table.shared.table_id in
    let i = c.unwrap-at.result in
    let h = held_at _ t _ _ c.seat.inside.pass.me c.args.seat i c.seat.invariant c.seat.view_is c.requires.seat c.unwrap-at.ensures c.args.self.now.one_word_each in
    let k = c.keeper.inside.pass.me in
    let w = c.seat.inside.pass.me in
    let is = ends i k w c.join_seat.new.seat.me c.load.new.seat.me c.exchange.new.seat.me c.store.new.seat.me c.args.body c.keeper.invariant.empty c.join_seat.ensures.2 c.load.ensures.2.1 c.exchange.ensures.3 c.store.ensures.2 in
    let left = c.split_seat-pass.ensures.2 in
    let table = c.split_seat-pass.ensures.0 ∙ (c.store.ensures.0 ∙ (c.exchange.ensures.0 ∙ (c.load.ensures.0 ∙ c.join_seat.ensures.0))) in
    is_keeping i _ _ _ k.0 w.0 c.split_seat-pass.new.seat.me.0 c.args.body c.args.keeper.now table (ap (λ m. m.0) left ∙ ap (λ m. parted_left m.0) is) c.keeper.view_is h.shown

pub returns-clause-word_after : goal.returns-clause-word_after
returns-clause-word_after g c =
    let t = c.args.self.now.table.shared.table_id in
    let h = held_at _ t _ _ c.seat.inside.pass.me c.args.seat c.unwrap-at.result c.seat.invariant c.seat.view_is c.requires.seat c.unwrap-at.ensures c.args.self.now.one_word_each in
    word_keeping g.T.Body.fit c.args.keeper.now _ (held_slot c.args.seat) (Some c.args.body) (subst₂ (λ (a : ℕ) (z : TableId). a < z.slots) (sym h.shown) (sym c.requires.keeper) h.slot) refl (returns-clause-keeper g c)
