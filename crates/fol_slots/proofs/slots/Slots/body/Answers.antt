use Rattle.std.proofs.Common.{rules, ap, ◌∙◌, sym, subst, refl, ◌<◌, ◌∷◌, Some, IsSome}
use mathlib.Core.Option.{none}
use Rattle.atomic_table.specs.Table.{step, rest}
use Rattle.fol_slots.specs.Hands.{place_at}
use Rattle.fol_slots.specs.Shown as shown
use Rattle.fol_slots.specs.Steps.{out_at}
use Rattle.fol_slots.proofs.KeepSteps.{takes_out, puts_back}
use Rattle.fol_slots.proofs.WordFacts.{word_keeping}
use Rattle.fol_slots.proofs.slots.Slots.body.Goals as goal

pub load-requires : goal.load-requires
load-requires g c =
    let i = c.args.i in
    let slots = c.args.self.now in
    let inv = c.seat.invariant in (
      search rules,
      subst (λ k. i < k) (sym slots.one_word_each) c.requires.inside,
      takes_out g.T.Body.fit _ (step 0 i 0 0 none) _ _ _ (subst (λ k. i < k) slots.one_slot_each c.requires.inside) (record { keeper = inv.keeper; worker = inv.worker }) inv.out
          (subst (λ k. IsSome (shown.place_at k i).kept) (sym c.seat.view_is) c.requires.kept),
    )

pub exchange-requires : goal.exchange-requires
exchange-requires g c =
    let out = ap (λ m. m.1) c.load.ensures.2.1 in
    let x = (place_at c.seat.inside.pass.me.0.places c.args.i).kept in (
      search rules,
      (x, out ∙ ap (λ l. (c.args.i, x) ∷ rest l) (sym out)),
    )

pub load-requires-2 : goal.load-requires-2
load-requires-2 g c =
    let i = c.args.i in
    let slots = c.args.self.now in
    let inv = c.seat.invariant in
    let v = out_at c.seat.inside.pass.me.0 (Some i) in
    let now = c.exchange.ensures.3 ∙ ap (λ m. (m.0, (i, Some c.args.new) ∷ rest m.1)) c.load.ensures.2.1 ∙ ap (λ l. (v, (i, Some c.args.new) ∷ l)) inv.empty in (
      search rules,
      subst (λ k. i < k) (sym slots.one_word_each) c.requires.inside,
      puts_back g.T.Body.fit _ (step 0 i 0 0 none) _ _ _ v c.args.new (subst (λ k. i < k) slots.one_slot_each c.requires.inside) now (record { keeper = inv.keeper; worker = inv.worker }) refl
          (subst (λ k. IsSome (shown.place_at k i).kept) (sym c.seat.view_is) c.requires.kept),
    )

pub invariant_of-seat : goal.invariant_of-seat
invariant_of-seat g c =
    let i = c.args.i in
    let inv = c.seat.invariant in
    let v = out_at c.seat.inside.pass.me.0 (Some i) in
    let now = c.exchange.ensures.3 ∙ ap (λ m. (m.0, (i, Some c.args.new) ∷ rest m.1)) c.load.ensures.2.1 ∙ ap (λ l. (v, (i, Some c.args.new) ∷ l)) inv.empty in
    let is = c.load-2.ensures.2 c.args.new (ap (λ m. m.1) now) in
    let was = ap (λ m. m.0) now in record {
      keeper = ap (λ m. m.0.keeper) is ∙ (ap (λ u. u.keeper) was ∙ inv.keeper);
      worker = ap (λ m. m.0.worker) is ∙ (ap (λ u. u.worker) was ∙ inv.worker);
      out = ap (λ m. m.0.out) is;
      empty = ap (λ m. m.1) is;
    }

pub returns-clause-word : goal.returns-clause-word
returns-clause-word g c = word_keeping g.T.Body.fit c.args.seat.now _ c.args.i (Some c.args.new) (subst (λ z. c.args.i < z.slots) (sym c.requires.slots) c.requires.inside) refl (search rules)
