use Rattle.std.proofs.Common.{rules, ap, ◌∙◌, sym, subst, refl, ◌<◌, ◌+◌, ◌∷◌, None, Some}
use mathlib.Core.Option.{none}
use Rattle.atomic_table.specs.Table.{step, rest}
use Rattle.fol_slots.specs.Steps.{claiming}
use Rattle.fol_slots.proofs.ClaimSteps.{claims, empties, looks}
use Rattle.fol_slots.proofs.slots.Slots.try_claim.Goals as goal

pub load-seen-requires : goal.load-seen-requires
load-seen-requires g c =
    let i = c.args.i in
    let slots = c.args.self.now in (
      search rules,
      subst (λ k. i < k) (sym slots.one_word_each) c.requires.inside,
      looks g.T.Body.fit _ (step 0 i 0 0 none) _ _ _ (subst (λ k. i < k) slots.one_slot_each c.requires.inside),
    )

pub compare_exchange-found-requires : goal.compare_exchange-found-requires
compare_exchange-found-requires g c =
    let i = c.args.i in
    let slots = c.args.self.now in
    let free = ap (λ s. s.slot) c.seat.view_is ∙ c.requires.free in
    let inv = c.seat.invariant in
    let same = c.load-seen.ensures.2.0 c.if-seen-ne-READY.false in (
      search rules,
      subst (λ k. i < k) (sym slots.one_word_each) c.requires.inside,
      claims g.T.Body.fit _ (step 0 i 0 0 none) _ _ _ _ (subst (λ k. i < k) slots.one_slot_each c.requires.inside) (ap (λ m. m.0.worker) same ∙ inv.worker)
          (c.ticking-claimed.ensures ∙ ap (λ k. k + 1) (sym inv.number_is) ∙ ap (λ m. m.0.number + 1) (sym same)) (ap (λ m. m.0.slot) same ∙ free) (ap (λ m. m.0.out) same ∙ inv.out),
    )

pub exchange-requires : goal.exchange-requires
exchange-requires g c =
    let won = c.compare_exchange-found.ensures.2.0 c.if-found-ne-READY.false in
    let out = ap (λ m. m.1) won.1 in (
      search rules,
      (Some won.0, out ∙ ap (λ l. (c.args.i, Some won.0) ∷ rest l) (sym out)),
    )

pub load-requires : goal.load-requires
load-requires g c =
    let i = c.args.i in
    let slots = c.args.self.now in
    let inv = c.seat.invariant in
    let won = c.compare_exchange-found.ensures.2.0 c.if-found-ne-READY.false in
    let same = c.load-seen.ensures.2.0 c.if-seen-ne-READY.false in
    let v = claiming c.load-seen.new.seat.me.0 i won.0 in
    let now = c.exchange.ensures.3 ∙ ap (λ m. (m.0, (i, None) ∷ rest m.1)) won.1 ∙ ap (λ l. (v, (i, None) ∷ l)) (ap (λ m. m.1) same ∙ inv.empty) in (
      search rules,
      subst (λ k. i < k) (sym slots.one_word_each) c.requires.inside,
      empties g.T.Body.fit _ (step 0 i 0 0 none) _ _ _ v (subst (λ k. i < k) slots.one_slot_each c.requires.inside) now (ap (λ m. m.0.worker) same ∙ inv.worker) refl refl,
    )
