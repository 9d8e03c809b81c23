use Rattle.std.proofs.Common.{◌≡◌, ℕ, ◌<◌, refl, sym, ◌∙◌, ap, subst, true, false}
use Rattle.std.specs.Prelude.{nat_eq}
use Rattle.fol_model.specs.Drop.{drop_hold}
use Rattle.fol_model.specs.GridState.{GridState}
use Rattle.fol_regions.specs.Table.{grid_state}
use Rattle.fol_sections.specs.declared.answers.Removed.TheVariants.{Gone, Lowered, NotLoaded}
use Rattle.fol_store.specs.Stock.{bag_of}
use Rattle.fol_world.specs.Bags.{unsettled_at}
use Rattle.fol_world.specs.Follows.{IsKnown, Narrows, Settle, losing}
use Rattle.fol_world.proofs.Loosened.{gone_one, not_gone_one}
use Rattle.fol_world.proofs.SettledBags.{settle_same}
use Rattle.fol_world.proofs.holds.lower.Goals as goal

-- no owner changes
pub lose_chunk-requires-clause-known : goal.lose_chunk-requires-clause-known
unfolding drop_hold
lose_chunk-requires-clause-known c = subst (λ (g : GridState). IsKnown (bag_of c.args.store.now) (g.owner c.args.home)) (sym c.remove.ensures.state) c.requires.known

pub lose_chunk-requires-clause-near : goal.lose_chunk-requires-clause-near
unfolding drop_hold
lose_chunk-requires-clause-near c =
    let e : nat_eq ((grid_state c.args.regions.now).holds c.args.c) 1 ≡ true = gone_one (grid_state c.args.regions.now) c.args.c (sym c.remove.ensures.answer ∙ c.in-Gone.is) in
    subst (λ (g : GridState). 0 < g.owner c.args.home → Narrows g c.args.c (g.owner c.args.home) (bag_of c.args.store.now (g.owner c.args.home))) (sym c.remove.ensures.state) (λ l. c.requires.near l e)

pub lose_chunk-requires-clause-no_task : goal.lose_chunk-requires-clause-no_task
lose_chunk-requires-clause-no_task c = c.requires.no_task (gone_one (grid_state c.args.regions.now) c.args.c (sym c.remove.ensures.answer ∙ c.in-Gone.is))

pub returns-in-Gone-clause-bags : goal.returns-in-Gone-clause-bags
unfolding losing drop_hold
returns-in-Gone-clause-bags c =
    let e : nat_eq ((grid_state c.args.regions.now).holds c.args.c) 1 ≡ true = gone_one (grid_state c.args.regions.now) c.args.c (sym c.remove.ensures.answer ∙ c.in-Gone.is) in
    let same : (grid_state c.remove.new.self).owner c.args.home ≡ (grid_state c.args.regions.now).owner c.args.home = ap (λ (g : GridState). g.owner c.args.home) c.remove.ensures.state in
    let P : ℕ → Type 0 = λ n. Settle (grid_state c.remove.new.self) (unsettled_at n (bag_of c.args.store.now)) (bag_of c.lose_chunk.new.store) in
    rw e (subst P same c.lose_chunk.ensures.bags)

pub returns-in-Lowered-clause-bags : goal.returns-in-Lowered-clause-bags
unfolding losing
returns-in-Lowered-clause-bags c =
    let e : nat_eq ((grid_state c.args.regions.now).holds c.args.c) 1 ≡ false = not_gone_one (grid_state c.args.regions.now) c.args.c (λ z. let x : Lowered ≡ Gone = sym c.in-Lowered.is ∙ c.remove.ensures.answer ∙ z in absurd (cc)) in
    rw e (settle_same (grid_state c.remove.new.self) (bag_of c.args.store.now) (bag_of c.args.store.now) refl)

pub returns-in-NotLoaded-clause-bags : goal.returns-in-NotLoaded-clause-bags
unfolding losing
returns-in-NotLoaded-clause-bags c =
    let e : nat_eq ((grid_state c.args.regions.now).holds c.args.c) 1 ≡ false = not_gone_one (grid_state c.args.regions.now) c.args.c (λ z. let x : NotLoaded ≡ Gone = sym c.in-NotLoaded.is ∙ c.remove.ensures.answer ∙ z in absurd (cc)) in
    rw e (settle_same (grid_state c.remove.new.self) (bag_of c.args.store.now) (bag_of c.args.store.now) refl)
