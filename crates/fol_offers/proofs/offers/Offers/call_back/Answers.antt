use Rattle.std.proofs.Common.{rules, ◌≡◌, ℕ, List, sym, subst, ap, ◌∙◌, true, Some}
use Rattle.std.specs.Prelude.{nat_eq}
use Rattle.fol_data.specs.declared.tick.Tick.{Tick}
use Rattle.fol_core.specs.Ahead.{Withdraws}
use Rattle.fol_core.specs.Meaning.{Meaning, is_prepared}
use Rattle.fol_slots.specs.Shown.{Keeper, keeping, place_at}
use Rattle.fol_offers.specs.Offered.{Offered, nothing}
use Rattle.fol_offers.specs.Shown.{CallsBack, Shown}
use Rattle.fol_offers.specs.Tied.{Tied}
use Rattle.fol_offers.proofs.CalledBack.{back_learnt, back_withdrawn}
use Rattle.fol_offers.proofs.Facts.{prepared_on, waits_now}
use Rattle.fol_offers.proofs.Tying.{came_back, tied_withdraws, tied_learns}
use Rattle.fol_offers.proofs.offers.Offers.call_back.Goals as goal

pub withdraw_in-requires-clause-prepared : goal.withdraw_in-requires-clause-prepared
withdraw_in-requires-clause-prepared c =
    let m : Meaning = c.self.inside.core in
    let marked : is_prepared m c.args.region ≡ true = subst (λ (v : Shown). is_prepared v.core c.args.region ≡ true) (sym c.self.view_is) c.requires.prepared in
    let w = came_back m c.self.inside.keeper c.try_keep.new.seat c.self.inside.places c.in-Some.i c.args.region c.body.result c.deref_mut.result.now c.self.invariant c.in-Some.ensures.some.0 c.in-Some.ensures.some.1 marked c.in-Kept.ensures.answer.1 c.body.ensures.old (c.into_tick-boxed.ensures ∙ ap (λ (t : Tick). Some t) (sym c.deref_mut.ensures.value)) in
    ap (is_prepared m) w.is.region ∙ marked

pub withdraw_in-requires-clause-tick : goal.withdraw_in-requires-clause-tick
withdraw_in-requires-clause-tick c =
    let m : Meaning = c.self.inside.core in
    let marked : is_prepared m c.args.region ≡ true = subst (λ (v : Shown). is_prepared v.core c.args.region ≡ true) (sym c.self.view_is) c.requires.prepared in
    let w = came_back m c.self.inside.keeper c.try_keep.new.seat c.self.inside.places c.in-Some.i c.args.region c.body.result c.deref_mut.result.now c.self.invariant c.in-Some.ensures.some.0 c.in-Some.ensures.some.1 marked c.in-Kept.ensures.answer.1 c.body.ensures.old (c.into_tick-boxed.ensures ∙ ap (λ (t : Tick). Some t) (sym c.deref_mut.ensures.value)) in
    waits_now m c.args.region c.deref_mut.result.now c.self.invariant.grid (search rules) w

pub withdraw_in-requires-clause-room : goal.withdraw_in-requires-clause-room
withdraw_in-requires-clause-room c =
    let m : Meaning = c.self.inside.core in
    let marked : is_prepared m c.args.region ≡ true = subst (λ (v : Shown). is_prepared v.core c.args.region ≡ true) (sym c.self.view_is) c.requires.prepared in
    let w = came_back m c.self.inside.keeper c.try_keep.new.seat c.self.inside.places c.in-Some.i c.args.region c.body.result c.deref_mut.result.now c.self.invariant c.in-Some.ensures.some.0 c.in-Some.ensures.some.1 marked c.in-Kept.ensures.answer.1 c.body.ensures.old (c.into_tick-boxed.ensures ∙ ap (λ (t : Tick). Some t) (sym c.deref_mut.ensures.value)) in
    w.room

pub invariant_of-self : goal.invariant_of-self
invariant_of-self c =
    let m : Meaning = c.self.inside.core in
    let n : Meaning = c.withdraw_in.new.self in
    let s : Keeper Offered = c.self.inside.keeper in
    let xs : List ℕ = c.self.inside.places in
    let i : ℕ = c.in-Some.i in
    let marked : is_prepared m c.args.region ≡ true = subst (λ (v : Shown). is_prepared v.core c.args.region ≡ true) (sym c.self.view_is) c.requires.prepared in
    let w = came_back m s c.try_keep.new.seat xs i c.args.region c.body.result c.deref_mut.result.now c.self.invariant c.in-Some.ensures.some.0 c.in-Some.ensures.some.1 marked c.in-Kept.ensures.answer.1 c.body.ensures.old (c.into_tick-boxed.ensures ∙ ap (λ (t : Tick). Some t) (sym c.deref_mut.ensures.value)) in
    let did : Withdraws m n c.args.region = subst (λ (r : ℕ). Withdraws m n r) w.is.region c.withdraw_in.ensures.withdrawn in
    let at_end : c.body.new.seat ≡ keeping (keeping s i (place_at s i).offered) i (Some nothing) = c.body.ensures.seat ∙ ap (λ (x : Keeper Offered). keeping x i (Some c.nothing.result)) c.in-Kept.ensures.answer.1
    ∙ ap (λ (o : Offered). keeping (keeping s i (place_at s i).offered) i (Some o)) c.nothing.ensures in
    subst (λ (x : Keeper Offered). Tied n x c.clear.new.self) (sym at_end)
    (subst (λ (ys : List ℕ). Tied n (keeping (keeping s i (place_at s i).offered) i (Some nothing)) ys) (sym c.clear.ensures)
    (tied_withdraws m n s xs c.self.invariant i c.args.region c.in-Some.ensures.some.0 (c.self.invariant.prepared c.args.region marked).1 (place_at s i).offered c.in-Some.ensures.some.1 marked did))

pub invariant_of-self-in-Busy : goal.invariant_of-self-in-Busy
invariant_of-self-in-Busy c =
    let m : Meaning = c.self.inside.core in
    let n : Meaning = c.learn.new.self in
    let marked : is_prepared m c.args.region ≡ true = subst (λ (v : Shown). is_prepared v.core c.args.region ≡ true) (sym c.self.view_is) c.requires.prepared in
    subst (λ (x : Keeper Offered). Tied n x c.self.inside.places) (sym c.in-Busy.ensures.answer.4)
    (tied_learns m n c.self.inside.keeper c.self.inside.places c.self.invariant c.in-Some.i c.args.region c.in-Some.ensures.some.0 (c.self.invariant.prepared c.args.region marked).1 c.args.by c.in-Busy.worker (search rules) c.in-Busy.ensures.answer.3 (c.in-Busy.ensures.answer.1, c.in-Busy.ensures.answer.2) c.in-Some.ensures.some.1 marked (prepared_on m c.self.inside.keeper c.self.inside.places c.args.region c.self.invariant marked) c.learn.ensures)

pub learn-requires-clause-on : goal.learn-requires-clause-on
learn-requires-clause-on c =
    let marked : is_prepared c.self.inside.core c.args.region ≡ true = subst (λ (v : Shown). is_prepared v.core c.args.region ≡ true) (sym c.self.view_is) c.requires.prepared in
    prepared_on c.self.inside.core c.self.inside.keeper c.self.inside.places c.args.region c.self.invariant marked

pub returns-in-Kept : goal.returns-in-Kept
returns-in-Kept c =
    let m : Meaning = c.self.inside.core in
    let n : Meaning = c.withdraw_in.new.self in
    let k : Keeper Offered = c.body.new.seat in
    let old : Shown = record { core = m; slots = c.self.inside.keeper.slots; workers = c.self.inside.keeper.workers } in
    let new : Shown = record { core = n; slots = k.slots; workers = k.workers } in
    let marked : is_prepared m c.args.region ≡ true = subst (λ (v : Shown). is_prepared v.core c.args.region ≡ true) (sym c.self.view_is) c.requires.prepared in
    let w = came_back m c.self.inside.keeper c.try_keep.new.seat c.self.inside.places c.in-Some.i c.args.region c.body.result c.deref_mut.result.now c.self.invariant c.in-Some.ensures.some.0 c.in-Some.ensures.some.1 marked c.in-Kept.ensures.answer.1 c.body.ensures.old (c.into_tick-boxed.ensures ∙ ap (λ (t : Tick). Some t) (sym c.deref_mut.ensures.value)) in
    let did : Withdraws m n c.args.region = subst (λ (r : ℕ). Withdraws m n r) w.is.region c.withdraw_in.ensures.withdrawn in
    let slots : k.slots ≡ c.self.inside.keeper.slots = ap (λ (x : Keeper Offered). x.slots) c.body.ensures.seat ∙ ap (λ (x : Keeper Offered). x.slots) c.in-Kept.ensures.answer.1 in
    let workers : k.workers ≡ c.self.inside.keeper.workers = ap (λ (x : Keeper Offered). x.workers) c.body.ensures.seat ∙ ap (λ (x : Keeper Offered). x.workers) c.in-Kept.ensures.answer.1 in
    subst (λ (v : Shown). CallsBack v new c.args.by (nat_eq c.args.region)) c.self.view_is (back_withdrawn old new c.args.by c.args.region slots workers did)

pub returns-in-Busy : goal.returns-in-Busy
returns-in-Busy c =
    let m : Meaning = c.self.inside.core in
    let n : Meaning = c.learn.new.self in
    let k : Keeper Offered = c.try_keep.new.seat in
    let old : Shown = record { core = m; slots = c.self.inside.keeper.slots; workers = c.self.inside.keeper.workers } in
    let new : Shown = record { core = n; slots = k.slots; workers = k.workers } in
    let marked : is_prepared m c.args.region ≡ true = subst (λ (v : Shown). is_prepared v.core c.args.region ≡ true) (sym c.self.view_is) c.requires.prepared in
    let slots : k.slots ≡ c.self.inside.keeper.slots = ap (λ (x : Keeper Offered). x.slots) c.in-Busy.ensures.answer.4 in
    let workers : k.workers ≡ c.self.inside.keeper.workers = ap (λ (x : Keeper Offered). x.workers) c.in-Busy.ensures.answer.4 in
    subst (λ (v : Shown). CallsBack v new c.args.by (nat_eq c.args.region)) c.self.view_is (back_learnt old new c.args.by c.in-Busy.worker c.args.region slots workers marked c.learn.ensures)
