use Rattle.std.proofs.Common.{rules, ◌≡◌, ℕ, ◌<◌, List, sym, subst, ap, ◌∙◌, true, IsSomeAnd, Some}
use Rattle.fol_model.specs.Run.{Run}
use Rattle.fol_core.specs.Answers.{is_free}
use Rattle.fol_core.specs.Meaning.{Meaning}
use Rattle.fol_slots.specs.declared.view.Place.{Place}
use Rattle.fol_slots.specs.Shown.{Keeper, keeping, offering, place_at}
use Rattle.fol_slots.proofs.Callers.{place_here}
use Rattle.fol_offers.specs.Offered.{Offered, of_tick}
use Rattle.fol_offers.specs.Fit.{IsFit}
use Rattle.fol_offers.specs.Tied.{Tied}
use Rattle.fol_offers.proofs.Facts.{free_given, free_has_none, fit_now, free_may_begin, stays_free}
use Rattle.fol_offers.proofs.Tying.{tied_stays, tied_offers}
use Rattle.fol_offers.proofs.offers.Offers.offer.Goals as goal

pub reserve_with-requires : goal.reserve_with-requires
reserve_with-requires c = record { given = free_given c.self.inside.core c.args.region c.self.invariant.grid (search rules) (subst (λ v. is_free v.core c.args.region ≡ true) (sym c.self.view_is) c.requires.free) }

pub invariant_of-self : goal.invariant_of-self
invariant_of-self c = tied_stays c.self.inside.core c.reserve_with.new.self c.self.inside.keeper c.self.inside.places c.reserve_with.ensures.same c.self.invariant

pub put-requires-clause-id : goal.put-requires-clause-id
put-requires-clause-id c = (free_given c.self.inside.core c.args.region c.self.invariant.grid (search rules) (subst (λ v. is_free v.core c.args.region ≡ true) (sym c.self.view_is) c.requires.free)).above

pub put-requires-clause-fresh : goal.put-requires-clause-fresh
put-requires-clause-fresh c = free_has_none c.self.inside.core c.self.inside.keeper c.self.inside.places c.args.region c.self.invariant (search rules) (subst (λ v. is_free v.core c.args.region ≡ true) (sym c.self.view_is) c.requires.free)

pub invariant_of-self-in-Err : goal.invariant_of-self-in-Err
invariant_of-self-in-Err c = subst (λ (xs : List ℕ). Tied c.reserve_with.new.self c.self.inside.keeper xs) (sym (search rules)) (tied_stays c.self.inside.core c.reserve_with.new.self c.self.inside.keeper c.self.inside.places c.reserve_with.ensures.same c.self.invariant)

pub prepare_in-requires-clause-free : goal.prepare_in-requires-clause-free
prepare_in-requires-clause-free c = stays_free c.self.inside.core c.reserve_with.new.self c.args.region c.reserve_with.ensures.same ∙ subst (λ v. is_free v.core c.args.region ≡ true) (sym c.self.view_is) c.requires.free

pub offer-requires-clause-kept : goal.offer-requires-clause-kept
offer-requires-clause-kept c =
    let m : Meaning = c.reserve_with.new.self in
    let s = c.self.inside.keeper in
    let i = c.in-Ok.i in
    let tied = tied_stays c.self.inside.core m s c.self.inside.places c.reserve_with.ensures.same c.self.invariant in
    let run : Run m.opening m.history = rw (c.reserve_with.ensures.same.opening, c.reserve_with.ensures.same.history) (search rules) in
    let free : is_free m c.args.region ≡ true = stays_free c.self.inside.core m c.args.region c.reserve_with.ensures.same ∙ subst (λ v. is_free v.core c.args.region ≡ true) (sym c.self.view_is) c.requires.free in
    let allowed = free_may_begin m c.args.region tied.grid run free (search rules) in
    let made : c.of-offer.result ≡ of_tick c.prepare_in.new.tick = c.of-offer.ensures in
    let fits : IsFit c.of-offer.result = subst IsFit (sym made) (fit_now m c.args.region c.prepare_in.new.tick tied.grid run allowed c.prepare_in.ensures.tick) in
    subst (λ (x : Keeper Offered). IsSomeAnd (place_at x i).kept IsFit) (sym c.body-nothing.ensures.seat)
    (subst (λ (p : Place Offered). IsSomeAnd p.kept IsFit) (sym (place_here s i _ (subst (λ (l : ℕ). i < l) (sym tied.places) c.in-Ok.ensures.free.0))) fits)

pub invariant_of-self-in-Ok-2 : goal.invariant_of-self-in-Ok-2
invariant_of-self-in-Ok-2 c =
    let m : Meaning = c.reserve_with.new.self in
    let n : Meaning = c.prepare_in.new.self in
    let s = c.self.inside.keeper in
    let xs = c.self.inside.places in
    let i = c.in-Ok.i in
    let r = c.args.region in
    let tick = c.prepare_in.new.tick in
    let tied = tied_stays c.self.inside.core m s xs c.reserve_with.ensures.same c.self.invariant in
    let run : Run m.opening m.history = rw (c.reserve_with.ensures.same.opening, c.reserve_with.ensures.same.history) (search rules) in
    let free : is_free m r ≡ true = stays_free c.self.inside.core m r c.reserve_with.ensures.same ∙ subst (λ v. is_free v.core r ≡ true) (sym c.self.view_is) c.requires.free in
    let allowed = free_may_begin m r tied.grid run free (search rules) in
    let given = free_given m r tied.grid run free in
    let made : c.of-offer.result ≡ of_tick tick = c.of-offer.ensures in
    let at_end : c.offer.new.seat ≡ offering (keeping s i (Some (of_tick tick))) i
    = c.offer.ensures ∙ ap (λ (x : Keeper Offered). offering x i) c.body-nothing.ensures.seat ∙ ap (λ (o : Offered). offering (keeping s i (Some o)) i) made in
    subst (λ (x : Keeper Offered). Tied n x c.put.new.self) (sym at_end)
    (subst (λ (ys : List ℕ). Tied n (offering (keeping s i (Some (of_tick tick))) i) ys) (sym c.in-Ok.ensures.placed)
    (tied_offers m n s xs tied i r c.in-Ok.ensures.free.0 given.above tick c.in-Ok.ensures.free.1 (free_has_none m s xs r tied run free) (search rules) c.prepare_in.ensures.prepared allowed c.prepare_in.ensures.tick c.prepare_in.ensures.room))

pub invariant_of-self-in_err-boxed : goal.invariant_of-self-in_err-boxed
invariant_of-self-in_err-boxed c = tied_stays c.self.inside.core c.reserve_with.new.self c.self.inside.keeper c.self.inside.places c.reserve_with.ensures.same c.self.invariant
