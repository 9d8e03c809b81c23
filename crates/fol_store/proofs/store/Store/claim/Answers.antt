use Rattle.std.proofs.Common.{◌≡◌, ◌<◌, true, length, refl, ◌∙◌, ap, inl, inr}
use Rattle.fol_keyed.proofs.Places.{same_chunk-self}
use Rattle.fol_store.specs.contracts.store.Store.{the_view}
use Rattle.fol_bags.specs.declared.places.Place.{Place}
use Rattle.fol_store.specs.Stock.{slot, place}
use Rattle.fol_store.specs.Steps.{IsTarget}
use Rattle.fol_bags.proofs.OpenBags.{here_range}
use Rattle.fol_store.proofs.Drawing.{Drawn}
use Rattle.fol_store.proofs.Stepping.{with_places, same_places, claimed, target_here, target_listed}
use Rattle.fol_store.proofs.store.Store.claim.Goals as goal
use Rattle.fol_keyed.proofs.Answers.{answer_cases}

step : (c : goal.After-set) → Drawn c.args.id c.args.chunks.now (the_view c.self.inside) (with_places (the_view c.self.inside) c.set.new.self)
step c =
    let target : IsTarget c.args.id c.args.chunks.now (the_view c.self.inside) = rw (← c.self.view_is) at c.requires.target in
    let here : (slot (the_view c.self.inside) c.args.id).here ≡ true = target_here c.args.id c.args.chunks.now (the_view c.self.inside) target in
    let l : c.args.id < length c.self.inside.bags.items = here_range c.self.inside.bags.items c.args.id here in
    let there : c.args.place ≡ place (the_view c.self.inside) c.args.c = rw (← c.self.view_is) at c.requires.there in
    elim (answer_cases c.set.result) [
      | inl w ↦ claimed (the_view c.self.inside) c.set.new.self c.args.c c.args.id c.args.place there (rw w.1 at c.set.ensures.ok) c.requires.none c.args.chunks.now l (target_listed c.args.id c.args.chunks.now (the_view c.self.inside) target c.args.c c.requires.listed) c.self.invariant
      | inr w ↦ same_places (the_view c.self.inside) c.set.new.self (rw w.1 at c.set.ensures.err) c.args.id c.args.chunks.now c.self.invariant
    ]

pub invariant_of-self : goal.invariant_of-self
invariant_of-self c = (step c).sound

pub returns-clause-draws : goal.returns-clause-draws
returns-clause-draws c = rw (← c.self.view_is) (step c).draws

pub returns-clause-home : goal.returns-clause-home
returns-clause-home c =
    elim (answer_cases c.set.result) [
      | inl w ↦ let ok = rw w.1 at c.set.ensures.ok in rw w.1 (ap (λ (p : Place). p.bag) (ok c.args.c) ∙ rw (same_chunk-self c.args.c) refl)
      | inr w ↦ rw w.1 tt
    ]
