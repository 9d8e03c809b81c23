use Rattle.std.proofs.Common.{◌≡◌, ◌<◌, [], length, refl, ◌∙◌, ap, inl, inr}
use Rattle.fol_store.specs.contracts.store.Store.{the_view}
use Rattle.fol_bags.specs.declared.places.Place.{Place}
use Rattle.fol_store.specs.Stock.{Stock, place}
use Rattle.fol_store.proofs.Arriving.{Changed, spot_named}
use Rattle.fol_store.proofs.Stepping.{same_places}
use Rattle.fol_model.specs.Geometry.{same_chunk}
use Rattle.fol_keyed.proofs.Places.{same_chunk-self, same_chunk-true}
use Rattle.std.proofs.lemmas.Bool.{cases_Bool}
use Rattle.fol_store.proofs.store.Store.name_spot.Goals as goal

there : (c : goal.In_ok-set) → c.args.place ≡ place (the_view c.self.inside) c.args.c
there c = rw (← c.self.view_is) at c.requires.there

step : (c : goal.In_ok-set) → Changed (the_view c.self.inside) (let t : Stock = record (the_view c.self.inside) { places = c.set.new.self } in t)
step c =
    let range : c.args.i < length c.self.inside.spots.items = rw (← c.self.view_is) at c.requires.range in
    spot_named (the_view c.self.inside) c.set.new.self c.args.c c.args.i c.args.place (there c) c.requires.none c.in_ok-set.ensures.ok range c.self.invariant

pub invariant_of-self : goal.invariant_of-self
invariant_of-self c = (same_places (the_view c.self.inside) c.set.new.self c.in_err-set.ensures.err 0 [] c.self.invariant).sound

pub returns-in_err-set-clause-same : goal.returns-in_err-set-clause-same
returns-in_err-set-clause-same c = rw (← c.self.view_is) (same_places (the_view c.self.inside) c.set.new.self c.in_err-set.ensures.err 0 [] c.self.invariant).draws.same

pub invariant_of-self-2 : goal.invariant_of-self-2
invariant_of-self-2 c = (step c).sound

pub returns-clause-spot : goal.returns-clause-spot
returns-clause-spot c = ap (λ (p : Place). p.spot) (c.in_ok-set.ensures.ok c.args.c) ∙ rw (same_chunk-self c.args.c) refl

pub returns-clause-same : goal.returns-clause-same
returns-clause-same c = rw (← c.self.view_is) (step c).same

pub returns-clause-homes : goal.returns-clause-homes
returns-clause-homes c = λ q.
    rw (← c.self.view_is)
    (elim (cases_Bool (same_chunk c.args.c q)) [
      | inl e ↦ ap (λ (p : Place). p.bag) (c.in_ok-set.ensures.ok q) ∙ rw e (ap (λ (p : Place). p.bag) (there c) ∙ ap (λ z. (place (the_view c.self.inside) z).bag) (same_chunk-true c.args.c q e))
      | inr e ↦ ap (λ (p : Place). p.bag) (c.in_ok-set.ensures.ok q) ∙ rw e refl
    ])
