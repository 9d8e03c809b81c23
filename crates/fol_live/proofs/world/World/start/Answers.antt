use Rattle.std.proofs.Common.{◌≡◌, ◌∙◌, sym, ap, subst, rules}
use Rattle.fol_model.specs.GridNumbers.{IsGrid}
use Rattle.fol_core.specs.Meaning.{Meaning}
use Rattle.fol_offers.specs.Shown as offers
use Rattle.fol_live.specs.Kept.{IsKept}
use Rattle.fol_live.specs.Shown.{shown}
use Rattle.fol_offers.proofs.Turns.{turns_first}
use Rattle.fol_live.proofs.Moved.{kept_none}
use Rattle.fol_live.proofs.world.World.start.Goals as goal

pub start-requires-2-clause-turns : goal.start-requires-2-clause-turns
start-requires-2-clause-turns c = turns_first c.args.workers c.in_ok-core.core.history c.in_ok-core.ensures.empty

pub invariant_of-world : goal.invariant_of-world
invariant_of-world c =
    let made : offers.Shown = c.in_ok-offers.field-0.offers in
    let core : made.core ≡ c.in_ok-core.core = c.in_ok-offers.ensures.core in
    let opening = ap (λ (m : Meaning). m.opening) core ∙ c.in_ok-core.ensures.opening in
    let grid : IsGrid c.args.opening.grid = search rules in
    let kept : IsKept (shown made) = kept_none made.workers made.core.opening made.core.history (rw opening grid) (ap (λ (m : Meaning). m.history) core ∙ c.in_ok-core.ensures.empty) in
    (subst (λ (s : offers.Shown). IsKept (shown s)) (sym c.in_ok-offers-2.ensures.ok) kept, λ never. absurd (cc))
