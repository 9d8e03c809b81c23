use Rattle.std.proofs.Common.{◌≡◌, ℕ, zero, suc, refl, sym, ◌∙◌, ap}
use Rattle.std.specs.Fn.{iterate}
use Rattle.fol_model.specs.ActionStep.{Flat}
use Rattle.fol_model.specs.FlatTick.{moved}
use Rattle.fol_chunks.specs.Contents.{flat_of, is_recorded}
use Rattle.fol_bags.proofs.slots.walk.Goals as goal

-- what one movement leaves as it is, many leave so too
stays : (f : Flat → Flat) (x : Flat) → f x ≡ x → (n : ℕ) → iterate f n x ≡ x
stays f x e zero = refl
stays f x e (suc n) = ap (iterate f n) e ∙ stays f x e n

pub returns-else-not-is_still-clause-contents : goal.returns-else-not-is_still-clause-contents
returns-else-not-is_still-clause-contents c =
    sym (stays (moved (is_recorded c.args.list.now)) (flat_of c.args.chunks.now) (c.is_still.ensures c.if-not-is_still.false (is_recorded c.args.list.now)) c.args.ticks)
