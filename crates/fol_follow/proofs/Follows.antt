-- The entities of a visit are those that the End leaves.
use Rattle.std.proofs.Common.{◌≡◌, ℕ, refl, ◌∙◌, ap, List}
use Rattle.std.specs.Prelude.{if◌then◌else◌, None}
use Rattle.std.specs.Option.{option_map}
use Rattle.fol_model.specs.declared.tasks.Ran.{Ran}
use Rattle.fol_model.specs.ActionStep.{Flat, Standing}
use Rattle.fol_model.specs.World.{World}
use Rattle.fol_model.specs.End.{dropped, run_down, ticked}
use Rattle.fol_laws.proofs.DetachedLaws.{tick_is_detached}
use Rattle.fol_chunks.specs.Contents.{within}
use Rattle.fol_world.specs.AtEnd.{AtEnd}
use Rattle.fol_world.specs.Hands.{since}
use Rattle.fol_core.specs.Meaning.{world_of}
use Rattle.fol_core.proofs.EndFacts.{at_end}
use Rattle.fol_core.proofs.OutAtBegin.{out_at_begin}
use Rattle.fol_follow.specs.Here.{is_known}
use Rattle.fol_follow.specs.Follows.{TickKeepsItsEntities, VisitTellsTheEnd}

pub tick_keeps_its_entities : TickKeepsItsEntities
tick_keeps_its_entities ran o es mid rest e r ok begins none run = λ id. let d = tick_is_detached ran o es mid rest e r ok begins none run in d.flat.standing id

-- the holds that an End drops leave blocks and entities as they are
down_flat : (w : World) (r : ℕ) (ran : List Ran) → (run_down w r ran).flat ≡ (ticked w r ran).flat
unfolding dropped
down_flat w r ran = refl

pub visit_tells_the_end : VisitTellsTheEnd
visit_tells_the_end m tick here ok run out are = λ id.
    let at : AtEnd (world_of m) (since m.opening m.history) tick = at_end m.opening ok m.history run tick (out_at_begin m ok run tick out) in
    are.each id
    ∙ ap (λ (f : Flat). if is_known m.opening id then option_map (λ (s : Standing). s.at) (f.standing id) else None)
    (at.contents ∙ ap (within ((world_of m).recorded tick.region)) (down_flat (world_of m) tick.region tick.log.ran))
