use Rattle.std.proofs.Common.{refl, sym, ◌∙◌, ap, cond}
use Rattle.std.specs.Option.{unwrap_or}
use Rattle.fol_laws.proofs.SamePlaces.{same_section-self}
use Rattle.fol_sections.specs.Pages.{chunks_at, counts_at, is_here, near_at, no_counts}
use Rattle.fol_sections.specs.declared.pages.Counts.{Counts}
use Rattle.fol_sections.proofs.NumberSteps.{chunks-put, here-put}
use Rattle.fol_sections.proofs.PageRuns.{some_is}
use Rattle.fol_sections.proofs.TurnSteps.{chunks-turned, near-kept}
use Rattle.fol_sections.proofs.sections.count_chunk.Goals as goal

pub returns-clause-after : goal.returns-clause-after
returns-clause-after c =
    sym (chunks-put c.args.pages.now.entries _ c.args.home _ c.count.ensures.put c.args.home ∙ ap (λ b. cond b c.count.result (chunks_at c.args.pages.now.entries c.args.home)) (same_section-self c.args.home))

pub returns-clause-chunks : goal.returns-clause-chunks
unfolding is_here chunks_at
returns-clause-chunks c =
    let was : Counts = unwrap_or (counts_at c.args.pages.now.entries c.args.home) no_counts in
    chunks-turned c.args.pages.now.entries _ c.args.home was _ c.args.turn (some_is (counts_at c.args.pages.now.entries c.args.home) c.requires.here) c.count.ensures.put c.count.ensures.after

pub returns-clause-here : goal.returns-clause-here
returns-clause-here c = here-put c.args.pages.now.entries _ c.args.home _ c.count.ensures.put c.requires.here

pub returns-clause-near : goal.returns-clause-near
unfolding is_here near_at
returns-clause-near c =
    let was : Counts = unwrap_or (counts_at c.args.pages.now.entries c.args.home) no_counts in
    near-kept c.args.pages.now.entries _ c.args.home was _ c.args.turn (some_is (counts_at c.args.pages.now.entries c.args.home) c.requires.here) c.count.ensures.put refl
