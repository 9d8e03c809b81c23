use Rattle.std.proofs.Common.{◌∙◌, ap, Bool, true, ℕ}
use Rattle.fol_laws.proofs.FunctionsChanged.{at_here}
use Rattle.fol_core.specs.Meaning.{is_prepared, world_of}
use Rattle.fol_tick_laws.proofs.OpenTicks.{by_its_own}
use Rattle.fol_tick_laws.proofs.Unprepared.{none_learnt}
use Rattle.fol_tick_laws.proofs.early.takes_back.Goals as goal

pub withdraw-requires-clause-prepared : goal.withdraw-requires-clause-prepared
withdraw-requires-clause-prepared g c =
    let region = c.prepare-early.ensures.tick.region in
    rw (c.touches.ensures, region) (ap (λ (p : ℕ → Bool). p 1) c.prepare-early.ensures.prepared.prepared ∙ at_here (is_prepared c.args.core.now) 1 true)

pub withdraw-requires-clause-tick : goal.withdraw-requires-clause-tick
withdraw-requires-clause-tick g c =
    let is = c.prepare-early.ensures.tick in
    let made = c.prepare-early.ensures.prepared in
    rw (c.touches.ensures, made.opening, made.history) (by_its_own (world_of c.args.core.now) _ 0 1 c.prepare-early.result is)

pub makes_ready-requires : goal.makes_ready-requires
makes_ready-requires g c =
    let region = c.prepare-early.ensures.tick.region in
    record { none = none_learnt c.args.core.now c.prepare-early.new.self c.withdraw.new.self 1 c.requires.none c.prepare-early.ensures.prepared.prepared (rw (c.touches.ensures, region) at c.withdraw.ensures.withdrawn.prepared) }

pub returns-else-not-withdraw-clause-none : goal.returns-else-not-withdraw-clause-none
returns-else-not-withdraw-clause-none g c =
    let region = c.prepare-early.ensures.tick.region in
    none_learnt c.args.core.now c.prepare-early.new.self c.withdraw.new.self 1 c.requires.none c.prepare-early.ensures.prepared.prepared (rw (c.touches.ensures, region) at c.withdraw.ensures.withdrawn.prepared)
