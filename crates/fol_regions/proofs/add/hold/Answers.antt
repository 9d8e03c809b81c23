use Rattle.std.proofs.Common.{◌≡◌, sym, ◌∙◌, ap, arith, subst, Bool}
use Rattle.std.proofs.lemmas.Bool.{eqb-false}
use Rattle.fol_model.specs.declared.grids.Grid.{Grid}
use Rattle.fol_model.specs.declared.places.SectionPos.{SectionPos}
use Rattle.fol_model.specs.Add.{extended, is_wanted, wanted}
use Rattle.fol_model.specs.Rules.{Rules}
use Rattle.fol_model.specs.Universe.{all_sections}
use Rattle.std.specs.Prelude.{filter}
use Rattle.fol_regions.specs.declared.answers.AddAnswer.TheVariants.{Full}
use Rattle.fol_regions.specs.Added.{bare, extended_change}
use Rattle.fol_regions.specs.Released.{grid_of}
use Rattle.fol_regions.proofs.HoldSteps as steps
use Rattle.fol_regions.proofs.add.hold.Goals as goal

pub add-requires-clause-few : goal.add-requires-clause-few
unfolding grid_of
add-requires-clause-few c = c.requires.few

pub extend-requires-clause-few_ids : goal.extend-requires-clause-few_ids
unfolding grid_of
extend-requires-clause-few_ids c = omega (arith, c.requires.few_ids)

pub extend-requires-clause-rules : goal.extend-requires-clause-rules
extend-requires-clause-rules c =
    subst (λ (g : Grid). Rules (bare g c.args.tables.now)) (sym c.requires.same) (steps.bare_rules c.args.sections.now c.args.tables.now c.requires.presence c.args.c c.requires.rules)

pub extend-requires-clause-wanted : goal.extend-requires-clause-wanted
extend-requires-clause-wanted c =
    let says = steps.filled_says c.args.sections.now c.args.tables.now c.requires.presence c.args.c (sym c.add.ensures.answer ∙ c.in-Filled.is) in
    let adds = c.add.ensures.room (steps.full_same c.args.sections.now c.args.tables.now c.requires.presence c.args.c ∙ says.0) in
    let e = c.filled.ensures ∙ adds.filled in
    subst (λ (g : Grid). c.filled.result.now ≡ filter (is_wanted (bare g c.args.tables.now) c.args.c) all_sections) (sym c.requires.same) (steps.filled_wanted c.args.sections.now c.args.tables.now c.requires.presence c.args.c c.requires.numbers c.requires.in_range c.requires.rules c.filled.result.now e)

pub extend-requires-clause-some : goal.extend-requires-clause-some
extend-requires-clause-some c =
    let says = steps.filled_says c.args.sections.now c.args.tables.now c.requires.presence c.args.c (sym c.add.ensures.answer ∙ c.in-Filled.is) in
    let adds = c.add.ensures.room (steps.full_same c.args.sections.now c.args.tables.now c.requires.presence c.args.c ∙ says.0) in
    let e = c.filled.ensures ∙ adds.filled in
    let len = steps.filled_length c.args.sections.now c.args.tables.now c.requires.presence c.args.c c.requires.numbers c.requires.in_range c.requires.rules c.filled.result.now e in
    let n = eqb-false (wanted (grid_of c.args.sections.now c.args.tables.now) c.args.c) 0 says.1 in
    omega (arith, len, n)

pub extend-requires-clause-few : goal.extend-requires-clause-few
extend-requires-clause-few c =
    let says = steps.filled_says c.args.sections.now c.args.tables.now c.requires.presence c.args.c (sym c.add.ensures.answer ∙ c.in-Filled.is) in
    let adds = c.add.ensures.room (steps.full_same c.args.sections.now c.args.tables.now c.requires.presence c.args.c ∙ says.0) in
    let e = c.filled.ensures ∙ adds.filled in
    let len = steps.filled_length c.args.sections.now c.args.tables.now c.requires.presence c.args.c c.requires.numbers c.requires.in_range c.requires.rules c.filled.result.now e in
    let l = steps.not_full c.args.sections.now c.args.tables.now c.requires.presence c.args.c says.0 in
    omega (arith, len, l)

pub returns-in-Full-clause-state : goal.returns-in-Full-clause-state
returns-in-Full-clause-state c =
    let says = steps.full_says c.args.sections.now c.args.tables.now c.requires.presence c.args.c c.in-Full.present c.in-Full.wanted (sym c.add.ensures.answer ∙ c.in-Full.is) in
    let same = (c.add.ensures.full (steps.full_same c.args.sections.now c.args.tables.now c.requires.presence c.args.c ∙ says.0)).0 in
    steps.same_grid c.args.sections.now c.args.tables.now c.requires.presence c.args.c c.add.new.self same ∙ sym (steps.full_state c.args.sections.now c.args.tables.now c.requires.presence c.args.c says.0)

pub returns-in-Full-clause-answer : goal.returns-in-Full-clause-answer
returns-in-Full-clause-answer c =
    let says = steps.full_says c.args.sections.now c.args.tables.now c.requires.presence c.args.c c.in-Full.present c.in-Full.wanted (sym c.add.ensures.answer ∙ c.in-Full.is) in
    let same = (c.add.ensures.full (steps.full_same c.args.sections.now c.args.tables.now c.requires.presence c.args.c ∙ says.0)).0 in
    (λ i. Full (says.1.0 i) (says.1.1 i)) ∙ sym (steps.full_answer c.args.sections.now c.args.tables.now c.requires.presence c.args.c says.0)

pub returns-in-Full-clause-change : goal.returns-in-Full-clause-change
returns-in-Full-clause-change c =
    let says = steps.full_says c.args.sections.now c.args.tables.now c.requires.presence c.args.c c.in-Full.present c.in-Full.wanted (sym c.add.ensures.answer ∙ c.in-Full.is) in
    let same = (c.add.ensures.full (steps.full_same c.args.sections.now c.args.tables.now c.requires.presence c.args.c ∙ says.0)).0 in
    c.clear.ensures ∙ sym (steps.full_change c.args.sections.now c.args.tables.now c.requires.presence c.args.c says.0)

pub returns-in-Full-clause-presence : goal.returns-in-Full-clause-presence
returns-in-Full-clause-presence c =
    let says = steps.full_says c.args.sections.now c.args.tables.now c.requires.presence c.args.c c.in-Full.present c.in-Full.wanted (sym c.add.ensures.answer ∙ c.in-Full.is) in
    let same = (c.add.ensures.full (steps.full_same c.args.sections.now c.args.tables.now c.requires.presence c.args.c ∙ says.0)).0 in
    λ q. ap (λ (f : SectionPos → Bool). f q) same.presence ∙ c.requires.presence q

pub returns-in-Counted-clause-state : goal.returns-in-Counted-clause-state
returns-in-Counted-clause-state c =
    let says = steps.counted_says c.args.sections.now c.args.tables.now c.requires.presence c.args.c (sym c.add.ensures.answer ∙ c.in-Counted.is) in
    let adds = c.add.ensures.room (steps.full_same c.args.sections.now c.args.tables.now c.requires.presence c.args.c ∙ says.0) in
    steps.counted_grid c.args.sections.now c.args.tables.now c.requires.presence c.args.c c.add.new.self adds c.add.ensures.grid ∙ sym (steps.counted_state c.args.sections.now c.args.tables.now c.requires.presence c.args.c says.0 says.1)

pub returns-in-Counted-clause-answer : goal.returns-in-Counted-clause-answer
returns-in-Counted-clause-answer c =
    let says = steps.counted_says c.args.sections.now c.args.tables.now c.requires.presence c.args.c (sym c.add.ensures.answer ∙ c.in-Counted.is) in
    let adds = c.add.ensures.room (steps.full_same c.args.sections.now c.args.tables.now c.requires.presence c.args.c ∙ says.0) in
    sym (steps.counted_answer c.args.sections.now c.args.tables.now c.requires.presence c.args.c says.0 says.1)

pub returns-in-Counted-clause-change : goal.returns-in-Counted-clause-change
returns-in-Counted-clause-change c =
    let says = steps.counted_says c.args.sections.now c.args.tables.now c.requires.presence c.args.c (sym c.add.ensures.answer ∙ c.in-Counted.is) in
    let adds = c.add.ensures.room (steps.full_same c.args.sections.now c.args.tables.now c.requires.presence c.args.c ∙ says.0) in
    c.clear.ensures ∙ sym (steps.counted_change c.args.sections.now c.args.tables.now c.requires.presence c.args.c says.0 says.1)

pub returns-in-Counted-clause-presence : goal.returns-in-Counted-clause-presence
returns-in-Counted-clause-presence c =
    let says = steps.counted_says c.args.sections.now c.args.tables.now c.requires.presence c.args.c (sym c.add.ensures.answer ∙ c.in-Counted.is) in
    let adds = c.add.ensures.room (steps.full_same c.args.sections.now c.args.tables.now c.requires.presence c.args.c ∙ says.0) in
    steps.counted_presence c.args.sections.now c.args.tables.now c.requires.presence c.args.c c.requires.numbers c.requires.in_range c.requires.rules c.add.new.self adds says.1

pub returns-in-Filled-clause-state : goal.returns-in-Filled-clause-state
returns-in-Filled-clause-state c =
    let says = steps.filled_says c.args.sections.now c.args.tables.now c.requires.presence c.args.c (sym c.add.ensures.answer ∙ c.in-Filled.is) in
    let adds = c.add.ensures.room (steps.full_same c.args.sections.now c.args.tables.now c.requires.presence c.args.c ∙ says.0) in
    let owner = c.extend.ensures.owner ∙ ap (λ (g : Grid). (extended (bare g c.args.tables.now) c.args.c).owner) c.requires.same in
    let state = c.extend.ensures.state ∙ ap (λ (g : Grid). (extended (bare g c.args.tables.now) c.args.c).state) c.requires.same in
    let waits = c.extend.ensures.waits ∙ ap (λ (g : Grid). (extended (bare g c.args.tables.now) c.args.c).waits) c.requires.same in
    let next = c.extend.ensures.next ∙ ap (λ (g : Grid). (extended (bare g c.args.tables.now) c.args.c).next) c.requires.same in
    steps.filled_grid c.args.sections.now c.args.tables.now c.requires.presence c.args.c c.add.new.self c.extend.new.tables adds c.add.ensures.grid owner state waits next ∙ sym (steps.filled_state c.args.sections.now c.args.tables.now c.requires.presence c.args.c says.0 says.1)

pub returns-in-Filled-clause-answer : goal.returns-in-Filled-clause-answer
returns-in-Filled-clause-answer c =
    let says = steps.filled_says c.args.sections.now c.args.tables.now c.requires.presence c.args.c (sym c.add.ensures.answer ∙ c.in-Filled.is) in
    let adds = c.add.ensures.room (steps.full_same c.args.sections.now c.args.tables.now c.requires.presence c.args.c ∙ says.0) in
    sym (steps.filled_answer c.args.sections.now c.args.tables.now c.requires.presence c.args.c says.0 says.1)

pub returns-in-Filled-clause-change : goal.returns-in-Filled-clause-change
returns-in-Filled-clause-change c =
    let says = steps.filled_says c.args.sections.now c.args.tables.now c.requires.presence c.args.c (sym c.add.ensures.answer ∙ c.in-Filled.is) in
    let adds = c.add.ensures.room (steps.full_same c.args.sections.now c.args.tables.now c.requires.presence c.args.c ∙ says.0) in
    c.extend.ensures.change ∙ ap (λ (g : Grid). extended_change (bare g c.args.tables.now) c.args.c) c.requires.same ∙ steps.bare_change c.args.sections.now c.args.tables.now c.requires.presence c.args.c ∙ sym (steps.filled_change c.args.sections.now c.args.tables.now c.requires.presence c.args.c says.0 says.1)

pub returns-in-Filled-clause-presence : goal.returns-in-Filled-clause-presence
returns-in-Filled-clause-presence c =
    let says = steps.filled_says c.args.sections.now c.args.tables.now c.requires.presence c.args.c (sym c.add.ensures.answer ∙ c.in-Filled.is) in
    let adds = c.add.ensures.room (steps.full_same c.args.sections.now c.args.tables.now c.requires.presence c.args.c ∙ says.0) in
    let owner = c.extend.ensures.owner ∙ ap (λ (g : Grid). (extended (bare g c.args.tables.now) c.args.c).owner) c.requires.same in
    steps.filled_presence c.args.sections.now c.args.tables.now c.requires.presence c.args.c c.requires.numbers c.requires.in_range c.requires.rules c.add.new.self c.extend.new.tables adds owner
