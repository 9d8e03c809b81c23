use Rattle.std.proofs.Common.{ap, arith, not, length}
use Rattle.std.specs.Prelude.{Bool}
use Rattle.fol_model.specs.declared.places.SectionPos.{SectionPos}
use Rattle.fol_regions.specs.Changes.{Changes}
use Rattle.fol_model.specs.Geometry.{is_among}
use Rattle.fol_regions.proofs.SettleSteps.{living_few, living_distinct, living_within, living_some, parts_few, parts_rows, mid_few}
use Rattle.fol_regions.proofs.release.settle.Goals as goal

pub parts-requires-clause-few : goal.parts-requires-clause-few
parts-requires-clause-few c =
    let p : (SectionPos → Bool) = λ s. not (is_among c.args.dead.now s) in
    living_few c.args.tables.now c.args.id c.keeps_lists.ensures c.requires.region p c.args.living.now c.requires.living c.requires.few

pub parts-requires-clause-distinct : goal.parts-requires-clause-distinct
parts-requires-clause-distinct c =
    let p : (SectionPos → Bool) = λ s. not (is_among c.args.dead.now s) in
    living_distinct c.args.tables.now c.args.id c.keeps_lists.ensures c.requires.region p c.args.living.now c.requires.living

pub parts-requires-clause-in_range : goal.parts-requires-clause-in_range
parts-requires-clause-in_range c =
    let p : (SectionPos → Bool) = λ s. not (is_among c.args.dead.now s) in
    living_within c.args.tables.now c.args.id c.keeps_lists.ensures c.requires.region p c.args.living.now c.requires.living

pub keep-requires-clause-some : goal.keep-requires-clause-some
keep-requires-clause-some c =
    let p : (SectionPos → Bool) = λ s. not (is_among c.args.dead.now s) in
    living_some c.args.tables.now c.args.id c.keeps_lists.ensures c.requires.region p c.args.living.now c.requires.living c.args.merge c.parts.new.self c.parts.ensures (omega arith)

pub keep-requires-else-count-eq1-clause-some : goal.keep-requires-else-count-eq1-clause-some
keep-requires-else-count-eq1-clause-some c =
    let p : (SectionPos → Bool) = λ s. not (is_among c.args.dead.now s) in
    living_some c.args.tables.now c.args.id c.keeps_lists.ensures c.requires.region p c.args.living.now c.requires.living c.args.merge c.parts.new.self c.parts.ensures (omega arith)

pub split-requires-clause-parts : goal.split-requires-clause-parts
split-requires-clause-parts c =
    let p : (SectionPos → Bool) = λ s. not (is_among c.args.dead.now s) in
    parts_rows c.args.tables.now c.args.id c.keeps_lists.ensures c.requires.region p c.args.living.now c.requires.living c.keep-else-count-eq1.new.self c.keeps_lists-else-count-eq1.ensures c.keep-else-count-eq1.ensures
    c.args.merge c.parts.new.self c.parts.ensures

pub split-requires-clause-few : goal.split-requires-clause-few
split-requires-clause-few c =
    let p : (SectionPos → Bool) = λ s. not (is_among c.args.dead.now s) in
    mid_few c.args.tables.now c.args.id c.keeps_lists.ensures c.requires.region p c.args.living.now c.requires.living c.keep-else-count-eq1.new.self c.keeps_lists-else-count-eq1.ensures c.keep-else-count-eq1.ensures c.requires.few

pub note_parts-requires-clause-count : goal.note_parts-requires-clause-count
note_parts-requires-clause-count c =
    let p : (SectionPos → Bool) = λ s. not (is_among c.args.dead.now s) in
    let few = parts_few c.args.tables.now c.args.id c.keeps_lists.ensures c.requires.region p c.args.living.now c.requires.living c.args.merge c.parts.new.self c.parts.ensures in
    let most = living_few c.args.tables.now c.args.id c.keeps_lists.ensures c.requires.region p c.args.living.now c.requires.living c.requires.few in
    omega (arith, few, most, ap length c.requires.room.0, ap (λ (x : Changes). length x.created) c.end-else-count-eq1.ensures, c.count-count.ensures)

pub note_parts-requires-clause-parts : goal.note_parts-requires-clause-parts
note_parts-requires-clause-parts c =
    let p : (SectionPos → Bool) = λ s. not (is_among c.args.dead.now s) in
    let few = parts_few c.args.tables.now c.args.id c.keeps_lists.ensures c.requires.region p c.args.living.now c.requires.living c.args.merge c.parts.new.self c.parts.ensures in
    let most = living_few c.args.tables.now c.args.id c.keeps_lists.ensures c.requires.region p c.args.living.now c.requires.living c.requires.few in
    omega (arith, few, most, ap length c.requires.room.1, ap (λ (x : Changes). length x.parts) c.end-else-count-eq1.ensures, c.count-count.ensures)
