use Rattle.std.proofs.Common.{◌≡◌, ◌++◌, ◌+◌, ◌-◌, ◌<◌, refl, sym, ◌∙◌, ap, arith, get_or}
use Rattle.std.specs.Prelude.{pos, ◌+ℤ◌}
use Rattle.std.proofs.lemmas.List.{get_or_past}
use Rattle.fol_model.specs.declared.places.SectionPos.{SectionPos}
use Rattle.fol_region_tables.specs.Book.{owner_of}
use Rattle.fol_region_tables.proofs.BookFacts.{owner_live, live_next}
use Rattle.fol_sections.specs.Rows.{row_of as run_of, section_at}
use Rattle.fol_sections.proofs.Rows.{append-none, row-none}
use Rattle.fol_regions.specs.Near.{noted, regions_of}
use Rattle.fol_regions.proofs.NearRuns.{noted_twice, run_more, run_rest}
use Rattle.fol_regions.proofs.near.find_run.Goals as goal
use Rattle.fol_regions.proofs.near.find_run.Goals.{then-id-last, else-id-last}

pub loop-id-init : goal.loop-id-init
loop-id-init c = record {
  near = λ before e. e ∙ ap (regions_of (owner_of c.args.tables.now) c.args.tables.now.next) (sym (ap (λ xs. before ++ xs) (row-none section_at c.args.s.x c.args.s.z) ∙ append-none before));
  last = refl;
  few = omega arith;
}

pub note-requires : goal.note-requires
note-requires c = omega (arith, c.loop-id.invariant.few, c.requires.few, c.run-ids.ensures.few, c.loop-id-test.true)

pub loop-id-preserved : goal.loop-id-preserved
loop-id-preserved c =
    let owner = owner_of c.args.tables.now in
    let next = c.args.tables.now.next in
    let i = c.loop-id.id-index in
    let id = get_or c.run-ids.result.now i 0 in
    let is : id ≡ owner (section_at (c.args.s.x +ℤ pos i) c.args.s.z) = c.run-ids.ensures.owners i (omega (arith, c.run-ids.ensures.few, c.loop-id-test.true)) in
    let below : (q : SectionPos) → 0 < owner q → owner q < next = λ q p. live_next c.args.tables.now c.keeps_lists.ensures (owner q) (owner_live c.args.tables.now c.keeps_lists.ensures q p) in
    elim c.if-id-last.branch [
      | then-id-last w ↦ rw (w.near-is, w.last-is) (record {
        near = λ before e. w.note.ensures.noted ∙ run_more owner next below c.args.s.x c.args.s.z before i id c.loop-id.near (c.loop-id.invariant.near before e) is;
        last = ap (noted id) w.note.ensures.noted ∙ noted_twice id c.loop-id.near ∙ sym w.note.ensures.noted;
        few = omega (arith, w.note.ensures.few, c.loop-id.invariant.few);
      })
      | else-id-last w ↦
          let same : noted id c.loop-id.near ≡ c.loop-id.near = ap (λ n. noted n c.loop-id.near) w.if-id-last.false ∙ c.loop-id.invariant.last in
          rw (w.near-is, w.last-is) (record {
            near = λ before e. sym same ∙ run_more owner next below c.args.s.x c.args.s.z before i id c.loop-id.near (c.loop-id.invariant.near before e) is;
            last = c.loop-id.invariant.last;
            few = omega (arith, c.loop-id.invariant.few);
          })
    ]

pub returns-clause-near : goal.returns-clause-near
returns-clause-near c = λ before e.
    let owner = owner_of c.args.tables.now in
    let next = c.args.tables.now.next in
    let i = c.loop-id.id-index in
    let rest = c.args.len - i in
    let all : i + rest ≡ c.args.len = omega (arith, c.run-ids.ensures.few, c.loop-id.auto.id-index-end) in
    let below : (q : SectionPos) → 0 < owner q → owner q < next = λ q p. live_next c.args.tables.now c.keeps_lists.ensures (owner q) (owner_live c.args.tables.now c.keeps_lists.ensures q p) in
    c.loop-id.invariant.near before e
    ∙ run_rest owner next below c.args.s.x c.args.s.z before i rest (λ j l. sym (c.run-ids.ensures.owners (i + j) (omega (arith, all, l))) ∙ get_or_past c.run-ids.result.now (i + j) 0 (omega (arith, c.loop-id-test.false)))
    ∙ ap (λ n. regions_of owner next (before ++ run_of section_at c.args.s.x c.args.s.z n)) all
