use Rattle.std.proofs.Common.{◌≡◌, ◌^◌, ◌++◌, sym, ◌∙◌, ap, refl, arith, append_assoc, length, length-append, get_or, take, []}
use Rattle.std.specs.Prelude.{pos, ◌*ℤ◌, flat_map}
use Rattle.std.proofs.lemmas.List.{take_all}
use Rattle.std.proofs.lemmas.List.Folds.{length-flat_map-take}
use Rattle.std.proofs.lemmas.List.Sums.{length-filter}
use Rattle.fol_model.specs.declared.places.SectionPos.{SectionPos}
use Rattle.fol_sections.specs.Kept.{held_chunks, is_held}
use Rattle.fol_sections.specs.Rows.{chunk_at, rows_of}
use Rattle.fol_sections.proofs.HeldChunks.{flat_map_next, listed_none}
use Rattle.fol_sections.proofs.Rows.{append-none}
use Rattle.fol_sections.proofs.listings.list_on.Goals as goal
use Rattle.fol_sections.proofs.listings.list_on.Goals.{then-n-gt0, else-n-gt0}

abbrev origin : SectionPos
origin = record { x = pos 0; z = pos 0 }

pub loop-s-init : goal.loop-s-init
loop-s-init c = record { listed = sym (append-none c.args.out.now.items); capacity = refl }

pub returns : goal.returns
returns c =
    let listed = held_chunks c.args.grid.now c.args.holds.now.entries in
    record {
      listed = c.loop-s.invariant.listed ∙ ap (λ xs. c.args.out.now.items ++ flat_map listed xs) (take_all c.loop-s.s-index c.args.part.now (omega arith));
      capacity = c.loop-s.invariant.capacity;
    }

pub list_section-requires-clause-near : goal.list_section-requires-clause-near
list_section-requires-clause-near c = (c.requires.known c.loop-s.s-index origin c.loop-s-test.true).near (omega (arith, c.loaded_on-n.ensures, c.if-n-gt0.true))

pub list_section-requires-clause-count : goal.list_section-requires-clause-count
list_section-requires-clause-count c =
    let s = get_or c.args.part.now c.loop-s.s-index origin in
    sym (length-filter (is_held c.args.holds.now.entries) (rows_of chunk_at (s.x *ℤ pos (2 ^ c.args.grid.now.shift)) (s.z *ℤ pos (2 ^ c.args.grid.now.shift)) (2 ^ c.args.grid.now.shift) (2 ^ c.args.grid.now.shift)))
    ∙ (c.requires.known c.loop-s.s-index origin c.loop-s-test.true).count ∙ sym c.loaded_on-n.ensures

pub list_section-requires-clause-room : goal.list_section-requires-clause-room
list_section-requires-clause-room c =
    let listed = held_chunks c.args.grid.now c.args.holds.now.entries in
    omega (
      arith,
      ap length c.loop-s.invariant.listed,
      length-append c.args.out.now.items (flat_map listed (take c.loop-s.s-index c.args.part.now)),
      length-flat_map-take listed c.args.part.now c.loop-s.s-index origin c.loop-s-test.true,
      (c.requires.known c.loop-s.s-index origin c.loop-s-test.true).count,
      c.loaded_on-n.ensures,
      c.loop-s.invariant.capacity,
      c.requires.room,
    )

pub loop-s-preserved : goal.loop-s-preserved
loop-s-preserved c =
    let listed = held_chunks c.args.grid.now c.args.holds.now.entries in
    let i = c.loop-s.s-index in
    let s = get_or c.args.part.now i origin in
    let more = flat_map_next listed c.args.part.now i origin c.loop-s-test.true in
    elim c.if-n-gt0.branch [
      | then-n-gt0 w ↦ rw w.out-is (record {
        listed = w.list_section.ensures.listed ∙ ap (λ xs. xs ++ listed s) c.loop-s.invariant.listed
            ∙ append_assoc c.args.out.now.items (flat_map listed (take i c.args.part.now)) (listed s)
            ∙ ap (λ xs. c.args.out.now.items ++ xs) (sym more);
        capacity = w.list_section.ensures.capacity ∙ c.loop-s.invariant.capacity;
      })
      | else-n-gt0 w ↦
          let nothing : listed s ≡ [] = listed_none c.args.grid.now c.args.holds.now.entries _ s (c.requires.known i origin c.loop-s-test.true) (omega (arith, c.loaded_on-n.ensures, w.if-n-gt0.false)) in
          rw w.out-is (record {
            listed = c.loop-s.invariant.listed ∙ ap (λ xs. c.args.out.now.items ++ xs) (sym (more ∙ ap (λ xs. flat_map listed (take i c.args.part.now) ++ xs) nothing ∙ append-none _));
            capacity = c.loop-s.invariant.capacity;
          })
    ]
