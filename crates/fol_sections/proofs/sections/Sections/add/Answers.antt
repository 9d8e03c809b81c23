use Rattle.std.proofs.Common.{◌≡◌, ℕ, ◌+◌, ◌≤◌, ◌%◌, refl, sym, ◌∙◌, ap, arith, Bool, true, false, ◌&&◌, ◌||◌, not, List, length}
use Rattle.std.specs.Prelude.{nat_eq, nat_lt}
use Rattle.std.proofs.Math.Path.{fun_ext}
use Rattle.std.proofs.lemmas.Bool.{true≢false, lt-ltb, le-ltb}
use Rattle.fol_model.specs.declared.places.ChunkPos.{ChunkPos}
use Rattle.fol_model.specs.declared.places.SectionPos.{SectionPos}
use Rattle.fol_model.specs.Geometry.{is_within, same_section, section_of}
use Rattle.fol_model.specs.GridState.{at_chunk}
use Rattle.fol_model.specs.Universe.{square}
use Rattle.std.specs.List.{filter}
use Rattle.fol_sections.specs.Pages.{chunks_at, is_here, near_at}
use Rattle.fol_sections.specs.Table.{is_missing}
use Rattle.fol_sections.proofs.AddTable.{home_near, added_full, added_counted, added_filled, counted, full-is, limits_more, missing_rows, missing_length, here-more, presence-more}
use Rattle.fol_sections.proofs.AgainTable.{again_adds, again_counted, again_kept, again_room, first_chunks, first_counts, first_near}
use Rattle.fol_sections.proofs.Bounds.{chunks_few}
use Rattle.fol_sections.proofs.KeptSteps.{kept_add}
use Rattle.fol_sections.proofs.Margins.{near_few}
use Rattle.fol_sections.proofs.NumberSteps.{filled_around}
use Rattle.fol_sections.proofs.Tables.{table, table-holds, table-presence, table_same}
use Rattle.fol_sections.proofs.sections.Sections.add.Goals as goal
use Rattle.fol_sections.proofs.sections.Sections.add.Goals.{then-wanted-eq0, else-wanted-eq0}

pub hold_again-requires : goal.hold_again-requires
hold_again-requires c =
    let few = rw (← c.self.view_is) at c.requires.few in
    let is = ap (λ (f : ChunkPos → ℕ). f c.args.c) (table-holds c.self.inside.grid c.self.inside.holds.entries c.self.inside.pages.entries c.self.inside.filled.items c.self.inside.died.items c.self.inside.spare) in
    omega (arith, few, is)

pub invariant_of-self : goal.invariant_of-self
invariant_of-self c =
    let held = sym c.hold_again.ensures.again ∙ c.if-hold_again.true in
    let spare = rw (← c.self.view_is) at c.requires.spare in (
      again_kept _ _ _ _ c.self.inside.filled.items c.self.inside.died.items c.self.inside.spare c.self.invariant.0 c.args.c held _ (c.hold_again.ensures.counts c.if-hold_again.true),
      record {
        holds = omega (arith, c.hold_again.ensures.room, c.self.invariant.1.holds);
        pages = omega (arith, c.self.invariant.1.pages, spare);
        filled = omega (arith, c.clear.ensures.capacity, c.self.invariant.1.filled);
        died = omega (arith, c.clear-2.ensures.capacity, c.self.invariant.1.died);
        fits = omega (arith, c.self.invariant.1.fits);
      },
    )

pub returns-then-hold_again-clause-answer : goal.returns-then-hold_again-clause-answer
returns-then-hold_again-clause-answer c =
    let held = sym c.hold_again.ensures.again ∙ c.if-hold_again.true in
    rw (← c.self.view_is) (again_counted _ _ _ c.self.inside.count c.self.inside.filled.items c.self.inside.died.items c.self.inside.spare c.self.invariant.0 c.args.c held)

pub returns-then-hold_again-clause-full : goal.returns-then-hold_again-clause-full
returns-then-hold_again-clause-full c = λ yes.
    let held = sym c.hold_again.ensures.again ∙ c.if-hold_again.true in
    let was = rw (← c.self.view_is) at yes in
    absurd (true≢false (sym was ∙ again_room _ _ _ c.self.inside.count c.self.inside.filled.items c.self.inside.died.items c.self.inside.spare c.self.invariant.0 c.args.c held))

pub returns-then-hold_again-clause-room : goal.returns-then-hold_again-clause-room
returns-then-hold_again-clause-room c = λ _.
    let held = sym c.hold_again.ensures.again ∙ c.if-hold_again.true in
    let spare = rw (← c.self.view_is) at c.requires.spare in
    rw (← c.self.view_is, c.clear.ensures.items, c.clear-2.ensures.items) (again_adds _ _ _ c.self.inside.count c.self.inside.filled.items c.self.inside.died.items c.self.inside.spare c.self.invariant.0 c.args.c held _ (c.hold_again.ensures.counts c.if-hold_again.true) _ (omega (arith, spare)))

pub find_excess-requires-clause-near : goal.find_excess-requires-clause-near
find_excess-requires-clause-near c = rw c.section_of-home.ensures (home_near _ _ _ c.self.inside.count c.self.inside.filled.items c.self.inside.died.items c.self.inside.spare c.self.invariant.0 c.args.c c.requires.in_range)

pub find_excess-requires-clause-around : goal.find_excess-requires-clause-around
find_excess-requires-clause-around c = rw c.create_radius-radius.ensures (filled_around c.self.inside.grid c.self.inside.holds.entries c.self.inside.pages.entries c.self.inside.count c.section_of-home.result c.self.invariant.0)

pub returns-in-Some-clause-answer : goal.returns-in-Some-clause-answer
returns-in-Some-clause-answer c =
    let missing : List SectionPos = filter (λ q. not (is_here c.self.inside.pages.entries q)) (square (section_of c.self.inside.grid c.args.c) c.self.inside.grid.create) in
    let wanted : c.in-Some.wanted ≡ length missing = counted _ _ _ _ _ _ c.section_of-home.ensures c.create_radius-radius.ensures c.in-Some.ensures.some in
    rw (← c.self.view_is) (added_full _ _ _ c.self.inside.count c.self.inside.filled.items c.self.inside.died.items c.self.inside.spare c.self.invariant.0 c.args.c c.requires.in_range missing refl c.self.inside.count _ refl wanted (omega (arith, c.in-Some.ensures.excess)))

pub returns-in-Some-clause-full : goal.returns-in-Some-clause-full
returns-in-Some-clause-full c = λ _.
    rw (← c.self.view_is, c.hold_again.ensures.stays c.if-hold_again.false) (table_same _ _ _ _ _ (λ a b. refl) (λ s. refl) _ c.self.invariant.0 _ _ _ _ _ _, c.clear.ensures.items, refl)

pub returns-in-Some-clause-room : goal.returns-in-Some-clause-room
returns-in-Some-clause-room c = λ no.
    let missing : List SectionPos = filter (λ q. not (is_here c.self.inside.pages.entries q)) (square (section_of c.self.inside.grid c.args.c) c.self.inside.grid.create) in
    let wanted : c.in-Some.wanted ≡ length missing = counted _ _ _ _ _ _ c.section_of-home.ensures c.create_radius-radius.ensures c.in-Some.ensures.some in
    let is = full-is _ _ _ c.self.inside.count c.self.inside.filled.items c.self.inside.died.items c.self.inside.spare c.self.invariant.0 c.args.c c.requires.in_range missing refl in
    let yes : nat_lt 16384 (c.self.inside.count + length missing) ≡ true = lt-ltb _ _ (omega (arith, wanted, c.in-Some.ensures.excess)) in
    let was = rw (← c.self.view_is) at no in
    absurd (true≢false (sym yes ∙ sym is ∙ was))

pub hold_first-requires : goal.hold_first-requires
hold_first-requires c = let spare = rw (← c.self.view_is) at c.requires.spare in omega (arith, spare, c.hold_again.ensures.room, c.self.invariant.1.holds)

pub add_chunk-requires-clause-near : goal.add_chunk-requires-clause-near
add_chunk-requires-clause-near c = rw c.section_of-home.ensures (home_near _ _ _ c.self.inside.count c.self.inside.filled.items c.self.inside.died.items c.self.inside.spare c.self.invariant.0 c.args.c c.requires.in_range)

pub add_chunk-requires-clause-around : goal.add_chunk-requires-clause-around
add_chunk-requires-clause-around c = rw c.create_radius-radius.ensures (filled_around c.self.inside.grid c.self.inside.holds.entries c.self.inside.pages.entries c.self.inside.count c.section_of-home.result c.self.invariant.0)

pub add_chunk-requires-clause-chunks_high : goal.add_chunk-requires-clause-chunks_high
add_chunk-requires-clause-chunks_high c = chunks_few _ _ _ _ c.section_of-home.result c.self.invariant.0

pub add_chunk-requires-clause-near_high : goal.add_chunk-requires-clause-near_high
add_chunk-requires-clause-near_high c = near_few _ _ _ _ c.self.invariant.0

pub add_chunk-requires-clause-room : goal.add_chunk-requires-clause-room
add_chunk-requires-clause-room c = let spare = rw (← c.self.view_is) at c.requires.spare in omega (arith, spare, c.self.invariant.1.pages)

pub invariant_of-self-2 : goal.invariant_of-self-2
invariant_of-self-2 c =
    let found = rw (c.section_of-home.ensures, c.create_radius-radius.ensures) at c.add_chunk.ensures.filled in
    let here = rw (c.section_of-home.ensures, c.create_radius-radius.ensures) at c.add_chunk.ensures.here in
    let stays = c.hold_again.ensures.stays c.if-hold_again.false in
    let new = sym c.hold_again.ensures.again ∙ c.if-hold_again.false in
    let counts = first_counts _ _ c.args.c new (rw stays at c.hold_first.ensures.counts) in
    let chunks = rw c.section_of-home.ensures at c.add_chunk.ensures.chunks in
    let near = rw (c.section_of-home.ensures, c.create_radius-radius.ensures) at c.add_chunk.ensures.near in
    let count = missing_length _ _ _ c.self.inside.count c.self.inside.filled.items c.self.inside.died.items c.self.inside.spare c.self.invariant.0 c.args.c c.requires.in_range _ found in
    let home = section_of c.self.inside.grid c.args.c in
    let fits = counted c.self.inside.pages.entries _ _ _ _ _ c.section_of-home.ensures c.create_radius-radius.ensures refl in
    let spare = rw (← c.self.view_is) at c.requires.spare in (
      kept_add _ _ _ _ _ _ _ c.args.c c.self.invariant.0 c.requires.in_range counts here
          (λ s. chunks s ∙ first_chunks (same_section home s) _ (chunks_at c.self.inside.pages.entries s) new)
          (λ s. near s ∙ first_near (near_at c.self.inside.pages.entries s) _ (nat_eq (chunks_at c.self.inside.pages.entries home) 0 && is_within home c.self.inside.grid.create s) new)
          (omega (arith, count, c.len-wanted.ensures, c.add_chunk.ensures.few)) (omega (arith, c.in_default.ensures.none, fits, ap length found, c.len-wanted.ensures, c.add_chunk.ensures.few)),
      record {
        holds = omega (arith, c.hold_first.ensures.room, c.hold_again.ensures.room, c.self.invariant.1.holds);
        pages = omega (arith, c.add_chunk.ensures.room, c.self.invariant.1.pages, spare);
        filled = omega (arith, c.add_chunk.ensures.space, c.clear.ensures.capacity, c.self.invariant.1.filled);
        died = omega (arith, c.clear-2.ensures.capacity, c.self.invariant.1.died);
        fits = omega (arith, c.self.invariant.1.fits);
      },
    )

pub returns-clause-answer : goal.returns-clause-answer
returns-clause-answer c =
    let found = rw (c.section_of-home.ensures, c.create_radius-radius.ensures) at c.add_chunk.ensures.filled in
    let fits = counted c.self.inside.pages.entries _ _ _ _ _ c.section_of-home.ensures c.create_radius-radius.ensures refl in
    let wanted : c.len-wanted.result % 4294967296 ≡ length c.add_chunk.new.filled.items = omega (arith, c.len-wanted.ensures, c.add_chunk.ensures.few) in
    let low : c.self.inside.count + length c.add_chunk.new.filled.items ≤ 16384 = omega (arith, c.in_default.ensures.none, fits, ap length found) in
    elim c.if-wanted-eq0.branch [
      | then-wanted-eq0 w ↦ rw (w.result-is, ← c.self.view_is) (added_counted _ _ _ c.self.inside.count c.self.inside.filled.items c.self.inside.died.items c.self.inside.spare c.self.invariant.0 c.args.c c.requires.in_range _ found _ wanted low (omega (arith, w.if-wanted-eq0.true)))
      | else-wanted-eq0 w ↦ rw (w.result-is, ← c.self.view_is) (added_filled _ _ _ c.self.inside.count c.self.inside.filled.items c.self.inside.died.items c.self.inside.spare c.self.invariant.0 c.args.c c.requires.in_range _ found _ wanted low (omega (arith, w.if-wanted-eq0.false)))
    ]

pub returns-clause-full : goal.returns-clause-full
returns-clause-full c = λ yes.
    let found = rw (c.section_of-home.ensures, c.create_radius-radius.ensures) at c.add_chunk.ensures.filled in
    let is = full-is _ _ _ c.self.inside.count c.self.inside.filled.items c.self.inside.died.items c.self.inside.spare c.self.invariant.0 c.args.c c.requires.in_range c.add_chunk.new.filled.items found in
    let fits = counted c.self.inside.pages.entries _ _ _ _ _ c.section_of-home.ensures c.create_radius-radius.ensures refl in
    let no : nat_lt 16384 (c.self.inside.count + length c.add_chunk.new.filled.items) ≡ false = le-ltb _ _ (omega (arith, c.in_default.ensures.none, fits, ap length found)) in
    let was = rw (← c.self.view_is) at yes in
    absurd (true≢false (sym was ∙ is ∙ no))

pub returns-clause-room : goal.returns-clause-room
returns-clause-room c = λ _.
    let found = rw (c.section_of-home.ensures, c.create_radius-radius.ensures) at c.add_chunk.ensures.filled in
    let here = rw (c.section_of-home.ensures, c.create_radius-radius.ensures) at c.add_chunk.ensures.here in
    let new = sym c.hold_again.ensures.again ∙ c.if-hold_again.false in
    let counts = first_counts _ _ c.args.c new (rw (c.hold_again.ensures.stays c.if-hold_again.false) at c.hold_first.ensures.counts) in
    let limits = c.self.invariant.0.section_limits in
    let holds = table-holds c.self.inside.grid c.self.inside.holds.entries c.self.inside.pages.entries c.self.inside.filled.items c.self.inside.died.items c.self.inside.spare in
    let presence = table-presence c.self.inside.grid c.self.inside.holds.entries c.self.inside.pages.entries c.self.inside.filled.items c.self.inside.died.items c.self.inside.spare limits in
    let more = here-more _ _ _ c.self.inside.count c.self.inside.filled.items c.self.inside.died.items c.self.inside.spare c.self.invariant.0 c.args.c c.requires.in_range _ found in
    let adds = presence-more _ _ _ c.self.inside.count c.self.inside.filled.items c.self.inside.died.items c.self.inside.spare c.self.invariant.0 c.args.c c.requires.in_range _ found in
    let spare = rw (← c.self.view_is) at c.requires.spare in
    rw (← c.self.view_is) (record {
      holds = table-holds _ _ _ _ _ _ ∙ fun_ext counts ∙ ap (λ (f : ChunkPos → ℕ). at_chunk f c.args.c (f c.args.c + 1)) (sym holds);
      presence = table-presence _ _ _ _ _ _ (λ s h. limits_more _ _ _ c.self.inside.count c.self.inside.filled.items c.self.inside.died.items c.self.inside.spare c.self.invariant.0 c.args.c c.requires.in_range s (sym (here s) ∙ h))
          ∙ fun_ext (λ s. here s ∙ sym (more s) ∙ adds s ∙ ap (λ (f : SectionPos → Bool). f s || is_missing (table c.self.inside.grid c.self.inside.holds.entries c.self.inside.pages.entries c.self.inside.filled.items c.self.inside.died.items c.self.inside.spare) c.args.c s) (sym presence));
      filled = missing_rows _ _ _ c.self.inside.count c.self.inside.filled.items c.self.inside.died.items c.self.inside.spare c.self.invariant.0 c.args.c c.requires.in_range _ found;
      spare = omega (arith, spare);
    })
