use Rattle.std.proofs.Common.{◌≡◌, ℕ, ◌+◌, ◌-◌, ◌<◌, ◌≤◌, Bool, true, false, refl, sym, ◌∙◌, ap, arith, cond, ◌∷◌, [], ◌++◌, append_assoc, length, length-append}
use Rattle.std.specs.Prelude.{None, Some, is_some, nat_abs, nat_eq, pos, slice_index_or, slice_set, ◌+ℤ◌}
use Rattle.std.specs.Int.{int_rem_euclid}
use Rattle.std.specs.List.{count_by, filter}
use Rattle.std.specs.Option.{unwrap_or}
use Rattle.std.proofs.lemmas.Bool.{eq-eqb, ne_eqb}
use Rattle.fol_model.specs.declared.places.SectionPos.{SectionPos}
use Rattle.fol_model.specs.Geometry.{same_section}
use Rattle.fol_laws.proofs.SamePlaces.{same_section-self}
use Rattle.fol_pages.proofs.PageRuns.{run_page, run_place}
use Rattle.fol_sections.specs.Pages.{IsOnPage, KeepsOthers, counts_on, left, near_on, no_counts, place_of}
use Rattle.fol_sections.specs.declared.pages.Counts.{Counts}
use Rattle.fol_sections.specs.Rows.{row_of, section_at}
use Rattle.fol_sections.specs.declared.pages.Page.{Page}
use Rattle.fol_sections.specs.declared.turns.Turn.TheVariants.{Emptied}
use Rattle.fol_sections.proofs.PageRuns.{keeps_self, keeps_then, row_before, run_few, some_is, step_keeps, step_turns}
use Rattle.fol_sections.proofs.Rows.{append-none, count_more, filter_no, filter_yes, row-none, row_part}
use Rattle.fol_sections.proofs.runs.empty_on.Goals as goal
use Rattle.fol_sections.proofs.runs.empty_on.Goals.{then-leave-eq0, else-leave-eq0}

-- the sections so far hold the next one once more, and the whole run holds all of them
next_place : (s : SectionPos) (i n : ℕ) → i < n
    → (count_by (same_section (section_at (s.x +ℤ pos i) s.z)) (row_of section_at s.x s.z (i + 1)) ≡ count_by (same_section (section_at (s.x +ℤ pos i) s.z)) (row_of section_at s.x s.z i) + 1)
    × (count_by (same_section (section_at (s.x +ℤ pos i) s.z)) (row_of section_at s.x s.z (i + 1)) ≤ count_by (same_section (section_at (s.x +ℤ pos i) s.z)) (row_of section_at s.x s.z n))
next_place s i n l =
    let place : SectionPos = section_at (s.x +ℤ pos i) s.z in (
      count_more section_at (same_section place) s.x s.z i ∙ ap (λ b. count_by (same_section place) (row_of section_at s.x s.z i) + cond b 1 0) (same_section-self place),
      row_part section_at (same_section place) s.x s.z (i + 1) n (omega arith),
    )

pub loop-i-init : goal.loop-i-init
loop-i-init c =
    let none = row-none section_at c.args.s.x c.args.s.z in
    record {
      near = λ q on. omega (arith, ap (count_by (same_section q)) none);
      kept = keeps_self c.args.page.now;
      died = sym (ap (λ xs. c.args.died.now.items ++ filter (λ q. nat_eq (near_on c.args.page.now q - 1) 0) xs) none ∙ append-none c.args.died.now.items);
      few = omega arith;
      space = omega arith;
    }

-- the section that is next is present, and one is near it
needs_next : (first page : Page) (s : SectionPos) (len i : ℕ) → nat_abs (int_rem_euclid s.x (pos 32)) + len ≤ 32 → i < len → KeepsOthers first page
    → ((q : SectionPos) → IsOnPage s q → near_on first q ≡ near_on page q + count_by (same_section q) (row_of section_at s.x s.z i))
    → ((q : SectionPos) → 0 < count_by (same_section q) (row_of section_at s.x s.z len) → is_some (counts_on first q) ≡ true)
    → ((q : SectionPos) → IsOnPage s q → count_by (same_section q) (row_of section_at s.x s.z len) ≤ near_on first q)
    → (is_some (counts_on page (section_at (s.x +ℤ pos i) s.z)) ≡ true) × (0 < near_on page (section_at (s.x +ℤ pos i) s.z))
needs_next first page s len i run l kept near here low =
    let place : SectionPos = section_at (s.x +ℤ pos i) s.z in
    let on : IsOnPage s place = (run_page s len run i l, refl) in
    let next = next_place s i len l in (
      kept.here place ∙ here place (omega (arith, next.0, next.1)),
      omega (arith, near place on, low place on, next.0, next.1),
    )

pub leave-requires : goal.leave-requires
leave-requires c =
    let place : SectionPos = section_at (c.args.s.x +ℤ pos c.loop-i.i) c.args.s.z in
    let f = run_few c.args.s c.args.len c.requires.run c.loop-i.i c.loop-i-test.true in
    let same : c.place_of-place.result + c.loop-i.i ≡ place_of place = sym (run_place c.args.s c.args.len c.requires.run c.loop-i.i c.loop-i-test.true ∙ ap (λ n. n + c.loop-i.i) (sym c.place_of-place.ensures.value)) in
    let near : near_on c.loop-i.page place ≡ (unwrap_or (slice_index_or c.loop-i.page.sections (c.place_of-place.result + c.loop-i.i) None) no_counts).near
    = ap (λ n. (unwrap_or (slice_index_or c.loop-i.page.sections n None) no_counts).near) (sym same) in
    let needs = needs_next c.args.page.now c.loop-i.page c.args.s c.args.len c.loop-i.i c.requires.run c.loop-i-test.true c.loop-i.invariant.kept c.loop-i.invariant.near c.requires.here c.requires.low in
    record {
      place = omega (arith, f, c.place_of-place.ensures.value);
      here = ap (λ n. is_some (slice_index_or c.loop-i.page.sections n None)) same ∙ needs.0;
      low = omega (arith, near, needs.1);
    }

pub loop-i-preserved : goal.loop-i-preserved
loop-i-preserved c =
    let place : SectionPos = section_at (c.args.s.x +ℤ pos c.loop-i.i) c.args.s.z in
    let on : IsOnPage c.args.s place = (run_page c.args.s c.args.len c.requires.run c.loop-i.i c.loop-i-test.true, refl) in
    let at : ℕ = c.place_of-place.result + c.loop-i.i in
    let same : at ≡ place_of place = sym (run_place c.args.s c.args.len c.requires.run c.loop-i.i c.loop-i-test.true ∙ ap (λ n. n + c.loop-i.i) (sym c.place_of-place.ensures.value)) in
    let needs = needs_next c.args.page.now c.loop-i.page c.args.s c.args.len c.loop-i.i c.requires.run c.loop-i-test.true c.loop-i.invariant.kept c.loop-i.invariant.near c.requires.here c.requires.low in
    let near : near_on c.loop-i.page place ≡ (unwrap_or (slice_index_or c.loop-i.page.sections at None) no_counts).near
    = ap (λ n. (unwrap_or (slice_index_or c.loop-i.page.sections n None) no_counts).near) (sym same) in
    let was : Counts = unwrap_or (slice_index_or c.loop-i.page.sections at None) no_counts in
    let had : counts_on c.loop-i.page place ≡ Some was
    = ap (λ n. slice_index_or c.loop-i.page.sections n None) (sym same) ∙ some_is (slice_index_or c.loop-i.page.sections at None) (ap (λ n. is_some (slice_index_or c.loop-i.page.sections n None)) same ∙ needs.0) in
    let whole : 32 ≤ length c.loop-i.page.sections = omega (arith, c.leave.ensures.whole) in
    let after : Page = record { sections = slice_set c.loop-i.page.sections at (Some (left was)) } in
    let turns : (q : SectionPos) → IsOnPage c.args.s q → near_on after q + cond (same_section q place) 1 0 ≡ near_on c.loop-i.page q + 0
    = step_turns c.loop-i.page whole c.args.s place on at same (Some was) (left was) had Emptied (omega (arith, near, needs.1)) in
    let near_more : (q : SectionPos) → IsOnPage c.args.s q → near_on c.args.page.now q ≡ near_on after q + count_by (same_section q) (row_of section_at c.args.s.x c.args.s.z (c.loop-i.i + 1))
    = λ q here. omega (arith, turns q here, c.loop-i.invariant.near q here, count_more section_at (same_section q) c.args.s.x c.args.s.z c.loop-i.i) in
    let kept : KeepsOthers c.args.page.now after
    = keeps_then c.args.page.now c.loop-i.page _ c.loop-i.invariant.kept (step_keeps c.loop-i.page whole c.args.s place on at same (Some was) (left was) had refl refl) in
    let test : SectionPos → Bool = λ q. nat_eq (near_on c.args.page.now q - 1) 0 in
    let first : near_on c.loop-i.page place ≡ near_on c.args.page.now place = omega (arith, c.loop-i.invariant.near place on, row_before c.args.s.x c.args.s.z c.loop-i.i) in
    let less : c.leave.result ≡ near_on c.args.page.now place - 1 = c.leave.ensures.after ∙ ap (λ n. n - 1) (sym near ∙ first) in
    elim c.if-leave-eq0.branch [
      | then-leave-eq0 w ↦
          let yes : test place ≡ true = ap (λ n. nat_eq n 0) (sym less) ∙ eq-eqb _ _ w.if-leave-eq0.true in
          let items = rw w.behind.ensures at w.push_reserved.ensures.items in
          rw (w.died-is, c.leave.ensures.left) (record {
            near = near_more;
            kept = kept;
            died = items ∙ ap (λ xs. xs ++ place ∷ []) c.loop-i.invariant.died
                ∙ append_assoc c.args.died.now.items (filter test (row_of section_at c.args.s.x c.args.s.z c.loop-i.i)) (place ∷ [])
                ∙ ap (λ xs. c.args.died.now.items ++ xs) (sym (filter_yes section_at test c.args.s.x c.args.s.z c.loop-i.i yes));
            few = omega (arith, ap length items, length-append c.loop-i.died.items (place ∷ []), c.loop-i.invariant.few);
            space = omega (arith, w.push_reserved.ensures.capacity, c.loop-i.invariant.space);
          })
      | else-leave-eq0 w ↦
          let no : test place ≡ false = ap (λ n. nat_eq n 0) (sym less) ∙ ne_eqb _ _ w.if-leave-eq0.false in
          rw (w.died-is, c.leave.ensures.left) (record {
            near = near_more;
            kept = kept;
            died = c.loop-i.invariant.died ∙ ap (λ xs. c.args.died.now.items ++ xs) (sym (filter_no section_at test c.args.s.x c.args.s.z c.loop-i.i no));
            few = omega (arith, c.loop-i.invariant.few);
            space = c.loop-i.invariant.space;
          })
    ]

pub push_reserved-requires : goal.push_reserved-requires
push_reserved-requires c = omega (arith, c.loop-i.invariant.few, c.loop-i.invariant.space, c.requires.space, c.loop-i-test.true)
