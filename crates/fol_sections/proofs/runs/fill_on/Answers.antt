use Rattle.std.proofs.Common.{◌≡◌, ℕ, ◌+◌, ◌≤◌, ◌||◌, Bool, true, false, refl, sym, ◌∙◌, ap, arith, cond, not, ◌∷◌, [], ◌++◌, append_assoc, length, length-append}
use Rattle.std.specs.Prelude.{None, Option, Some, is_some, nat_lt, pos, slice_index_or, slice_set, ◌+ℤ◌}
use Rattle.std.specs.List.{count_by, filter}
use Rattle.std.specs.Option.{unwrap_or}
use Rattle.fol_model.specs.declared.places.SectionPos.{SectionPos}
use Rattle.fol_model.specs.Geometry.{same_section}
use Rattle.fol_pages.proofs.PageRuns.{run_page, run_place}
use Rattle.fol_sections.specs.Pages.{IsOnPage, chunks_on, counts_on, near_on, no_counts, place_of, reached}
use Rattle.fol_sections.specs.declared.pages.Counts.{Counts}
use Rattle.fol_sections.specs.Rows.{row_of, section_at}
use Rattle.fol_sections.specs.declared.pages.Page.{Page}
use Rattle.fol_sections.specs.declared.turns.Turn.TheVariants.{Filled}
use Rattle.fol_sections.proofs.FillSteps.{both_come, none_comes, one_comes}
use Rattle.fol_sections.proofs.PageRuns.{row_before, run_few, step_chunks, step_here, step_turns}
use Rattle.fol_sections.proofs.Rows.{append-none, count_more, filter_no, filter_yes, row-none}
use Rattle.fol_sections.proofs.runs.fill_on.Goals as goal
use Rattle.fol_sections.proofs.runs.fill_on.Goals.{then-reach, else-reach}

pub loop-i-init : goal.loop-i-init
loop-i-init c =
    let none = row-none section_at c.args.s.x c.args.s.z in
    record {
      near = λ q on. omega (arith, ap (count_by (same_section q)) none);
      here = λ q on. sym (none_comes (is_some (counts_on c.args.page.now q)) _ (ap (count_by (same_section q)) none));
      chunks = λ q. refl;
      filled = sym (ap (λ xs. c.args.filled.now.items ++ filter (λ q. not (is_some (counts_on c.args.page.now q))) xs) none ∙ append-none c.args.filled.now.items);
      few = omega arith;
      space = omega arith;
    }

pub reach-requires : goal.reach-requires
reach-requires c =
    let place : SectionPos = section_at (c.args.s.x +ℤ pos c.loop-i.i) c.args.s.z in
    let on : IsOnPage c.args.s place = (run_page c.args.s c.args.len c.requires.run c.loop-i.i c.loop-i-test.true, refl) in
    let f = run_few c.args.s c.args.len c.requires.run c.loop-i.i c.loop-i-test.true in
    let same : c.place_of-place.result + c.loop-i.i ≡ place_of place = sym (run_place c.args.s c.args.len c.requires.run c.loop-i.i c.loop-i-test.true ∙ ap (λ n. n + c.loop-i.i) (sym c.place_of-place.ensures.value)) in
    let near : near_on c.loop-i.page place ≡ (unwrap_or (slice_index_or c.loop-i.page.sections (c.place_of-place.result + c.loop-i.i) None) no_counts).near
    = ap (λ n. (unwrap_or (slice_index_or c.loop-i.page.sections n None) no_counts).near) (sym same) in
    record {
      place = omega (arith, f, c.place_of-place.ensures.value);
      few = omega (arith, near, c.loop-i.invariant.near place on, c.requires.high place on, row_before c.args.s.x c.args.s.z c.loop-i.i);
    }

pub push_reserved-requires : goal.push_reserved-requires
push_reserved-requires c = omega (arith, c.loop-i.invariant.few, c.loop-i.invariant.space, c.requires.space, c.loop-i-test.true)

pub loop-i-preserved : goal.loop-i-preserved
loop-i-preserved c =
    let inv = c.loop-i.invariant in
    let place : SectionPos = section_at (c.args.s.x +ℤ pos c.loop-i.i) c.args.s.z in
    let on : IsOnPage c.args.s place = (run_page c.args.s c.args.len c.requires.run c.loop-i.i c.loop-i-test.true, refl) in
    let at : ℕ = c.place_of-place.result + c.loop-i.i in
    let same : at ≡ place_of place = sym (run_place c.args.s c.args.len c.requires.run c.loop-i.i c.loop-i-test.true ∙ ap (λ n. n + c.loop-i.i) (sym c.place_of-place.ensures.value)) in
    let was : Option Counts = slice_index_or c.loop-i.page.sections at None in
    let had : counts_on c.loop-i.page place ≡ was = ap (λ n. slice_index_or c.loop-i.page.sections n None) (sym same) in
    let whole : 32 ≤ length c.loop-i.page.sections = omega (arith, c.reach.ensures.whole) in
    let after : Page = record { sections = slice_set c.loop-i.page.sections at (Some (reached was)) } in
    let turns : (q : SectionPos) → IsOnPage c.args.s q → near_on after q + 0 ≡ near_on c.loop-i.page q + cond (same_section q place) 1 0
    = step_turns c.loop-i.page whole c.args.s place on at same was (reached was) had Filled (omega arith) in
    let near : (q : SectionPos) → IsOnPage c.args.s q → near_on after q ≡ near_on c.args.page.now q + count_by (same_section q) (row_of section_at c.args.s.x c.args.s.z (c.loop-i.i + 1))
    = λ q here. omega (arith, turns q here, inv.near q here, count_more section_at (same_section q) c.args.s.x c.args.s.z c.loop-i.i) in
    let here : (q : SectionPos) → IsOnPage c.args.s q → is_some (counts_on after q) ≡ (is_some (counts_on c.args.page.now q) || nat_lt 0 (count_by (same_section q) (row_of section_at c.args.s.x c.args.s.z (c.loop-i.i + 1))))
    = λ q here.
    let so_far : ℕ = count_by (same_section q) (row_of section_at c.args.s.x c.args.s.z c.loop-i.i) in
    step_here c.loop-i.page whole c.args.s place on at same was (reached was) had q here
    ∙ (λ i. inv.here q here i || sym (one_comes (same_section q place)) i)
    ∙ both_come (is_some (counts_on c.args.page.now q)) so_far (cond (same_section q place) 1 0)
    ∙ ap (λ n. is_some (counts_on c.args.page.now q) || nat_lt 0 n) (sym (count_more section_at (same_section q) c.args.s.x c.args.s.z c.loop-i.i)) in
    let chunks : (q : SectionPos) → chunks_on after q ≡ chunks_on c.args.page.now q
    = λ q. step_chunks c.loop-i.page whole c.args.s place on at same was (reached was) had refl q ∙ inv.chunks q in
    let test : SectionPos → Bool = λ q. not (is_some (counts_on c.args.page.now q)) in
    let first : is_some was ≡ is_some (counts_on c.args.page.now place)
    = ap is_some (sym had) ∙ inv.here place on ∙ none_comes (is_some (counts_on c.args.page.now place)) _ (row_before c.args.s.x c.args.s.z c.loop-i.i) in
    elim c.if-reach.branch [
      | then-reach w ↦
          let yes : test place ≡ true = ap not (sym first) ∙ sym c.reach.ensures.made ∙ w.if-reach.true in
          let items = rw w.behind.ensures at w.push_reserved.ensures.items in
          rw (w.filled-is, c.reach.ensures.reached) (record {
            near = near;
            here = here;
            chunks = chunks;
            filled = items ∙ ap (λ xs. xs ++ place ∷ []) inv.filled
                ∙ append_assoc c.args.filled.now.items (filter test (row_of section_at c.args.s.x c.args.s.z c.loop-i.i)) (place ∷ [])
                ∙ ap (λ xs. c.args.filled.now.items ++ xs) (sym (filter_yes section_at test c.args.s.x c.args.s.z c.loop-i.i yes));
            few = omega (arith, ap length items, length-append c.loop-i.filled.items (place ∷ []), inv.few);
            space = omega (arith, w.push_reserved.ensures.capacity, inv.space);
          })
      | else-reach w ↦
          let no : test place ≡ false = ap not (sym first) ∙ sym c.reach.ensures.made ∙ w.if-reach.false in
          rw (w.filled-is, c.reach.ensures.reached) (record {
            near = near;
            here = here;
            chunks = chunks;
            filled = inv.filled ∙ ap (λ xs. c.args.filled.now.items ++ xs) (sym (filter_no section_at test c.args.s.x c.args.s.z c.loop-i.i no));
            few = omega (arith, inv.few);
            space = inv.space;
          })
    ]
