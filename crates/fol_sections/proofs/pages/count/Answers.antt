use Rattle.std.proofs.Common.{◌≡◌, ◌+◌, sym, ◌∙◌, ap, arith, cond, length}
use Rattle.std.specs.Prelude.{None, Some, is_some, slice_index_or}
use Rattle.std.specs.Option.{option_and_then, option_copied_mut, unwrap_or}
use Rattle.std.proofs.lemmas.Bool.{true≢false}
use Rattle.fol_model.specs.Geometry.{same_section}
use Rattle.fol_sections.specs.Pages.{chunks_at, counts_at, counts_on, has_page, is_here, near_at, no_counts, page_at, page_of}
use Rattle.fol_sections.specs.Places.{is_same}
use Rattle.fol_sections.specs.Turns.{rise}
use Rattle.fol_sections.specs.declared.pages.Counts.{Counts}
use Rattle.fol_sections.proofs.PageSteps.{counts-written, here-page}
use Rattle.fol_sections.proofs.pages.count.Goals as goal

pub count-requires : goal.count-requires
unfolding page_at counts_at is_here chunks_at
count-requires c =
    let value = rw c.page_of.ensures at c.get_mut.ensures.value in
    let was = ap option_copied_mut (sym c.in-Some.is) ∙ value in
    let kept = ap (λ n. slice_index_or c.in-Some.page.now.sections n None) c.place_of.ensures.value ∙ ap (option_and_then (λ p. counts_on p c.args.s)) was in
    let loaded = ap (λ o. (unwrap_or o no_counts).loaded) kept in
    record {
      place = c.place_of.ensures.few;
      here = ap is_some kept ∙ c.requires.here;
      low = omega (arith, loaded, c.requires.low);
      few = omega (arith, loaded, c.requires.high);
    }

pub returns-in-Some-clause-after : goal.returns-in-Some-clause-after
unfolding page_at counts_at chunks_at
returns-in-Some-clause-after c =
    let value = rw c.page_of.ensures at c.get_mut.ensures.value in
    let was = ap option_copied_mut (sym c.in-Some.is) ∙ value in
    let kept = ap (λ n. slice_index_or c.in-Some.page.now.sections n None) c.place_of.ensures.value ∙ ap (option_and_then (λ p. counts_on p c.args.s)) was in
    c.count.ensures.after ∙ ap (λ o. (unwrap_or o no_counts).loaded + rise c.args.turn 1) kept

pub returns-in-Some-clause-put : goal.returns-in-Some-clause-put
unfolding page_at counts_at near_at is_same
returns-in-Some-clause-put c = λ q.
    let n : length c.in-Some.page.now.sections ≡ 32 = c.count.ensures.whole in
    let value = rw c.page_of.ensures at c.get_mut.ensures.value in
    let was = ap option_copied_mut (sym c.in-Some.is) ∙ value in
    let w = c.get_mut.follows.holds c.count.new.self in
    let updates = rw c.page_of.ensures at (w.updates (ap is_some (sym c.get_mut.ensures.value ∙ ap option_copied_mut c.in-Some.is))) in
    let kept = ap (λ n. slice_index_or c.in-Some.page.now.sections n None) c.place_of.ensures.value ∙ ap (option_and_then (λ p. counts_on p c.args.s)) was in
    let now : Counts = record { loaded = c.count.result; near = (unwrap_or (slice_index_or c.in-Some.page.now.sections c.place_of.result None) no_counts).near } in
    counts-written c.args.pages.now.entries _ c.args.s c.in-Some.page.now (omega (arith, n)) c.place_of.result c.place_of.ensures.value (Some now)
    (λ a b. updates a b ∙ ap (λ p. cond (is_same (page_of c.args.s.x) c.args.s.z a b) (Some p) (page_at c.args.pages.now.entries a b)) c.count.ensures.counted) q (ap (option_and_then (λ p. counts_on p q)) (sym was))
    ∙ ap (λ o. cond (same_section c.args.s q) (Some (record { loaded = c.count.result; near = (unwrap_or o no_counts).near })) (counts_at c.args.pages.now.entries q)) kept

pub returns-in-None : goal.returns-in-None
unfolding page_at has_page
returns-in-None c =
    let value = rw c.page_of.ensures at c.get_mut.ensures.value in
    absurd (true≢false (sym (here-page c.args.pages.now.entries c.args.s c.requires.here) ∙ ap is_some (sym value ∙ ap option_copied_mut c.in-None.is)))
