use Rattle.std.proofs.Common.{◌≡◌, ℕ, ◌+◌, ◌<◌, ◌≤◌, refl, sym, ◌∙◌, ap, arith, Bool, true, cond, not, ◌||◌, List, ◌++◌, append_assoc, length}
use Rattle.std.specs.Prelude.{nat_lt, pos, ◌+ℤ◌}
use Rattle.std.specs.List.{count_by, filter}
use Rattle.std.proofs.lemmas.List.Elements.{filter-append}
use Rattle.fol_model.specs.declared.places.SectionPos.{SectionPos}
use Rattle.fol_model.specs.Geometry.{is_among, is_within, same_section}
use Rattle.fol_model.specs.Universe.{square}
use Rattle.fol_laws.proofs.SectionOrder.{square_members}
use Rattle.fol_sections.specs.Pages.{InNear, is_here}
use Rattle.fol_sections.specs.Rows.{row_of, section_at}
use Rattle.fol_sections.specs.SquareRuns.{rest}
use Rattle.fol_sections.proofs.FillSteps.{both_come, none_comes, one_comes}
use Rattle.fol_sections.proofs.Lengths.{length-square}
use Rattle.fol_sections.proofs.NearPages.{near_few, room_left, some_absent, square_near}
use Rattle.fol_sections.proofs.PageRuns.{filter_row, row_first, row_has}
use Rattle.fol_sections.proofs.Rows.{append-none}
use Rattle.fol_sections.proofs.SquareRows.{once, one_is, one_most}
use Rattle.fol_sections.proofs.SquareWalks.{run_counts, run_shorter}
use Rattle.fol_sections.proofs.squares.fill_square.Goals as goal

-- the first section of the next run is one of the square
member : (s first : SectionPos) (radius len : ℕ) (before after : List SectionPos) → before ≡ row_of section_at first.x first.z len ++ after → 0 < len
    → ((q : SectionPos) → count_by (same_section q) before ≤ cond (is_within s radius q) 1 0) → is_among (square s radius) first ≡ true
member s first radius len before after e some most =
    square_members s radius first ∙ one_is (is_within s radius first) (omega (arith, most first, run_counts first first.x first.z len before after e, row_first first len some))

pub loop-first-init : goal.loop-first-init
loop-first-init c =
    let e = c.new-runs.ensures in
    let all : (q : SectionPos) → count_by (same_section q) (rest c.new-runs.result) ≡ cond (is_within c.args.s c.args.radius q) 1 0
    = λ q. ap (count_by (same_section q)) e ∙ once c.args.s c.args.radius q in
    record {
      once = λ q. omega (arith, all q);
      near = λ q. omega (arith, all q);
      here = λ q. ap (λ b. is_here c.args.pages.now.entries q || b) (ap (nat_lt 0) (all q) ∙ one_comes (is_within c.args.s c.args.radius q));
      coming = λ q some. refl;
      chunks = λ q. refl;
      room = λ near. omega arith;
      filled = (λ i. c.requires.none i ++ filter (λ q. not (is_here c.args.pages.now.entries q)) (e i));
      most = omega (arith, ap length c.requires.none, ap length e, length-square c.args.s c.args.radius c.requires.few);
      space = omega arith;
    }

pub fill_run-requires-clause-high : goal.fill_run-requires-clause-high
fill_run-requires-clause-high c = λ q. omega (arith, c.loop-first.invariant.near q, c.requires.high q, one_most (is_within c.args.s c.args.radius q))

pub fill_run-requires-clause-room : goal.fill_run-requires-clause-room
fill_run-requires-clause-room c = λ none.
    let near : InNear (square c.args.s c.args.radius) = square_near c.args.s c.args.radius c.requires.few in
    let one = member c.args.s c.in-Some.first c.args.radius c.in-Some.len _ _ c.in-Some.ensures.run c.in-Some.ensures.some c.loop-first.invariant.once in
    omega (
      arith,
      c.loop-first.invariant.room near,
      near_few c.args.pages.now.entries near.x near.z,
      c.requires.room,
      some_absent (square c.args.s c.args.radius) near c.in-Some.first one c.loop-first.pages.entries none,
    )

pub fill_run-requires-clause-space : goal.fill_run-requires-clause-space
fill_run-requires-clause-space c =
    let shorter = run_shorter c.in-Some.first.x c.in-Some.first.z c.in-Some.len _ _ c.in-Some.ensures.run in
    omega (arith, shorter, c.loop-first.invariant.most, c.loop-first.invariant.space, c.requires.space)

pub loop-first-preserved : goal.loop-first-preserved
loop-first-preserved c =
    let inv = c.loop-first.invariant in
    let first = c.in-Some.first in
    let len = c.in-Some.len in
    let test : SectionPos → Bool = λ q. not (is_here c.args.pages.now.entries q) in
    let row = row_of section_at first.x first.z len in
    let come = rest c.next_run.new.self in
    let shorter = run_shorter first.x first.z len _ _ c.in-Some.ensures.run in
    let split : (q : SectionPos) → count_by (same_section q) (rest c.loop-first.runs) ≡ count_by (same_section q) row + count_by (same_section q) come
    = λ q. run_counts q first.x first.z len _ _ c.in-Some.ensures.run in
    let more : filter (λ q. not (is_here c.loop-first.pages.entries q)) row ≡ filter test row
    = filter_row (λ q. not (is_here c.loop-first.pages.entries q)) test first.x first.z len (λ i l.
    let place : SectionPos = section_at (first.x +ℤ pos i) first.z in
    ap not (inv.coming place (omega (arith, split place, row_has first.x first.z len i l)))) in
    let one = member c.args.s first c.args.radius len _ _ c.in-Some.ensures.run c.in-Some.ensures.some inv.once in
    record {
      once = λ q. omega (arith, split q, inv.once q);
      near = λ q. omega (arith, split q, inv.near q, c.fill_run.ensures.near q);
      here = λ q.
          ap (λ b. b || nat_lt 0 (count_by (same_section q) come)) (c.fill_run.ensures.here q)
          ∙ both_come (is_here c.loop-first.pages.entries q) (count_by (same_section q) row) (count_by (same_section q) come)
          ∙ ap (λ n. is_here c.loop-first.pages.entries q || nat_lt 0 n) (sym (split q)) ∙ inv.here q;
      coming = λ q some.
          c.fill_run.ensures.here q
          ∙ none_comes (is_here c.loop-first.pages.entries q) _ (omega (arith, some, split q, inv.once q, one_most (is_within c.args.s c.args.radius q)))
          ∙ inv.coming q (omega (arith, some, split q));
      chunks = λ q. c.fill_run.ensures.chunks q ∙ inv.chunks q;
      room = λ near. omega (
        arith,
        inv.room near,
        room_left c.loop-first.pages.entries c.fill_run.new.pages.entries (square c.args.s c.args.radius) near first one c.fill_run.ensures.pages _ _ c.fill_run.ensures.room,
      );
      filled = ap (λ xs. xs ++ filter test come) (c.fill_run.ensures.filled ∙ ap (λ xs. c.loop-first.filled.items ++ xs) more) ∙ append_assoc c.loop-first.filled.items (filter test row) (filter test come)
          ∙ ap (λ xs. c.loop-first.filled.items ++ xs) (sym (ap (filter test) c.in-Some.ensures.run ∙ filter-append test row come)) ∙ inv.filled;
      most = omega (arith, shorter, c.fill_run.ensures.few, inv.most);
      space = omega (arith, c.fill_run.ensures.space, inv.space);
    }

pub loop-first-smaller : goal.loop-first-smaller
loop-first-smaller c = omega (arith, run_shorter c.in-Some.first.x c.in-Some.first.z c.in-Some.len _ _ c.in-Some.ensures.run, c.in-Some.ensures.some)

pub returns-clause-near : goal.returns-clause-near
returns-clause-near c = λ q. omega (arith, c.loop-first.invariant.near q, ap (count_by (same_section q)) c.in_default.ensures.end)

pub returns-clause-here : goal.returns-clause-here
returns-clause-here c = λ q. sym (none_comes (is_here c.loop-first.pages.entries q) _ (ap (count_by (same_section q)) c.in_default.ensures.end)) ∙ c.loop-first.invariant.here q

pub returns-clause-room : goal.returns-clause-room
returns-clause-room c =
    let near : InNear (square c.args.s c.args.radius) = square_near c.args.s c.args.radius c.requires.few in
    omega (arith, c.loop-first.invariant.room near, near_few c.args.pages.now.entries near.x near.z)

pub returns-clause-filled : goal.returns-clause-filled
returns-clause-filled c =
    let test : SectionPos → Bool = λ q. not (is_here c.args.pages.now.entries q) in
    sym (append-none c.loop-first.filled.items) ∙ ap (λ xs. c.loop-first.filled.items ++ filter test xs) (sym c.in_default.ensures.end) ∙ c.loop-first.invariant.filled
