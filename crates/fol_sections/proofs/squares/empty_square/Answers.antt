use Rattle.std.proofs.Common.{◌≡◌, ℕ, ◌+◌, ◌-◌, refl, sym, ◌∙◌, ap, arith, Bool, cond, ◌++◌, append_assoc, length}
use Rattle.std.specs.Prelude.{nat_eq, pos, ◌+ℤ◌}
use Rattle.std.specs.List.{count_by, filter}
use Rattle.std.proofs.lemmas.List.Elements.{filter-append}
use Rattle.fol_model.specs.declared.places.SectionPos.{SectionPos}
use Rattle.fol_model.specs.Geometry.{is_within, same_section}
use Rattle.fol_model.specs.Universe.{square}
use Rattle.fol_laws.proofs.SectionOrder.{square_members}
use Rattle.fol_sections.specs.Pages.{near_at}
use Rattle.fol_sections.specs.Rows.{row_of, section_at}
use Rattle.fol_sections.specs.SquareRuns.{rest}
use Rattle.fol_sections.proofs.DeadSteps.{filter-like}
use Rattle.fol_sections.proofs.Lengths.{length-square}
use Rattle.fol_sections.proofs.PageRuns.{filter_row, row_has}
use Rattle.fol_sections.proofs.Rows.{append-none}
use Rattle.fol_sections.proofs.SquareRows.{once, one_is, one_most}
use Rattle.fol_sections.proofs.SquareWalks.{run_counts, run_shorter}
use Rattle.fol_sections.proofs.squares.empty_square.Goals as goal

pub loop-first-init : goal.loop-first-init
loop-first-init c =
    let e = c.new-runs.ensures in
    let all : (q : SectionPos) → count_by (same_section q) (rest c.new-runs.result) ≡ cond (is_within c.args.s c.args.radius q) 1 0
    = λ q. ap (count_by (same_section q)) e ∙ once c.args.s c.args.radius q in
    record {
      once = λ q. omega (arith, all q);
      near = λ q. omega (arith, all q);
      here = λ q. refl;
      chunks = λ q. refl;
      room = refl;
      died = (λ i. c.requires.none i ++ filter (λ q. nat_eq (near_at c.args.pages.now.entries q - 1) 0) (e i));
      most = omega (arith, ap length c.requires.none, ap length e, length-square c.args.s c.args.radius c.requires.few);
      space = omega arith;
    }

pub empty_run-requires-clause-here : goal.empty_run-requires-clause-here
empty_run-requires-clause-here c = λ q some.
    let split = run_counts q c.in-Some.first.x c.in-Some.first.z c.in-Some.len _ _ c.in-Some.ensures.run in
    c.loop-first.invariant.here q ∙ c.requires.here q (one_is (is_within c.args.s c.args.radius q) (omega (arith, split, c.loop-first.invariant.once q, some)))

pub empty_run-requires-clause-low : goal.empty_run-requires-clause-low
empty_run-requires-clause-low c = λ q.
    let split = run_counts q c.in-Some.first.x c.in-Some.first.z c.in-Some.len _ _ c.in-Some.ensures.run in
    omega (arith, split, c.loop-first.invariant.near q, c.requires.low q)

pub empty_run-requires-clause-space : goal.empty_run-requires-clause-space
empty_run-requires-clause-space c =
    let shorter = run_shorter c.in-Some.first.x c.in-Some.first.z c.in-Some.len _ _ c.in-Some.ensures.run in
    omega (arith, shorter, c.loop-first.invariant.most, c.loop-first.invariant.space, c.requires.space)

pub loop-first-preserved : goal.loop-first-preserved
loop-first-preserved c =
    let inv = c.loop-first.invariant in
    let first = c.in-Some.first in
    let len = c.in-Some.len in
    let test : SectionPos → Bool = λ q. nat_eq (near_at c.args.pages.now.entries q - 1) 0 in
    let row = row_of section_at first.x first.z len in
    let come = rest c.next_run.new.self in
    let shorter = run_shorter first.x first.z len _ _ c.in-Some.ensures.run in
    let split : (q : SectionPos) → count_by (same_section q) (rest c.loop-first.runs) ≡ count_by (same_section q) row + count_by (same_section q) come
    = λ q. run_counts q first.x first.z len _ _ c.in-Some.ensures.run in
    let more : filter (λ q. nat_eq (near_at c.loop-first.pages.entries q - 1) 0) row ≡ filter test row
    = filter_row (λ q. nat_eq (near_at c.loop-first.pages.entries q - 1) 0) test first.x first.z len (λ i l.
    let place : SectionPos = section_at (first.x +ℤ pos i) first.z in
    let same : near_at c.loop-first.pages.entries place ≡ near_at c.args.pages.now.entries place
    = omega (arith, split place, row_has first.x first.z len i l, inv.once place, inv.near place, one_most (is_within c.args.s c.args.radius place)) in
    ap (λ n. nat_eq (n - 1) 0) same) in
    record {
      once = λ q. omega (arith, split q, inv.once q);
      near = λ q. omega (arith, split q, inv.near q, c.empty_run.ensures.near q);
      here = λ q. c.empty_run.ensures.here q ∙ inv.here q;
      chunks = λ q. c.empty_run.ensures.chunks q ∙ inv.chunks q;
      room = c.empty_run.ensures.room ∙ inv.room;
      died = ap (λ xs. xs ++ filter test come) (c.empty_run.ensures.died ∙ ap (λ xs. c.loop-first.died.items ++ xs) more) ∙ append_assoc c.loop-first.died.items (filter test row) (filter test come)
          ∙ ap (λ xs. c.loop-first.died.items ++ xs) (sym (ap (filter test) c.in-Some.ensures.run ∙ filter-append test row come)) ∙ inv.died;
      most = omega (arith, shorter, c.empty_run.ensures.few, inv.most);
      space = omega (arith, c.empty_run.ensures.space, inv.space);
    }

pub loop-first-smaller : goal.loop-first-smaller
loop-first-smaller c = omega (arith, run_shorter c.in-Some.first.x c.in-Some.first.z c.in-Some.len _ _ c.in-Some.ensures.run, c.in-Some.ensures.some)

pub returns-clause-near : goal.returns-clause-near
returns-clause-near c = λ q. omega (arith, c.loop-first.invariant.near q, ap (count_by (same_section q)) c.in_default.ensures.end)

pub returns-clause-died : goal.returns-clause-died
returns-clause-died c =
    let first : SectionPos → Bool = λ q. nat_eq (near_at c.args.pages.now.entries q - 1) 0 in
    let all = sym (append-none c.loop-first.died.items) ∙ ap (λ xs. c.loop-first.died.items ++ filter first xs) (sym c.in_default.ensures.end) ∙ c.loop-first.invariant.died in
    all ∙ filter-like first (λ q. nat_eq (near_at c.loop-first.pages.entries q) 0) (square c.args.s c.args.radius) (λ q k.
    let within = ap (λ b. cond {A = ℕ} b 1 0) (sym (square_members c.args.s c.args.radius q) ∙ k) in
    let less : near_at c.args.pages.now.entries q - 1 ≡ near_at c.loop-first.pages.entries q
    = omega (arith, within, c.loop-first.invariant.near q, ap (count_by (same_section q)) c.in_default.ensures.end) in
    ap (λ n. nat_eq n 0) less)
