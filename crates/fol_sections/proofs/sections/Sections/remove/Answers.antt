use Rattle.std.proofs.Common.{◌≡◌, ℕ, ◌+◌, ◌-◌, refl, sym, ◌∙◌, ap, arith, Bool, true, false, cond, ◌&&◌, inl, inr, List}
use Rattle.std.specs.Prelude.{ℤ, nat_eq, if◌then◌else◌}
use Rattle.std.proofs.Math.Path.{fun_ext}
use Rattle.std.proofs.lemmas.Bool.{cases_Bool, lt-ltb, eq-eqb, eqb-true, ne_eqb}
use Rattle.fol_model.specs.declared.places.ChunkPos.{ChunkPos}
use Rattle.fol_model.specs.declared.places.SectionPos.{SectionPos}
use Rattle.fol_model.specs.declared.grids.Grid.{Grid}
use Rattle.fol_model.specs.Geometry.{is_within, same_section, section_of}
use Rattle.fol_model.specs.GridState.{at_chunk}
use Rattle.fol_sections.specs.declared.answers.Removed.{Removed}
use Rattle.fol_sections.specs.declared.answers.Removed.TheVariants.{Gone, Lowered, NotLoaded}
use Rattle.fol_sections.specs.Kept.{IsKept, is_held}
use Rattle.fol_sections.specs.Pages.{chunks_at, is_here, near_at}
use Rattle.fol_sections.specs.declared.pages.Page.{Page}
use Rattle.fol_sections.specs.Places.{count_at}
use Rattle.fol_sections.specs.Table.{removed}
use Rattle.fol_sections.proofs.AddTable.{home_near}
use Rattle.fol_sections.proofs.Bounds.{chunks_few}
use Rattle.fol_sections.proofs.DeadSteps.{dead_square}
use Rattle.fol_sections.proofs.KeptSteps.{kept_remove}
use Rattle.fol_sections.proofs.Margins.{near_home}
use Rattle.fol_sections.proofs.NumberSteps.{chunks_positive}
use Rattle.fol_sections.proofs.Tables.{table-holds, table-presence}
use Rattle.fol_sections.proofs.sections.Sections.remove.Goals as goal
use Rattle.fol_sections.proofs.sections.Sections.remove.Goals.{then-count-eq1, else-count-eq1}

-- what a table keeps where a chunk has no hold any more
kept_last : (grid : Grid) (holds holds' : List ((ℤ × ℤ) × ℕ)) (pages pages' : List ((ℤ × ℤ) × Page)) (count : ℕ) (c : ChunkPos) → IsKept grid holds pages count → count_at holds c ≡ 1
    → ((q : ChunkPos) → count_at holds' q ≡ at_chunk (count_at holds) c (count_at holds c - 1) q)
    → ((s : SectionPos) → is_here pages' s ≡ is_here pages s)
    → ((s : SectionPos) → chunks_at pages s ≡ cond (same_section (section_of grid c) s) 1 0 + chunks_at pages' s)
    → ((s : SectionPos) → near_at pages s ≡ near_at pages' s + cond (nat_eq (chunks_at pages (section_of grid c)) 1 && is_within (section_of grid c) grid.create s) 1 0)
    → IsKept grid holds' pages' count
kept_last grid holds holds' pages pages' count c kept last counts here fell near =
    let one : nat_eq (count_at holds c) 1 ≡ true = eq-eqb _ _ last in
    let home = section_of grid c in
    kept_remove grid holds holds' pages pages' count c kept counts here
    (λ s. fell s ∙ ap (λ b. cond b 1 0 + chunks_at pages' s) (sym (ap (λ b. same_section home s && b) one ∙ always (same_section home s))))
    (λ s. near s ∙ ap (λ b. near_at pages' s + cond (b && (nat_eq (chunks_at pages home) 1 && is_within home grid.create s)) 1 0) (sym one))
  where
    always : (b : Bool) → (b && true) ≡ b
    always true = refl
    always false = refl

nothing : (b : Bool) (n : ℕ) → n ≡ cond (b && false) 1 0 + n
nothing true n = omega arith
nothing false n = omega arith

plain : (n : ℕ) → n ≡ n + 0
plain n = omega arith

pub drop_chunk-requires : goal.drop_chunk-requires
drop_chunk-requires c =
    let held : is_held c.self.inside.holds.entries c.args.c ≡ true = lt-ltb _ _ (omega (arith, c.drop_hold-count.ensures.before, c.if-count-eq1.true)) in
    let home = section_of c.self.inside.grid c.args.c in
    let kept = c.self.invariant.0 in
    rw (c.section_of-home.ensures, c.create_radius.ensures) (record {
      near = home_near _ _ _ _ c.self.inside.filled.items c.self.inside.died.items c.self.inside.spare kept c.args.c (kept.chunk_limits c.args.c held);
      few = kept.numbers.create_high;
      here = λ s w. kept.margin c.args.c s held w;
      some = chunks_positive c.self.inside.grid c.self.inside.holds.entries c.self.inside.pages.entries c.self.inside.count c.args.c kept held;
      chunks_high = chunks_few _ _ _ _ home kept;
      near_low = near_home c.self.inside.grid c.self.inside.holds.entries c.self.inside.pages.entries c.self.inside.count kept c.args.c held;
      none = c.clear.ensures.items;
      space = omega (arith, c.clear.ensures.capacity, c.self.invariant.1.died);
    })

pub invariant_of-self : goal.invariant_of-self
invariant_of-self c =
    let fell = rw c.section_of-home.ensures at c.drop_chunk.ensures.chunks in
    let near = rw (c.section_of-home.ensures, c.create_radius.ensures) at c.drop_chunk.ensures.near in (
      kept_last _ _ _ _ _ _ c.args.c c.self.invariant.0 (omega (arith, c.drop_hold-count.ensures.before, c.if-count-eq1.true)) c.drop_hold-count.ensures.counts c.drop_chunk.ensures.here fell near,
      record {
        holds = omega (arith, c.drop_hold-count.ensures.room, c.self.invariant.1.holds);
        pages = omega (arith, c.drop_chunk.ensures.room, c.self.invariant.1.pages);
        filled = c.self.invariant.1.filled;
        died = omega (arith, c.drop_chunk.ensures.space, c.clear.ensures.capacity, c.self.invariant.1.died);
        fits = c.self.invariant.1.fits;
      },
    )

pub invariant_of-self-else-count-eq1 : goal.invariant_of-self-else-count-eq1
invariant_of-self-else-count-eq1 c =
    let other : nat_eq (count_at c.self.inside.holds.entries c.args.c) 1 ≡ false = ne_eqb _ _ (λ e. c.if-count-eq1.false (c.drop_hold-count.ensures.before ∙ e)) in
    let home = section_of c.self.inside.grid c.args.c in (
      kept_remove _ _ _ _ _ _ c.args.c c.self.invariant.0 c.drop_hold-count.ensures.counts (λ s. refl)
          (λ s. nothing (same_section home s) (chunks_at c.self.inside.pages.entries s)
          ∙ ap (λ b. cond (same_section home s && b) 1 0 + chunks_at c.self.inside.pages.entries s) (sym other))
          (λ s. plain (near_at c.self.inside.pages.entries s)
          ∙ ap (λ b. near_at c.self.inside.pages.entries s + cond (b && (nat_eq (chunks_at c.self.inside.pages.entries home) 1 && is_within home c.self.inside.grid.create s)) 1 0) (sym other)),
      record {
        holds = omega (arith, c.drop_hold-count.ensures.room, c.self.invariant.1.holds);
        pages = c.self.invariant.1.pages;
        filled = c.self.invariant.1.filled;
        died = omega (arith, c.clear.ensures.capacity, c.self.invariant.1.died);
        fits = c.self.invariant.1.fits;
      },
    )

-- what removing a hold comes to on a chunk that had so many
abbrev answer : ℕ → Removed
answer n = if nat_eq n 0 then NotLoaded else (if nat_eq n 1 then Gone else Lowered)

gone_last : (n : ℕ) → answer n ≡ Gone → n ≡ 1
gone_last n e = elim (cases_Bool (nat_eq n 1)) [
  | inl y ↦ eqb-true n 1 y
  | inr y ↦ elim (cases_Bool (nat_eq n 0)) [
    | inl z ↦ let k : NotLoaded ≡ Gone = sym (ap (λ b. if b then NotLoaded else (if nat_eq n 1 then Gone else Lowered)) z) ∙ e in cc
    | inr z ↦ let k : Lowered ≡ Gone = sym (ap (λ b. if b then NotLoaded else (if nat_eq n 1 then Gone else Lowered)) z ∙ ap (λ b. if b then Gone else Lowered) y) ∙ e in cc
  ]
]

last_gone : (n : ℕ) → n ≡ 1 → answer n ≡ Gone
last_gone n e = ap answer e

pub returns-clause-answer : goal.returns-clause-answer
unfolding removed
returns-clause-answer c =
    let is = c.drop_hold-count.ensures.before ∙ sym (ap (λ (f : ChunkPos → ℕ). f c.args.c) (table-holds c.self.inside.grid c.self.inside.holds.entries c.self.inside.pages.entries c.self.inside.filled.items c.self.inside.died.items c.self.inside.spare)) in
    let answer : ℕ → Removed = λ n. if nat_eq n 0 then NotLoaded else (if nat_eq n 1 then Gone else Lowered) in
    rw (← c.self.view_is) (c.answer_for.ensures ∙ ap answer is)

pub returns-clause-holds : goal.returns-clause-holds
returns-clause-holds c =
    let before = table-holds c.self.inside.grid c.self.inside.holds.entries c.self.inside.pages.entries c.self.inside.filled.items c.self.inside.died.items c.self.inside.spare in
    let step = fun_ext c.drop_hold-count.ensures.counts ∙ ap (λ (f : ChunkPos → ℕ). at_chunk f c.args.c (f c.args.c - 1)) (sym before) in
    elim c.if-count-eq1.branch [
      | then-count-eq1 w ↦ rw (w.self-is, ← c.self.view_is) (table-holds _ _ _ _ _ _ ∙ step)
      | else-count-eq1 w ↦ rw (w.self-is, ← c.self.view_is) (table-holds _ _ _ _ _ _ ∙ step)
    ]

pub returns-clause-presence : goal.returns-clause-presence
returns-clause-presence c =
    let limits = c.self.invariant.0.section_limits in
    let before = table-presence c.self.inside.grid c.self.inside.holds.entries c.self.inside.pages.entries c.self.inside.filled.items c.self.inside.died.items c.self.inside.spare limits in
    elim c.if-count-eq1.branch [
      | then-count-eq1 w ↦ rw (w.self-is, ← c.self.view_is) (table-presence _ _ _ _ _ _ (λ s h. limits s (sym (w.drop_chunk.ensures.here s) ∙ h)) ∙ fun_ext w.drop_chunk.ensures.here ∙ sym before)
      | else-count-eq1 w ↦ rw (w.self-is, ← c.self.view_is) (table-presence _ _ _ _ _ _ limits ∙ sym before)
    ]

pub returns-clause-died : goal.returns-clause-died
returns-clause-died c = λ gone.
    let last = gone_last c.drop_hold-count.result (sym c.answer_for.ensures ∙ gone) in
    let kept = c.self.invariant.0 in
    let held : is_held c.self.inside.holds.entries c.args.c ≡ true = lt-ltb _ _ (omega (arith, c.drop_hold-count.ensures.before, last)) in
    let home = section_of c.self.inside.grid c.args.c in
    elim c.if-count-eq1.branch [
      | then-count-eq1 w ↦
          let fell = rw w.section_of-home.ensures at w.drop_chunk.ensures.chunks in
          let near = rw (w.section_of-home.ensures, w.create_radius.ensures) at w.drop_chunk.ensures.near in
          let died = rw (w.section_of-home.ensures, w.create_radius.ensures) at w.drop_chunk.ensures.died in
          let after = kept_last _ _ _ _ _ _ c.args.c kept (omega (arith, c.drop_hold-count.ensures.before, last)) c.drop_hold-count.ensures.counts w.drop_chunk.ensures.here fell near in
          rw (w.self-is, ← c.self.view_is) (died ∙ dead_square _ _ _ c.self.inside.count _ _ _ after home c.self.inside.grid.create (λ s within. w.drop_chunk.ensures.here s ∙ kept.margin c.args.c s held within))
      | else-count-eq1 w ↦ absurd (w.if-count-eq1.false last)
    ]

pub returns-clause-none_died : goal.returns-clause-none_died
returns-clause-none_died c = λ other.
    elim c.if-count-eq1.branch [
      | then-count-eq1 w ↦ absurd (other (c.answer_for.ensures ∙ last_gone c.drop_hold-count.result w.if-count-eq1.true))
      | else-count-eq1 w ↦ rw w.self-is c.clear.ensures.items
    ]
