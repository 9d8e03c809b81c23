use Rattle.std.proofs.Common.{◌≡◌, ℕ, ◌+◌, ◌<◌, ◌≤◌, refl, sym, ◌∙◌, ap, arith, Bool, not, ◌&&◌, length, inl, inr}
use Rattle.std.specs.Prelude.{nat_eq, nat_le, nat_lt}
use Rattle.std.specs.List.{filter}
use Rattle.std.proofs.Math.Bool.{and-false}
use Rattle.std.proofs.lemmas.Bool.{cases_lt, eq-eqb, ne_eqb, le-leb, lt-leb, lt-ltb, le-ltb}
use Rattle.fol_model.specs.Geometry.{section_of}
use Rattle.fol_model.specs.Universe.{square}
use Rattle.fol_sections.specs.Pages.{is_here}
use Rattle.fol_sections.proofs.AddTable.{counted, fills-is, home_near}
use Rattle.fol_sections.proofs.NumberSteps.{filled_around}
use Rattle.fol_sections.proofs.sections.Sections.will_fill.Goals as goal

pub count_missing-wanted-requires-clause-near : goal.count_missing-wanted-requires-clause-near
count_missing-wanted-requires-clause-near c = rw c.section_of-home.ensures (home_near _ _ _ c.self.inside.count c.self.inside.filled.items c.self.inside.died.items c.self.inside.spare c.self.invariant.0 c.args.c c.requires)

pub count_missing-wanted-requires-clause-around : goal.count_missing-wanted-requires-clause-around
count_missing-wanted-requires-clause-around c = rw c.create_radius.ensures (filled_around c.self.inside.grid c.self.inside.holds.entries c.self.inside.pages.entries c.self.inside.count c.section_of-home.result c.self.invariant.0)

-- so many missing sections come where there is room for them
some_fill : (count n : ℕ) → 0 < n → nat_le (count + n) 16384 ≡ (not (nat_lt 16384 (count + n)) && not (nat_eq n 0))
some_fill count n some =
    let z = ne_eqb n 0 (λ e. absurd (omega arith)) in
    elim (cases_lt 16384 (count + n)) [
      | inl l ↦ let a = lt-ltb 16384 (count + n) l in let b = lt-leb (count + n) 16384 l in rw (z, a, b) refl
      | inr l ↦ let a = le-ltb 16384 (count + n) l in let b = le-leb (count + n) 16384 l in rw (z, a, b) refl
    ]

-- and where none is missing, none does
none_fill : (b : Bool) (n : ℕ) → n ≤ 0 → nat_lt 0 n ≡ (b && not (nat_eq n 0))
none_fill b n l = let z = eq-eqb n 0 (omega arith) in le-ltb 0 n l ∙ rw z (sym (and-false b))

pub returns-then-wanted-gt0 : goal.returns-then-wanted-gt0
returns-then-wanted-gt0 c =
    let g = c.self.inside.grid in
    let missing = filter (λ q. not (is_here c.self.inside.pages.entries q)) (square (section_of g c.args.c) g.create) in
    let n = length missing in
    let wanted : c.count_missing-wanted.result ≡ n = counted _ _ _ _ _ _ c.section_of-home.ensures c.create_radius.ensures c.count_missing-wanted.ensures.count in
    let is = fills-is _ _ _ c.self.inside.count c.self.inside.filled.items c.self.inside.died.items c.self.inside.spare c.self.invariant.0 c.args.c c.requires missing refl in
    rw (← c.self.view_is) (ap (λ k. nat_le (c.self.inside.count + k) 16384) wanted ∙ some_fill c.self.inside.count n (omega (arith, wanted, c.if-wanted-gt0.true)) ∙ sym is)

pub returns-else-wanted-gt0 : goal.returns-else-wanted-gt0
returns-else-wanted-gt0 c =
    let g = c.self.inside.grid in
    let missing = filter (λ q. not (is_here c.self.inside.pages.entries q)) (square (section_of g c.args.c) g.create) in
    let n = length missing in
    let wanted : c.count_missing-wanted.result ≡ n = counted _ _ _ _ _ _ c.section_of-home.ensures c.create_radius.ensures c.count_missing-wanted.ensures.count in
    let is = fills-is _ _ _ c.self.inside.count c.self.inside.filled.items c.self.inside.died.items c.self.inside.spare c.self.invariant.0 c.args.c c.requires missing refl in
    rw (← c.self.view_is) (ap (nat_lt 0) wanted ∙ none_fill (not (nat_lt 16384 (c.self.inside.count + n))) n (omega (arith, wanted, c.if-wanted-gt0.false)) ∙ sym is)
