-- The row of a region: how many sections it has, and its state.
use Rattle.std.proofs.Common.{◌≡◌, ℕ, ◌<◌, ◌≤◌, sym, ◌∙◌, ◌&&◌, ap, arith, List, length, filter, true}
use Rattle.std.specs.Prelude.{nat_eq, nat_lt, Option, Some}
use Rattle.std.proofs.lemmas.Bool.{and_from, eqb-true, lt-ltb}
use Rattle.std.proofs.lemmas.List.Sums.{length-filter}
use Rattle.fol_laws.proofs.ListCounts.{count_by-mono}
use Rattle.fol_model.specs.declared.places.SectionPos.{SectionPos}
use Rattle.fol_model.specs.declared.regions.State.{State}
use Rattle.fol_model.specs.declared.closings.RegionRow.{RegionRow}
use Rattle.fol_model.specs.GridState.{GridState, is_present, size}
use Rattle.fol_model.specs.Rules.{Rules}
use Rattle.fol_model.specs.Universe.{all_sections}
use Rattle.fol_regions.specs.Answers.{state_answer}

pub section_count : (g : GridState) (r : ℕ) (xs : List SectionPos) → xs ≡ filter (λ s. nat_eq (g.owner s) r) all_sections → length xs ≡ size g r
section_count g r xs e = ap length e ∙ length-filter (λ s. nat_eq (g.owner s) r) all_sections

present : (g : GridState) (r : ℕ) → 0 < r → (s : SectionPos) → nat_eq (g.owner s) r ≡ true → is_present g s ≡ true
present g r above s e = let o : g.owner s ≡ r = eqb-true _ _ e in lt-ltb _ _ (omega arith)

pub few_sections : (g : GridState) (r : ℕ) → Rules g → 0 < r → size g r ≤ 16384
few_sections g r rules above = omega (arith, count_by-mono (λ s. nat_eq (g.owner s) r) (is_present g) (present g r above) all_sections, rules.count)

-- a row is its parts
pub same_row : (id : ℕ) (s : State) (r : Option State) (u : State) (t v o p n m k j : ℕ) → r ≡ Some s → r ≡ Some u → t ≡ v → o ≡ p → n ≡ m → k ≡ j
    → (let a : RegionRow = record { id = id; state = s; tick = t; owed = o; sections = n; chunks = k } in a) ≡ (record { id = id; state = u; tick = v; owed = p; sections = m; chunks = j })
same_row id s r u t v o p n m k j a b c d e f =
    let g : Some s ≡ Some u = sym a ∙ b in
    let h : s ≡ u = cc in
    λ i. record { id = id; state = h i; tick = c i; owed = d i; sections = e i; chunks = f i }

pub given_state : (g : GridState) (id : ℕ) (r : Option State) → 0 < id → id < g.next → r ≡ state_answer g id → r ≡ Some (g.state id)
given_state g id r above below e = let k : (nat_lt 0 id && nat_lt id g.next) ≡ true = and_from (nat_lt 0 id) (nat_lt id g.next) (lt-ltb _ _ above) (lt-ltb _ _ below) in rw k at e
