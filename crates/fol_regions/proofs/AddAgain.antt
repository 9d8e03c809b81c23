-- An added hold of a chunk that was held already: it needs no section, and no region changes.
use Rattle.std.proofs.Common.{◌≡◌, ℕ, ◌+◌, ◌≤◌, ◌<◌, refl, sym, ◌∙◌, ap, subst, arith, Bool, true, false, inl, inr, List}
use Rattle.std.specs.Prelude.{nat_eq, nat_lt}
use Rattle.std.proofs.lemmas.Bool.{cases_Bool, eqb-true, eq-eqb, le-ltb, leb-true, lt-ltb, ltb-true}
use Rattle.fol_model.specs.declared.places.ChunkPos.{ChunkPos}
use Rattle.fol_model.specs.declared.grids.Grid.{Grid}
use Rattle.fol_model.specs.Add.{add, counted, is_full, is_wanted, wanted}
use Rattle.fol_model.specs.Geometry.{is_within, section_of}
use Rattle.fol_model.specs.GridState.{GridState, at_chunk, is_loaded, is_present, present_count}
use Rattle.fol_model.specs.Rules.{Rules}
use Rattle.fol_model.specs.Universe.{all_sections}
use Rattle.fol_laws.proofs.ListCounts.{count_by-none}
use Rattle.fol_laws.proofs.RegionLaws.{add_keeps_rules}
use Rattle.fol_sections.specs.Table.{holds_of, presence_of}
use Rattle.fol_sections.specs.Table as sections
use Rattle.fol_region_tables.specs.Book.{Book}
use Rattle.fol_regions.specs.Answers.{add_answer}
use Rattle.fol_regions.specs.declared.answers.AddAnswer.TheVariants.{Counted}
use Rattle.fol_regions.specs.declared.dead_bounds.Known.{Known}
use Rattle.fol_regions.specs.DeadBounds.{BoundsDead, most_in}
use Rattle.fol_regions.specs.Kept.{IsKept}
use Rattle.fol_regions.specs.Released.{grid_of}
use Rattle.fol_regions.proofs.DeadKept.{dead_counted}
use Rattle.fol_regions.proofs.HoldSteps.{state_grid}
use Rattle.fol_regions.proofs.JoinTest.{grid_is}

module _ (g : GridState) (c : ChunkPos) (rules : Rules g) (held : is_loaded g c ≡ true) where
  pub none_wanted : nat_eq (wanted g c) 0 ≡ true
  unfolding wanted
  none_wanted = let p : 0 < g.holds c = ltb-true 0 (g.holds c) held in
      eq-eqb (wanted g c) 0 (count_by-none (is_wanted g c) (λ s. elim (cases_Bool (is_within (section_of g.grid c) g.grid.create s)) [
        | inl e ↦ let here : is_present g s ≡ true = lt-ltb _ _ (rules.margin c s p (leb-true _ _ e)) in rw here refl
        | inr e ↦ elim (cases_Bool (is_present g s)) [ inl here ↦ rw here refl | inr here ↦ rw (here, e) refl ]
      ]) all_sections)

  has_room : is_full g c ≡ false
  unfolding is_full
  has_room = le-ltb _ _ (omega (arith, rules.count, eqb-true _ _ none_wanted))

  pub add_counts : add g c ≡ counted g c
  unfolding add
  add_counts = let full = has_room in let none = none_wanted in rw (full, none) refl

  pub counts_again : add_answer g c ≡ Counted
  counts_again = let full = has_room in let none = none_wanted in rw (full, none) refl

-- the table after it
module _ (grid : Grid) (s e : sections.Table) (b : Book) (events : ℕ) (k : IsKept grid s b events) (c : ChunkPos) (held : nat_lt 0 (holds_of s c) ≡ true) (same : e.grid ≡ s.grid) (spare : e.spare ≡ s.spare)
    (holds : holds_of e ≡ at_chunk (holds_of s) c (holds_of s c + 1)) (presence : presence_of e ≡ presence_of s) where
  loaded : is_loaded (grid_of s b) c ≡ true
  unfolding grid_of
  loaded = held

  counted_state : grid_of e b ≡ counted (grid_of s b) c
  unfolding grid_of
  counted_state = grid_is (grid_of e b) (counted (grid_of s b) c) same holds refl refl refl refl

  pub again_state : grid_of e b ≡ add (grid_of s b) c
  again_state = counted_state ∙ sym (add_counts (grid_of s b) c k.rules loaded)

  pub again_answer : add_answer (grid_of s b) c ≡ Counted
  again_answer = counts_again (grid_of s b) c k.rules loaded

  pub again_kept : IsKept grid e b events
  again_kept = record {
    same = k.same ∙ sym same;
    numbers = let g = same in rw g k.numbers;
    rules = subst Rules (sym again_state) (add_keeps_rules (grid_of s b) c k.rules (state_grid s b k.numbers) (k.rules.chunk_limits c (ltb-true 0 _ loaded)));
    presence = λ q. ap (λ f. f q) presence ∙ k.presence q;
    spare = omega (arith, k.spare, spare);
    room = k.room;
  }

  pub again_bounds : (most : List Known) → BoundsDead (grid_of s b) (most_in most) → BoundsDead (grid_of e b) (most_in most)
  again_bounds most bounds = subst (λ (h : GridState). BoundsDead h (most_in most)) (sym counted_state)
      (record { at = λ r p. omega (arith, bounds.at r p, dead_counted (grid_of s b) c k.rules (state_grid s b k.numbers) (k.rules.chunk_limits c (ltb-true 0 _ loaded)) r) })

-- whether or not the chunk was held
module _ (grid : Grid) (s e : sections.Table) (b : Book) (events : ℕ) (k : IsKept grid s b events) (c : ChunkPos) (same : e.grid ≡ s.grid) (spare : e.spare ≡ s.spare) (presence : presence_of e ≡ presence_of s) where
  pub none_state : holds_of e ≡ holds_of s → grid_of e b ≡ grid_of s b
  unfolding grid_of
  none_state holds = grid_is (grid_of e b) (grid_of s b) same holds refl refl refl refl

  none_kept : holds_of e ≡ holds_of s → IsKept grid e b events
  none_kept holds = record {
    same = k.same ∙ sym same;
    numbers = let g = same in rw g k.numbers;
    rules = subst Rules (sym (none_state holds)) k.rules;
    presence = λ q. ap (λ f. f q) presence ∙ k.presence q;
    spare = omega (arith, k.spare, spare);
    room = k.room;
  }

  pub either_kept : (held : Bool) → held ≡ nat_lt 0 (holds_of s c) → (held ≡ true → holds_of e ≡ at_chunk (holds_of s) c (holds_of s c + 1)) → (held ≡ false → holds_of e ≡ holds_of s)
      → (most : List Known) → BoundsDead (grid_of s b) (most_in most) → IsKept grid e b events × BoundsDead (grid_of e b) (most_in most)
  either_kept true is more none most bounds = (again_kept grid s e b events k c (sym is) same spare (more refl) presence, again_bounds grid s e b events k c (sym is) same spare (more refl) presence most bounds)
  either_kept false is more none most bounds = (none_kept (none refl), subst (λ (h : GridState). BoundsDead h (most_in most)) (sym (none_state (none refl))) bounds)
