use Rattle.std.proofs.Common.{◌≡◌, ◌∷◌, [], ◌-◌, length, ℕ, List, sym, ◌∙◌, arith, inl, inr, false, refl}
use Rattle.std.specs.Prelude.{nat_eq}
use Rattle.std.specs.List.{list_any}
use Rattle.std.proofs.lemmas.Bool.{cases_lt, eq-eqb, ne_eqb, true≢false}
use Rattle.std.proofs.lemmas.List.{get_or_default}
use Rattle.std.proofs.lemmas.List.Folds.{list_any_at, list_any_none}
use Rattle.std.proofs.lemmas.List.Sorted.{IsNonDecreasingBy-insert, IsNonDecreasingBy-push, IsPermutation-append_comm, IsPermutation-insert, searched}
use Rattle.fol_region_tables.proofs.living.put_id.Goals as goal

pub returns-then-is_above_all : goal.returns-then-is_above_all
returns-then-is_above_all c =
    let xs = c.args.ids.now.items in
    let all = rw c.deref.ensures.value at c.is_above_all.ensures c.if-is_above_all.true in
    let none : list_any (nat_eq c.args.id) xs ≡ false = list_any_none (nat_eq c.args.id) xs (λ k d l. ne_eqb _ _ (λ e. omega (arith, all k l, e, get_or_default xs k d 0 l))) in
    record {
      rising = rw c.push_reserved.ensures.items (IsNonDecreasingBy-push (λ x. x) xs c.args.id c.requires.rising (λ d l. omega (arith, all (length xs - 1) (omega arith), get_or_default xs (length xs - 1) d 0 (omega arith))));
      there = λ e. absurd {A = c.push_reserved.new.self.items ≡ xs} (true≢false (sym e ∙ none));
      put = λ e. rw c.push_reserved.ensures.items (IsPermutation-append_comm (c.args.id ∷ []) xs);
      capacity = omega (arith, c.push_reserved.ensures.capacity);
    }

pub returns-in-Ok : goal.returns-in-Ok
returns-in-Ok c =
    let xs = c.args.ids.now.items in
    let search = rw c.deref-2.ensures.value at c.binary_search.ensures.position in
    let found = rw c.in-Ok.is at (searched xs c.args.id c.binary_search.result search (λ i j l m. c.requires.rising i j 0 l m)) in
    record {
      rising = c.requires.rising;
      there = λ e. refl {A = List ℕ};
      put = λ none. absurd (true≢false (sym (list_any_at (nat_eq c.args.id) xs c.in-Ok.field-0 0 found.0 (eq-eqb _ _ (sym found.1))) ∙ none));
      capacity = omega arith;
    }

pub returns-in-Err : goal.returns-in-Err
returns-in-Err c =
    let xs = c.args.ids.now.items in
    let search = rw c.deref-2.ensures.value at c.binary_search.ensures.position in
    let found = rw c.in-Err.is at (searched xs c.args.id c.binary_search.result search (λ i j l m. c.requires.rising i j 0 l m)) in
    let len = rw c.deref-2.ensures.value at c.deref-2.ensures.len in
    let ok = c.insert.ensures.succeeds (omega (arith, len, c.requires.room)) in
    let items = rw ok at c.insert.ensures.items in
    let none : list_any (nat_eq c.args.id) xs ≡ false = list_any_none (nat_eq c.args.id) xs (λ k d l. ne_eqb _ _ (λ e. elim (cases_lt k c.in-Err.place) [
      | inl m ↦ omega (arith, found.1 k m, e, get_or_default xs k d 0 l)
      | inr m ↦ omega (arith, found.2 k m l, e, get_or_default xs k d 0 l)
    ])) in
    record {
      rising = rw items (IsNonDecreasingBy-insert (λ x. x) xs c.in-Err.place c.args.id c.requires.rising found.0
          (λ k d l. let b = found.0 in omega (arith, found.1 k l, get_or_default xs k d 0 (omega arith)))
          (λ k d l m. omega (arith, found.2 k l m, get_or_default xs k d 0 m)));
      there = λ e. absurd (true≢false (sym e ∙ none));
      put = λ e. rw items (IsPermutation-insert xs c.in-Err.place c.args.id);
      capacity = c.insert.ensures.capacity;
    }
