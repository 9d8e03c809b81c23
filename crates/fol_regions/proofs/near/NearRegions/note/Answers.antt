use Rattle.std.proofs.Common.{◌≡◌, ◌<◌, sym, ◌∙◌, ap, arith, refl, subst, true, ℕ, Bool, false, cond, List}
use Rattle.std.specs.Prelude.{nat_eq, nat_lt}
use Rattle.std.specs.List.{count_by, insert, list_any}
use Rattle.std.specs.List.Sorted.{IsStrictlyIncreasing}
use Rattle.std.proofs.Math.Path.{fun_ext}
use Rattle.std.proofs.lemmas.Bool.{ne_eqb}
use Rattle.fol_region_tables.specs.Links.{with_id}
use Rattle.fol_region_tables.proofs.Chosen.{same_swap}
use Rattle.fol_regions.specs.Near.{noted}
use Rattle.fol_regions.proofs.RisingIds.{insert_in_place, rising_more}
use Rattle.fol_regions.proofs.near.NearRegions.note.Goals as goal

-- an id that `contains` did not find
not_there : (id : ℕ) (ids seen : List ℕ) (found : Bool) → seen ≡ ids → found ≡ list_any (λ k. nat_eq k id) seen → found ≡ false → list_any (nat_eq id) ids ≡ false
not_there id ids seen found e is none = ap (λ (p : ℕ → Bool). list_any p ids) (fun_ext (λ k. same_swap id k)) ∙ sym (is ∙ ap (list_any (λ k. nat_eq k id)) e) ∙ none

-- such an id is noted
noted-new : (id : ℕ) (ids : List ℕ) → 0 < id → list_any (nat_eq id) ids ≡ false → noted id ids ≡ with_id id ids
noted-new id ids some none =
    let zero : nat_eq id 0 ≡ false = ne_eqb id 0 (λ e. absurd (omega arith)) in
    rw (zero, none) refl

-- the list after the id was put in its place
put : (id place : ℕ) (ids seen more : List ℕ) (b : Bool) → b ≡ true → more ≡ cond b (insert ids place id) ids → seen ≡ ids → place ≡ count_by (λ k. nat_lt k id) seen
    → IsStrictlyIncreasing ids → list_any (nat_eq id) ids ≡ false → more ≡ with_id id ids
put id place ids seen more b ok is e at rising none =
    is ∙ ap (λ x. cond x (insert ids place id) ids) ok ∙ ap (λ n. insert ids n id) (at ∙ ap (count_by (λ k. nat_lt k id)) e) ∙ insert_in_place id ids rising none

pub invariant_of-self : goal.invariant_of-self
invariant_of-self c =
    let ids = c.self.inside.ids.items in
    let none = not_there c.args.id ids _ _ c.deref.ensures.value c.contains.ensures.value c.if-contains.false in
    let few = rw (← c.self.view_is) at c.requires in
    let ok = c.insert.ensures.succeeds (omega (arith, few, c.self.invariant.0)) in
    let is = put c.args.id c.count_below-place.result ids _ _ _ ok c.insert.ensures.items c.deref-2.ensures.value c.count_below-place.ensures c.self.invariant.1 none in
    (omega (arith, c.insert.ensures.capacity, c.self.invariant.0), subst IsStrictlyIncreasing (sym is) (rising_more c.args.id ids c.self.invariant.1))

pub returns-clause-noted : goal.returns-clause-noted
returns-clause-noted c =
    let ids = c.self.inside.ids.items in
    let none = not_there c.args.id ids _ _ c.deref.ensures.value c.contains.ensures.value c.if-contains.false in
    let few = rw (← c.self.view_is) at c.requires in
    let ok = c.insert.ensures.succeeds (omega (arith, few, c.self.invariant.0)) in
    let is = put c.args.id c.count_below-place.result ids _ _ _ ok c.insert.ensures.items c.deref-2.ensures.value c.count_below-place.ensures c.self.invariant.1 none in
    rw (← c.self.view_is) (is ∙ sym (noted-new c.args.id ids (omega (arith, c.if-id-eq0.false)) none))
