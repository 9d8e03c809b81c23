use Rattle.std.proofs.Common.{◌≡◌, ◌<◌, ℕ, refl, sym, ◌∙◌, ap, arith, subst, cond, true, false, [], ◌∷◌, ◌++◌, List, Bool, not, ◌&&◌}
use Rattle.std.specs.Prelude.{nat_eq, filter}
use Rattle.std.proofs.lemmas.Bool.{eq-eqb, ne_eqb, or_left, or_right}
use Rattle.fol_model.specs.GridState.{is_ticking}
use Rattle.fol_regions.specs.Added.{IsChoice, Grows, calm_size, is_drawn, is_id}
use Rattle.fol_region_tables.specs.Book.{state_of}
use Rattle.fol_regions.specs.Changes.{Changes, into}
use Rattle.fol_regions.proofs.GrowSteps as grow
use Rattle.fol_regions.proofs.add.grow.Goals as goal

pub take_in-requires-clause-calm : goal.take_in-requires-clause-calm
take_in-requires-clause-calm c =
    let pos : 0 < c.choose-best.result = omega (arith, c.if-best-eq0.false) in
    let most : cond (nat_eq c.choose-best.result 0) 0 (calm_size c.args.tables.now c.choose-best.result) ≡ calm_size c.args.tables.now c.choose-best.result = ap (λ x. cond {A = ℕ} x 0 (calm_size c.args.tables.now c.choose-best.result)) (ne_eqb c.choose-best.result 0 c.if-best-eq0.false) in
    let choice = subst (IsChoice (calm_size c.args.tables.now) c.args.near.now c.choose-best.result) most c.choose-best.ensures in
    grow.chosen_calm c.args.tables.now c.keeps_lists.ensures c.args.near.now (λ r h. (c.requires.near r h).1) c.choose-best.result pos choice

pub returns-then-best-eq0-clause-grows : goal.returns-then-best-eq0-clause-grows
returns-then-best-eq0-clause-grows c =
    let live : (r : ℕ) → is_id c.args.near.now r ≡ true → _ = λ r h. (c.requires.near r h).1 in
    let zero = c.choose-best.ensures.zero c.if-best-eq0.true in
    let none = grow.none_calm c.args.tables.now c.keeps_lists.ensures c.args.near.now live (cond (nat_eq c.choose-best.result 0) 0 (calm_size c.args.tables.now c.choose-best.result)) zero c.choose-best.ensures.top in
    subst (Grows c.args.tables.now c.make-id.new.self c.args.near.now c.args.sections.now) (sym c.make-id.ensures.id)
    (grow.grows_new c.args.tables.now c.keeps_lists.ensures c.args.near.now live c.make-id.new.self c.args.sections.now c.requires.lives none c.make-id.ensures.makes c.make-id.ensures.pairs.0 c.make-id.ensures.pairs.1)

pub returns-else-best-eq0-clause-grows : goal.returns-else-best-eq0-clause-grows
returns-else-best-eq0-clause-grows c =
    let live : (r : ℕ) → is_id c.args.near.now r ≡ true → _ = λ r h. (c.requires.near r h).1 in
    let pos : 0 < c.choose-best.result = omega (arith, c.if-best-eq0.false) in
    let most : cond (nat_eq c.choose-best.result 0) 0 (calm_size c.args.tables.now c.choose-best.result) ≡ calm_size c.args.tables.now c.choose-best.result = ap (λ x. cond {A = ℕ} x 0 (calm_size c.args.tables.now c.choose-best.result)) (ne_eqb c.choose-best.result 0 c.if-best-eq0.false) in
    let choice = subst (IsChoice (calm_size c.args.tables.now) c.args.near.now c.choose-best.result) most c.choose-best.ensures in
    grow.grows_old c.args.tables.now c.keeps_lists.ensures c.args.near.now live c.choose-best.result pos choice c.take_in.new.tables c.give.new.self c.args.sections.now c.requires.lives c.take_in.ensures.gathers c.give.ensures.gives c.give.ensures.pairs.0 c.give.ensures.pairs.1
    (live c.choose-best.result (choice.here pos).0)

none_kept : (p : ℕ → Bool) (xs : List ℕ) → ((r : ℕ) → is_id xs r ≡ true → p r ≡ false) → [] ≡ filter p xs
none_kept p [] h = refl
none_kept p (x ∷ xs) h = let e = h x (or_left (nat_eq x x) (is_id xs x) (eq-eqb x x refl)) in rw e (none_kept p xs (λ r k. h r (or_right (nat_eq r x) (is_id xs r) k)))

pub returns-then-best-eq0-clause-change : goal.returns-then-best-eq0-clause-change
returns-then-best-eq0-clause-change c =
    let live : (r : ℕ) → is_id c.args.near.now r ≡ true → _ = λ r h. (c.requires.near r h).1 in
    let zero = c.choose-best.ensures.zero c.if-best-eq0.true in
    let none = grow.none_calm c.args.tables.now c.keeps_lists.ensures c.args.near.now live (cond (nat_eq c.choose-best.result 0) 0 (calm_size c.args.tables.now c.choose-best.result)) zero c.choose-best.ensures.top in
    let drawn = is_drawn c.args.tables.now c.make-id.result in
    let stays : (r : ℕ) → is_id c.args.near.now r ≡ true → drawn r ≡ false = λ r h. ap (λ x. x && not (nat_eq r c.make-id.result)) (sym (ap (λ x. x && not (is_ticking (state_of c.args.tables.now r))) h) ∙ none r) in
    let kept = none_kept drawn c.args.near.now stays in
    let own : cond (nat_eq c.make-id.result c.args.tables.now.next) (c.args.tables.now.next ∷ []) [] ≡ c.make-id.result ∷ [] = ap (λ x. cond {A = List ℕ} x (c.args.tables.now.next ∷ []) []) (eq-eqb c.make-id.result c.args.tables.now.next c.make-id.ensures.id) ∙ ap (λ n. n ∷ []) (sym c.make-id.ensures.id) in
    c.create.ensures ∙ ap (λ (x : Changes). record x { created = x.created ++ c.make-id.result ∷ [] }) c.requires.none
    ∙ (λ i. record { created = sym own i; dead = kept i; merges = into c.make-id.result (kept i); parts = [] })
