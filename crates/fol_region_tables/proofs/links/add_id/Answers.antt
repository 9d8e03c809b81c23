use Rattle.std.proofs.Common.{◌≡◌, ℕ, ◌+◌, ◌++◌, ◌∷◌, [], sym, ◌∙◌, ap, arith, true, false, get_or, take, length, length-append, append_assoc}
use Rattle.std.specs.Prelude.{filter, nat_lt}
use Rattle.std.proofs.lemmas.Bool.{lt-ltb, le-ltb}
use Rattle.std.proofs.lemmas.List.{take_all}
use Rattle.fol_region_tables.proofs.LinkSteps.{filter_yes, filter_no, filter_le, filter_take_le, two_sides}
use Rattle.fol_region_tables.proofs.links.add_id.Goals as goal
use Rattle.fol_region_tables.proofs.links.add_id.Goals.{then-k-id, else-k-id, then-id-k, else-id-k}

pub lower-preserved : goal.lower-preserved
lower-preserved c =
    let ids = c.args.ids.now in
    let i = c.lower.k-index in
    let below = λ (k : ℕ). nat_lt k c.args.id in
    elim c.if-k-id.branch [
      | then-k-id w ↦
          let yes : nat_lt (get_or ids i 0) c.args.id ≡ true = lt-ltb _ _ w.if-k-id.true in
          let ok = w.push.ensures.succeeds (omega (arith, ap length c.lower.invariant.added, filter_le below (take i ids), filter_take_le below ids i, filter_le below ids, c.lower.invariant.room, c.requires.room)) in
          let items = rw ok at w.push.ensures.items in
          rw w.out-is (record {
            added = items ∙ ap (λ xs. xs ++ get_or ids i 0 ∷ []) c.lower.invariant.added ∙ sym (filter_yes below ids i 0 c.lower-test.true yes);
            room = omega (arith, w.push.ensures.capacity, c.lower.invariant.room);
          })
      | else-k-id w ↦
          let no : nat_lt (get_or ids i 0) c.args.id ≡ false = le-ltb _ _ w.if-k-id.false in
          rw w.out-is (record {
            added = c.lower.invariant.added ∙ sym (filter_no below ids i 0 c.lower-test.true no);
            room = c.lower.invariant.room;
          })
    ]

pub higher-init : goal.higher-init
higher-init c =
    let ids = c.args.ids.now in
    let all = c.lower.invariant.added ∙ ap (filter (λ k. nat_lt k c.args.id)) (take_all c.lower.k-index ids c.lower-test.false) in
    let ok = c.push-2.ensures.succeeds (omega (arith, ap length all, filter_le (λ k. nat_lt k c.args.id) ids, c.lower.invariant.room, c.requires.room)) in
    let items = rw ok at c.push-2.ensures.items in
    record {
      added = items ∙ ap (λ xs. xs ++ c.args.id ∷ []) all;
      room = omega (arith, c.push-2.ensures.capacity, c.lower.invariant.room);
    }

pub higher-preserved : goal.higher-preserved
higher-preserved c =
    let ids = c.args.ids.now in
    let i = c.higher.k-index in
    let above = λ (k : ℕ). nat_lt c.args.id k in
    let below = λ (k : ℕ). nat_lt k c.args.id in
    elim c.if-id-k.branch [
      | then-id-k w ↦
          let yes : nat_lt c.args.id (get_or ids i 0) ≡ true = lt-ltb _ _ w.if-id-k.true in
          let next = filter_yes above ids i 0 c.higher-test.true yes in
          let ok = w.push-then-id-k.ensures.succeeds (omega (
            arith,
            ap length c.higher.invariant.added,
            length-append (filter below ids) (c.args.id ∷ filter above (take i ids)),
            ap length next,
            length-append (filter above (take i ids)) (get_or ids i 0 ∷ []),
            filter_take_le above ids (i + 1),
            two_sides c.args.id ids,
            c.higher.invariant.room,
            c.requires.room,
          )) in
          let items = rw ok at w.push-then-id-k.ensures.items in
          rw w.out-is (record {
            added = items ∙ ap (λ xs. xs ++ get_or ids i 0 ∷ []) c.higher.invariant.added ∙ append_assoc (filter below ids) (c.args.id ∷ filter above (take i ids)) (get_or ids i 0 ∷ []) ∙ ap (λ xs. filter below ids ++ c.args.id ∷ xs) (sym next);
            room = omega (arith, w.push-then-id-k.ensures.capacity, c.higher.invariant.room);
          })
      | else-id-k w ↦
          let no : nat_lt c.args.id (get_or ids i 0) ≡ false = le-ltb _ _ w.if-id-k.false in
          rw w.out-is (record {
            added = c.higher.invariant.added ∙ ap (λ xs. filter below ids ++ c.args.id ∷ xs) (sym (filter_no above ids i 0 c.higher-test.true no));
            room = c.higher.invariant.room;
          })
    ]

pub returns-clause-added : goal.returns-clause-added
returns-clause-added c = c.higher.invariant.added ∙ ap (λ xs. filter (λ k. nat_lt k c.args.id) c.args.ids.now ++ c.args.id ∷ filter (λ k. nat_lt c.args.id k) xs) (take_all c.higher.k-index c.args.ids.now c.higher-test.false)

pub returns-clause-few : goal.returns-clause-few
returns-clause-few c =
    let ids = c.args.ids.now in
    let i = c.higher.k-index in
    let above = λ (k : ℕ). nat_lt c.args.id k in
    let below = λ (k : ℕ). nat_lt k c.args.id in
    omega (arith, ap length c.higher.invariant.added, length-append (filter below ids) (c.args.id ∷ filter above (take i ids)), filter_take_le above ids i, two_sides c.args.id ids)
