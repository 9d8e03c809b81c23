use Rattle.std.proofs.Common.{◌≡◌, ℕ, ◌+◌, ◌++◌, ◌∷◌, [], sym, ◌∙◌, ap, arith, not, true, false, get_or, take, length, length-append}
use Rattle.std.specs.Prelude.{filter, nat_eq}
use Rattle.std.proofs.lemmas.Bool.{eq-eqb, ne_eqb}
use Rattle.std.proofs.lemmas.List.{take_all}
use Rattle.fol_region_tables.specs.Links.{without_id}
use Rattle.fol_region_tables.proofs.LinkSteps.{filter_yes, filter_no, filter_le, filter_take_le}
use Rattle.fol_region_tables.proofs.links.leave_out.Goals as goal
use Rattle.fol_region_tables.proofs.links.leave_out.Goals.{then-k-id, else-k-id}

pub loop-k-preserved : goal.loop-k-preserved
loop-k-preserved c =
    let ids = c.args.ids.now in
    let i = c.loop-k.k-index in
    let other = λ (k : ℕ). not (nat_eq c.args.id k) in
    elim c.if-k-id.branch [
      | then-k-id w ↦
          let n : nat_eq c.args.id (get_or ids i 0) ≡ false = ne_eqb _ _ (λ e. w.if-k-id.true (sym e)) in
          let yes : not (nat_eq c.args.id (get_or ids i 0)) ≡ true = ap not n in
          let next = filter_yes other ids i 0 c.loop-k-test.true yes in
          let ok = w.push.ensures.succeeds (omega (arith, ap length c.loop-k.invariant.left, ap length next, length-append (filter other (take i ids)) (get_or ids i 0 ∷ []), filter_take_le other ids (i + 1), filter_le other ids, c.loop-k.invariant.room, c.requires.room)) in
          let items = rw ok at w.push.ensures.items in
          rw w.out-is (record {
            left = items ∙ ap (λ xs. xs ++ get_or ids i 0 ∷ []) c.loop-k.invariant.left ∙ sym next;
            room = omega (arith, w.push.ensures.capacity, c.loop-k.invariant.room);
          })
      | else-k-id w ↦
          let n : nat_eq c.args.id (get_or ids i 0) ≡ true = eq-eqb _ _ (sym w.if-k-id.false) in
          let no : not (nat_eq c.args.id (get_or ids i 0)) ≡ false = ap not n in
          rw w.out-is (record {
            left = c.loop-k.invariant.left ∙ sym (filter_no other ids i 0 c.loop-k-test.true no);
            room = c.loop-k.invariant.room;
          })
    ]

pub returns-clause-left : goal.returns-clause-left
returns-clause-left c = c.loop-k.invariant.left ∙ ap (without_id c.args.id) (take_all c.loop-k.k-index c.args.ids.now c.loop-k-test.false)

pub returns-clause-few : goal.returns-clause-few
returns-clause-few c = omega (arith, ap length c.loop-k.invariant.left, filter_take_le (λ k. not (nat_eq c.args.id k)) c.args.ids.now c.loop-k.k-index, filter_le (λ k. not (nat_eq c.args.id k)) c.args.ids.now)
