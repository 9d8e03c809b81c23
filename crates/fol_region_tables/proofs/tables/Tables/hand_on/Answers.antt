use Rattle.std.proofs.Common.{◌≡◌, ℕ, refl, sym, ◌∙◌, ap, arith, Bool, subst}
use Rattle.std.specs.List.{count_by}
use Rattle.fol_model.specs.Universe.{numbers_below}
use Rattle.fol_region_tables.specs.Links.{first_id}
use Rattle.fol_region_tables.specs.Book.{waits_of, handed_waits}
use Rattle.fol_region_tables.proofs.HandSteps.{Handing, handing_none, handing_more, handing_all, fewer_waits, first_waits, none_waits, keeps_room-trans}
use Rattle.fol_region_tables.proofs.tables.Tables.hand_on.Goals as goal

pub hand_one-requires-clause-pair : goal.hand_one-requires-clause-pair
hand_one-requires-clause-pair c = first_waits c.loop-other.self c.args.id c.in-Some.other (sym c.in-Some.is ∙ c.first_of.ensures ∙ ap first_id c.waits_for.ensures)

pub loop-other-init : goal.loop-other-init
loop-other-init c = record {
  owner = refl;
  state = refl;
  live = refl;
  next = refl;
  rooms = record { free = omega arith; ahead = omega arith; behind = omega arith; ahead_room = refl; behind_room = refl };
  handing = handing_none (waits_of c.args.self.now) c.args.id c.args.into;
}

pub loop-other-preserved : goal.loop-other-preserved
loop-other-preserved c =
    let pair = first_waits c.loop-other.self c.args.id c.in-Some.other (sym c.in-Some.is ∙ c.first_of.ensures ∙ ap first_id c.waits_for.ensures) in
    record {
      owner = c.hand_one.ensures.owner ∙ c.loop-other.invariant.owner;
      state = c.hand_one.ensures.state ∙ c.loop-other.invariant.state;
      live = c.hand_one.ensures.live ∙ c.loop-other.invariant.live;
      next = c.hand_one.ensures.next ∙ c.loop-other.invariant.next;
      rooms = keeps_room-trans c.args.self.now c.loop-other.self c.hand_one.new.self c.loop-other.invariant.rooms c.hand_one.ensures.rooms;
      handing = subst (λ (w : ℕ → ℕ → Bool). Handing (waits_of c.args.self.now) w c.args.id c.args.into) (sym c.hand_one.ensures.waits)
          (handing_more (waits_of c.args.self.now) (waits_of c.loop-other.self) c.args.id c.args.into c.in-Some.other c.requires.apart c.loop-other.invariant.handing pair);
    }

pub loop-other-smaller : goal.loop-other-smaller
loop-other-smaller c =
    let pair = first_waits c.loop-other.self c.args.id c.in-Some.other (sym c.in-Some.is ∙ c.first_of.ensures ∙ ap first_id c.waits_for.ensures) in
    let less = fewer_waits c.loop-other.self c.keeps_lists.ensures c.args.id c.args.into c.in-Some.other c.requires.apart pair in
    let e : count_by (waits_of c.hand_one.new.self c.args.id) (numbers_below c.hand_one.new.self.next) ≡ count_by (handed_waits (waits_of c.loop-other.self) c.args.id c.args.into c.in-Some.other c.args.id) (numbers_below c.loop-other.self.next)
    = λ i. count_by (c.hand_one.ensures.waits i c.args.id) (numbers_below (c.hand_one.ensures.next i)) in
    omega (arith, e, less)

pub returns : goal.returns
returns c = record {
  owner = c.loop-other.invariant.owner;
  state = c.loop-other.invariant.state;
  waits = handing_all (waits_of c.args.self.now) (waits_of c.loop-other.self) c.args.id c.args.into c.requires.apart c.requires.awake c.loop-other.invariant.handing
      (none_waits c.loop-other.self c.args.id (sym c.in_default.is ∙ c.first_of.ensures ∙ ap first_id c.waits_for.ensures));
  live = c.loop-other.invariant.live;
  next = c.loop-other.invariant.next;
  rooms = c.loop-other.invariant.rooms;
}
