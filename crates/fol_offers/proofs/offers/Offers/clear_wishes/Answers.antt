use Rattle.std.proofs.Common.{◌≡◌, ℕ, ◌+◌, ◌<◌, Bool, true, false, List, [], length, get_or, take, refl, ap, sym, ◌∙◌, ◌||◌, Some, rules}
use Rattle.std.specs.Prelude.{IfSome, Option, None}
use Rattle.std.specs.Option.{option_or}
use Rattle.std.proofs.lemmas.Bool.{or_left, or_right}
use Rattle.fol_model.specs.declared.places.ChunkPos.{ChunkPos}
use Rattle.std.proofs.lemmas.List.Folds.{list_any_more}
use Rattle.fol_model.specs.declared.tasks.Wish.{Wish}
use Rattle.fol_model.specs.World.{World}
use Rattle.fol_core.specs.Ahead.{may_touch}
use Rattle.fol_core.specs.Meaning.{world_of}
use Rattle.fol_offers.specs.Ends.{wishes_may_touch}
use Rattle.fol_offers.specs.Shown.{CallsBack, Shown}
use Rattle.fol_offers.proofs.CalledBack.{back_as, back_both, back_none, back_or_may}
use Rattle.fol_offers.proofs.offers.Offers.clear_wishes.Goals.{then-eq-via-then-eq, then-eq-via-else-eq+then-eq-2}
use Rattle.fol_offers.proofs.offers.Offers.clear_wishes.Goals as goal

-- what one wish more may touch
one_more : (w : World) (xs : List Wish) (i : ℕ) (x : Wish) → i < length xs → x ≡ get_or xs i x → (r : ℕ) → wishes_may_touch w (take (i + 1) xs) r ≡ (wishes_may_touch w (take i xs) r || may_touch w x.chunk r)
one_more w xs i x low is r = list_any_more (λ (y : Wish). may_touch w y.chunk r) xs i x low ∙ ap (λ (y : Wish). wishes_may_touch w (take i xs) r || may_touch w y.chunk r) (sym is)

-- what is among them already adds nothing
nothing_more : (f g : Bool) → (g ≡ true → f ≡ true) → f ≡ (f || g)
nothing_more true g among = refl
nothing_more false true among = among refl
nothing_more false false among = refl

-- what the chunk may touch, where there is one, is among what the first wishes may touch
abbrev IsAmong : World → List Wish → Option ChunkPos → Type 0
IsAmong w xs o = IfSome o (λ c. (r : ℕ) → may_touch w c r ≡ true → wishes_may_touch w xs r ≡ true)

still_among : (w : World) (xs : List Wish) (i : ℕ) (x : Wish) → i < length xs → x ≡ get_or xs i x → (o : Option ChunkPos) → IsAmong w (take i xs) o → IsAmong w (take (i + 1) xs) o
still_among w xs i x low is None among = tt
still_among w xs i x low is (Some c) among = λ r touched. one_more w xs i x low is r ∙ or_left (wishes_may_touch w (take i xs) r) (may_touch w x.chunk r) (among r touched)

now_among : (w : World) (xs : List Wish) (i : ℕ) (x : Wish) → i < length xs → x ≡ get_or xs i x → IsAmong w (take (i + 1) xs) (Some x.chunk)
now_among w xs i x low is r touched = one_more w xs i x low is r ∙ or_right (wishes_may_touch w (take i xs) r) (may_touch w x.chunk r) touched

either_among : (w : World) (xs : List Wish) (o e : Option ChunkPos) → IsAmong w xs o → IsAmong w xs e → IsAmong w xs (option_or o e)
either_among w xs None e a b = b
either_among w xs (Some c) e a b = a

-- a wish whose chunk is such a one is passed over
passed_over : (old mid : Shown) (by : ℕ) (xs : List Wish) (i : ℕ) (x : Wish) → i < length xs → x ≡ get_or xs i x → (o : Option ChunkPos) → o ≡ Some x.chunk
    → IsAmong (world_of old.core) (take i xs) o → CallsBack old mid by (wishes_may_touch (world_of old.core) (take i xs)) → CallsBack old mid by (wishes_may_touch (world_of old.core) (take (i + 1) xs))
passed_over old mid by xs i x low is o same among back =
    let w : World = world_of old.core in
    let first : ℕ → Bool = wishes_may_touch w (take i xs) in
    let more = one_more w xs i x low is in
    let among' = rw same at among in
    back_as old mid by first back (wishes_may_touch w (take (i + 1) xs)) (λ r marked. nothing_more (first r) (may_touch w x.chunk r) (among' r) ∙ sym (more r))

pub loop-wish-init : goal.loop-wish-init
loop-wish-init c = record {
  back = back_none c.args.self.now c.args.by (wishes_may_touch (world_of c.args.self.now.core) []) (λ r marked. refl);
  first = tt;
  last = tt;
}

pub loop-wish-preserved-then-eq : goal.loop-wish-preserved-then-eq
loop-wish-preserved-then-eq c =
    let xs : List Wish = c.args.wishes.now in
    let i : ℕ = c.loop-wish.wish-index in
    let x : Wish = c.wish-item.result in
    let old : Shown = c.args.self.now in
    let w : World = world_of old.core in
    let inv = c.loop-wish.invariant in
    let low = c.loop-wish-test.true in
    let is = c.wish-item.is in
    record {
      back = elim c.then-eq.branch [
        | then-eq-via-then-eq b ↦ let same : c.loop-wish.last ≡ Some x.chunk = search rules in passed_over old c.loop-wish.self c.args.by xs i x low is c.loop-wish.last same inv.last inv.back
        | then-eq-via-else-eq+then-eq-2 b ↦ let same : c.loop-wish.first ≡ Some x.chunk = search rules in passed_over old c.loop-wish.self c.args.by xs i x low is c.loop-wish.first same inv.first inv.back
      ];
      first = still_among w xs i x low is c.loop-wish.first inv.first;
      last = still_among w xs i x low is c.loop-wish.last inv.last;
    }

pub loop-wish-preserved : goal.loop-wish-preserved
loop-wish-preserved c =
    let xs : List Wish = c.args.wishes.now in
    let i : ℕ = c.loop-wish.wish-index in
    let x : Wish = c.wish-item.result in
    let old : Shown = c.args.self.now in
    let mid : Shown = c.loop-wish.self in
    let w : World = world_of old.core in
    let first : ℕ → Bool = wishes_may_touch w (take i xs) in
    let low = c.loop-wish-test.true in
    let is = c.wish-item.is in
    let more = one_more w xs i x low is in
    let inv = c.loop-wish.invariant in
    let both = back_both old mid c.clear.new.self c.args.by first (may_touch (world_of mid.core) x.chunk) inv.back c.in_ok-clear.ensures.ok in
    let or = c.or-first.ensures in
    record {
      back = back_as old c.clear.new.self c.args.by (λ r. first r || may_touch (world_of mid.core) x.chunk r) both (wishes_may_touch w (take (i + 1) xs))
          (λ r marked. back_or_may old mid c.args.by first inv.back x.chunk r marked ∙ sym (more r));
      first = rw or (either_among w (take (i + 1) xs) c.loop-wish.first (Some x.chunk) (still_among w xs i x low is c.loop-wish.first inv.first) (now_among w xs i x low is));
      last = now_among w xs i x low is;
    }
