-- Several regions are called back, one after another.
use Rattle.std.proofs.Common.{◌≡◌, ◌≢◌, ℕ, ◌<◌, List, [], ◌∷◌, ◌++◌, sym, refl, ap, ◌∙◌, subst, Bool, true, false, not, ◌&&◌, ◌||◌, nat_eq, true≢false, inl, inr, arith, append_assoc, cond, take}
use Rattle.std.specs.Prelude.{IsOk, Result}
use Rattle.std.proofs.Math.Seq.{take-length}
use Rattle.std.specs.List.{AllByRecursion, filter, list_any}
use Rattle.std.proofs.Math.Path.{fun_ext}
use Rattle.std.proofs.lemmas.Bool.{cases_Bool, eq-eqb, eqb-true, ne_eqb, or_left, or_right}
use Rattle.std.proofs.lemmas.List.{append-nil}
use Rattle.std.proofs.lemmas.Map.Views.{any-filter_same}
use Rattle.fol_model.specs.declared.places.ChunkPos.{ChunkPos}
use Rattle.fol_model.specs.declared.tasks.Wish.{Wish}
use Rattle.fol_model.specs.declared.events.Entry.{Entry}
use Rattle.fol_model.specs.declared.events.Event.TheVariants.{Begin}
use Rattle.fol_model.specs.QueuedTask.{begun}
use Rattle.fol_model.specs.Begin.{begin}
use Rattle.fol_model.specs.Add.{is_full, is_near, wanted}
use Rattle.fol_model.specs.Counting.{count_below}
use Rattle.fol_model.specs.GridState.{is_ready}
use Rattle.fol_model.specs.ActionStep.{at_id}
use Rattle.fol_model.specs.OpenTick.{NoEnd}
use Rattle.fol_model.specs.Universe.{numbers_below}
use Rattle.fol_model.specs.World.{World, start}
use Rattle.fol_model.specs.Run.{after, after_all, world}
use Rattle.fol_laws.proofs.CountBelow.{count_less}
use Rattle.fol_laws.proofs.LongerRuns.{world_both}
use Rattle.fol_laws.proofs.NumberOrder.{in_numbers}
use Rattle.fol_laws.proofs.SortedRows.{all_append}
use Rattle.fol_laws.proofs.Tests.{same_answer}
use Rattle.fol_data.specs.declared.tick.Tick.{Tick}
use Rattle.fol_core.specs.Ahead.{Learns, NonePrepared, PreparedAreReady, Spares, Withdraws, may_touch}
use Rattle.fol_core.specs.Answers.{is_over}
use Rattle.fol_core.specs.Meaning.{Meaning, is_prepared, world_of}
use Rattle.fol_tick_laws.specs.OpenTicks.{IsOpen}
use Rattle.fol_tick_laws.specs.Touching.{lists}
use Rattle.fol_offers.proofs.Tying.{over_begun}
use Rattle.fol_offers.specs.Ends.{ClearsWishes, wishes_may_touch}
use Rattle.fol_offers.specs.Shown.{CallsBack, IsLearnt, Shown, every}

-- ---- Begins that were learnt

may_begun : (w : World) (k q : ℕ) (c : ChunkPos) (r : ℕ) → nat_eq q r ≡ false → may_touch (after w (Begin k q)) c r ≡ may_touch w c r
unfolding begun begin is_full wanted is_near
may_begun w k q c r other = rw other refl

next_begun : (w : World) (k r : ℕ) → (after w (Begin k r)).grid.next ≡ w.grid.next
unfolding begun begin
next_begun w k r = refl

module _ (m : Meaning) (f : ℕ → Bool) (by : ℕ) where
  learnt_over : (w : World) (es : List Entry) → AllByRecursion (IsLearnt m f by) es → is_over (after_all w es) ≡ is_over w
  learnt_over w [] all = refl
  learnt_over w (e ∷ es) all = learnt_over (after w e.event) es all.1 ∙ (ap (λ (x : Entry). is_over (after w x.event)) all.0.is ∙ over_begun w all.0.worker all.0.region)

  learnt_next : (w : World) (es : List Entry) → AllByRecursion (IsLearnt m f by) es → (after_all w es).grid.next ≡ w.grid.next
  learnt_next w [] all = refl
  learnt_next w (e ∷ es) all = learnt_next (after w e.event) es all.1 ∙ (ap (λ (x : Entry). (after w x.event).grid.next) all.0.is ∙ next_begun w all.0.worker all.0.region)

  -- what an event may touch among the regions that were not called
  learnt_may : (w : World) (es : List Entry) (c : ChunkPos) (r : ℕ) → AllByRecursion (IsLearnt m f by) es → f r ≡ false → may_touch (after_all w es) c r ≡ may_touch w c r
  learnt_may w [] c r all spared = refl
  learnt_may w (e ∷ es) c r all spared =
      let other : nat_eq all.0.region r ≡ false = ne_eqb _ _ (λ same. true≢false (sym all.0.chosen ∙ ap f same ∙ spared)) in
      learnt_may (after w e.event) es c r all.1 spared ∙ (ap (λ (x : Entry). may_touch (after w x.event) c r) all.0.is ∙ may_begun w all.0.worker all.0.region c r other)

  pub learnt_no_end : (q : ℕ) (before es : List Entry) → NoEnd q before → AllByRecursion (IsLearnt m f by) es → NoEnd q (before ++ es)
  learnt_no_end q [] [] none all = tt
  learnt_no_end q [] (e ∷ es) none all = let is = all.0.is in (rw is refl, learnt_no_end q [] es tt all.1)
  learnt_no_end q (x ∷ xs) es none all = (none.0, learnt_no_end q xs es none.1 all)

  learnt_as : (n : Meaning) (g : ℕ → Bool) → ((r : ℕ) → is_prepared m r ≡ true → f r ≡ true → (is_prepared n r ≡ true) × (g r ≡ true)) → (es : List Entry) → AllByRecursion (IsLearnt m f by) es
      → AllByRecursion (IsLearnt n g by) es
  learnt_as n g told [] all = tt
  learnt_as n g told (e ∷ es) all =
      let l = all.0 in let so = told l.region l.prepared l.chosen in
      (record { worker = l.worker; region = l.region; is = l.is; prepared = so.0; chosen = so.1 }, learnt_as n g told es all.1)

-- ---- two tests of regions

spared_of : (p f : Bool) → (p && not f) ≡ true → (p ≡ true) × (f ≡ false)
spared_of true true e = absurd (true≢false (sym e))
spared_of true false e = (refl, refl)
spared_of false f e = absurd (true≢false (sym e))

none_of : (p : Bool) → (p && false) ≡ false
none_of true = refl
none_of false = refl

and_true : (p : Bool) → p ≡ (p && true)
and_true true = refl
and_true false = refl

all_of : (p f : Bool) → (p ≡ true → f ≡ false) → p ≡ (p && not f)
all_of true f e = let off = e refl in rw off refl
all_of false f e = refl

both_of : (p f g : Bool) → ((p && not f) && not g) ≡ (p && not (f || g))
both_of true true g = refl
both_of true false g = refl
both_of false f g = refl

same_for : (p f g : Bool) → (p ≡ true → f ≡ g) → (p && not f) ≡ (p && not g)
same_for true f g e = ap not (e refl)
same_for false f g e = refl

-- ---- what was called back

-- none of these is prepared
pub back_none : (a : Shown) (by : ℕ) (f : ℕ → Bool) → ((r : ℕ) → is_prepared a.core r ≡ true → f r ≡ false) → CallsBack a a by f
back_none a by f none = record { slots = refl; workers = refl; opening = refl; learnt = []; history = sym (append-nil a.core.history); begins = tt; prepared = λ r. all_of (is_prepared a.core r) (f r) (none r) }

module _ (a b : Shown) (by : ℕ) (f : ℕ → Bool) (back : CallsBack a b by f) where
  there : world_of b.core ≡ after_all (world_of a.core) back.learnt
  there = (λ k. world (back.opening k) (back.history k)) ∙ world_both (start a.core.opening) a.core.history back.learnt

  pub back_over : is_over (world_of b.core) ≡ is_over (world_of a.core)
  back_over = ap is_over there ∙ learnt_over a.core f by (world_of a.core) back.learnt back.begins

  pub back_next : (world_of b.core).grid.next ≡ (world_of a.core).grid.next
  back_next = ap (λ (w : World). w.grid.next) there ∙ learnt_next a.core f by (world_of a.core) back.learnt back.begins

  -- a region that is prepared still was so, and is none of them
  pub back_spared : (r : ℕ) → is_prepared b.core r ≡ true → (is_prepared a.core r ≡ true) × (f r ≡ false)
  back_spared r marked = spared_of (is_prepared a.core r) (f r) (sym (back.prepared r) ∙ marked)

  pub back_unmarked : (r : ℕ) → is_prepared a.core r ≡ false → is_prepared b.core r ≡ false
  back_unmarked r none = back.prepared r ∙ ap (λ (p : Bool). p && not (f r)) none

  -- what an event may touch among them is what it was
  pub back_may : (c : ChunkPos) (r : ℕ) → is_prepared b.core r ≡ true → may_touch (world_of b.core) c r ≡ may_touch (world_of a.core) c r
  back_may c r marked = ap (λ (w : World). may_touch w c r) there ∙ learnt_may a.core f by (world_of a.core) back.learnt c r back.begins (back_spared r marked).1

  -- so with them it is the same
  pub back_or_may : (c : ChunkPos) (r : ℕ) → is_prepared a.core r ≡ true → (f r || may_touch (world_of b.core) c r) ≡ (f r || may_touch (world_of a.core) c r)
  back_or_may c r marked = elim (cases_Bool (f r)) [
    | inl y ↦ rw y refl
    | inr n ↦ rw n (back_may c r (back.prepared r ∙ (let p = marked in rw (p, n) refl)))
  ]

  pub back_wishes : (xs : List Wish) (r : ℕ) → is_prepared b.core r ≡ true → wishes_may_touch (world_of b.core) xs r ≡ wishes_may_touch (world_of a.core) xs r
  back_wishes [] r marked = refl
  back_wishes (x ∷ xs) r marked = λ k. back_may x.chunk r marked k || back_wishes xs r marked k

  -- an open tick is so still
  pub back_open : (t : Tick) → IsOpen a.core t → IsOpen b.core t
  back_open t is = record {
    made = record {
      before = is.made.before;
      between = is.made.between;
      since = is.made.since ++ back.learnt;
      by = is.made.by;
      begin = back.history ∙ (ap (λ (h : List Entry). h ++ back.learnt) is.made.begin ∙ append_assoc (is.made.before ++ is.made.between) ((record { by = is.made.by; event = Begin t.worker t.region }) ∷ is.made.since) back.learnt);
      allowed = rw back.opening is.made.allowed;
      calm = rw back.opening is.made.calm;
      runs_on = learnt_no_end a.core f by t.region is.made.since back.learnt is.made.runs_on back.begins;
    };
    is = rw back.opening is.is;
  }

  -- by another test of those that were prepared
  pub back_as : (g : ℕ → Bool) → ((r : ℕ) → is_prepared a.core r ≡ true → f r ≡ g r) → CallsBack a b by g
  back_as g same = record {
    slots = back.slots;
    workers = back.workers;
    opening = back.opening;
    learnt = back.learnt;
    history = back.history;
    begins = learnt_as a.core f by a.core g (λ r marked called. (marked, sym (same r marked) ∙ called)) back.learnt back.begins;
    prepared = λ r. back.prepared r ∙ same_for (is_prepared a.core r) (f r) (g r) (same r);
  }

  -- once none is left, all were called back
  pub back_every : NonePrepared b.core → CallsBack a b by every
  back_every none = back_as every (λ r marked. elim (cases_Bool (f r)) [
    | inl y ↦ y
    | inr n ↦ let p = marked in let off : (is_prepared a.core r && not (f r)) ≡ true = rw (p, n) refl in absurd (true≢false (sym off ∙ (sym (back.prepared r) ∙ none r)))
  ])

-- the core alone is given away then
pub back_given : (a b : Shown) (by : ℕ) (f : ℕ → Bool) (m : Meaning) → b.core ≡ m → CallsBack a b by f → CallsBack a (record a { core = m }) by f
back_given a b by f m is back =
    let P : Meaning → Type 0 = λ x. CallsBack a (record a { core = x }) by f in
    subst P is record { slots = refl; workers = refl; opening = back.opening; learnt = back.learnt; history = back.history; begins = back.begins; prepared = back.prepared }

-- all that an event on a chunk may touch, by the list of these regions
pub back_listed : (a b : Shown) (by : ℕ) (c : ChunkPos) (ids : List ℕ) → PreparedAreReady a.core → ids ≡ filter (may_touch (world_of a.core) c) (numbers_below (world_of a.core).grid.next)
    → CallsBack a b by (lists ids) → CallsBack a b by (may_touch (world_of a.core) c)
back_listed a b by c ids ready is back = back_as a b by (lists ids) back (may_touch (world_of a.core) c) (λ r marked.
    let n : ℕ = (world_of a.core).grid.next in
    let p : ℕ → Bool = may_touch (world_of a.core) c in
    let kept : lists (filter p (numbers_below n)) r ≡ (p r && lists (numbers_below n) r) = any-filter_same (λ id. nat_eq id r) p (p r) (λ k e. ap p (eqb-true k r e)) (numbers_below n) in
    let there : lists (numbers_below n) r ≡ true = flipped r (numbers_below n) ∙ in_numbers n r (ready r marked).0 in
    ap (λ (xs : List ℕ). lists xs r) is ∙ (kept ∙ (ap (λ (x : Bool). p r && x) there ∙ sym (and_true (p r)))))
  where
    flipped : (r : ℕ) (xs : List ℕ) → lists xs r ≡ list_any (nat_eq r) xs
    flipped r xs = ap (λ (f : ℕ → Bool). list_any f xs) (fun_ext (λ id. same_answer (nat_eq id r) (nat_eq r id) (λ e. eq-eqb r id (sym (eqb-true id r e))) (λ e. eq-eqb id r (sym (eqb-true r id e)))))

-- and by one region, which owns the section of the chunk
pub back_alone : (a b : Shown) (by : ℕ) (c : ChunkPos) (id : ℕ) → PreparedAreReady a.core
    → ((r : ℕ) → may_touch (world_of a.core) c r ≡ (is_ready ((world_of a.core).grid.state r) && nat_eq id r))
    → CallsBack a b by (nat_eq id) → CallsBack a b by (may_touch (world_of a.core) c)
back_alone a b by c id ready alone back = back_as a b by (nat_eq id) back (may_touch (world_of a.core) c) (λ r marked.
    sym (alone r ∙ ap (λ (x : Bool). x && nat_eq id r) (ready r marked).1))

-- first those of one test and then those of another
pub back_both : (a b c : Shown) (by : ℕ) (f g : ℕ → Bool) → CallsBack a b by f → CallsBack b c by g → CallsBack a c by (λ r. f r || g r)
back_both a b c by f g p q = record {
  slots = q.slots ∙ p.slots;
  workers = q.workers ∙ p.workers;
  opening = q.opening ∙ p.opening;
  learnt = p.learnt ++ q.learnt;
  history = q.history ∙ (ap (λ (h : List Entry). h ++ q.learnt) p.history ∙ append_assoc a.core.history p.learnt q.learnt);
  begins = all_append (IsLearnt a.core (λ r. f r || g r) by) p.learnt q.learnt
      (learnt_as a.core f by a.core (λ r. f r || g r) (λ r marked called. (marked, or_left (f r) (g r) called)) p.learnt p.begins)
      (learnt_as b.core g by a.core (λ r. f r || g r) (λ r marked called. ((back_spared a b by f p r marked).0, or_right (f r) (g r) called)) q.learnt q.begins);
  prepared = λ r. q.prepared r ∙ (ap (λ (x : Bool). x && not (g r)) (p.prepared r) ∙ both_of (is_prepared a.core r) (f r) (g r));
}

-- ---- what wishes may touch was called back

module _ {A E : Type 0} (a b : Shown) (by : ℕ) (xs : List Wish) (r : Result A E) (did : ClearsWishes a b by xs r) where
  abbrev touched : ℕ → Bool
  touched = wishes_may_touch (world_of a.core) (take did.done xs)

  -- none of it is prepared, if all of it was
  pub cleared_spared : IsOk r → Spares b.core (wishes_may_touch (world_of b.core) xs)
  cleared_spared ok q marked =
      let whole : take did.done xs ≡ xs = ap (λ (n : ℕ). take n xs) (did.all ok) ∙ take-length xs in
      back_wishes a b by touched did.clears xs q marked ∙ (ap (λ (ys : List Wish). wishes_may_touch (world_of a.core) ys q) (sym whole) ∙ (back_spared a b by touched did.clears q marked).1)

  pub cleared_unmarked : (q : ℕ) → is_prepared a.core q ≡ false → is_prepared b.core q ≡ false
  cleared_unmarked = back_unmarked a b by touched did.clears

  pub cleared_open : (t : Tick) → IsOpen a.core t → IsOpen b.core t
  cleared_open = back_open a b by touched did.clears

-- ---- one region

fallen : (a b : Shown) (r : ℕ) → is_prepared b.core ≡ at_id (is_prepared a.core) r false → (q : ℕ) → is_prepared b.core q ≡ (is_prepared a.core q && not (nat_eq r q))
fallen a b r is q = ap (λ (p : ℕ → Bool). p q) is ∙ (elim (cases_Bool (nat_eq r q)) [
  | inl y ↦ rw y (sym (none_of (is_prepared a.core q)))
  | inr n ↦ rw n (and_true (is_prepared a.core q))
])

-- its tick came back
pub back_withdrawn : (a b : Shown) (by r : ℕ) → b.slots ≡ a.slots → b.workers ≡ a.workers → Withdraws a.core b.core r → CallsBack a b by (nat_eq r)
back_withdrawn a b by r slots workers did = record {
  slots = slots;
  workers = workers;
  opening = did.opening;
  learnt = [];
  history = did.history ∙ sym (append-nil a.core.history);
  begins = tt;
  prepared = fallen a b r did.prepared;
}

-- a worker was found to have it
pub back_learnt : (a b : Shown) (by k r : ℕ) → b.slots ≡ a.slots → b.workers ≡ a.workers → is_prepared a.core r ≡ true → Learns a.core b.core by k r → CallsBack a b by (nat_eq r)
back_learnt a b by k r slots workers marked did = record {
  slots = slots;
  workers = workers;
  opening = did.opening;
  learnt = (record { by = by; event = Begin k r }) ∷ [];
  history = did.history;
  begins = (record { worker = k; region = r; is = refl; prepared = marked; chosen = eq-eqb r r refl }, tt);
  prepared = fallen a b r did.prepared;
}

-- it was not prepared
pub back_idle : (a : Shown) (by r : ℕ) → is_prepared a.core r ≡ false → CallsBack a a by (nat_eq r)
back_idle a by r none = back_none a by (nat_eq r) (λ q marked. ne_eqb r q (λ same. true≢false (sym marked ∙ (ap (is_prepared a.core) (sym same) ∙ none))))

-- it is not prepared then
pub back_gone : (a b : Shown) (by r : ℕ) → CallsBack a b by (nat_eq r) → is_prepared b.core r ≡ false
back_gone a b by r back =
    let self : nat_eq r r ≡ true = eq-eqb r r refl in
    back.prepared r ∙ (ap (λ (x : Bool). is_prepared a.core r && not x) self ∙ none_of (is_prepared a.core r))

-- then one region fewer is prepared
pub back_fewer : (a b : Shown) (by r : ℕ) → CallsBack a b by (nat_eq r) → is_prepared a.core r ≡ true → r < (world_of a.core).grid.next
    → count_below (is_prepared b.core) (world_of b.core).grid.next < count_below (is_prepared a.core) (world_of a.core).grid.next
back_fewer a b by r back marked low =
    let n : ℕ = (world_of a.core).grid.next in
    let next = back_next a b by (nat_eq r) back in
    let gone : is_prepared b.core r ≡ false = back_gone a b by r back in
    let others : (k : ℕ) → k ≢ r → is_prepared a.core k ≡ is_prepared b.core k = λ k ne. all_of (is_prepared a.core k) (nat_eq r k) (λ _. ne_eqb r k (λ same. ne (sym same))) ∙ sym (back.prepared k) in
    let sum = count_less (is_prepared a.core) (is_prepared b.core) n r low gone others in
    let taken : ℕ = cond (is_prepared a.core r) 1 0 in
    let one : taken ≡ 1 = ap (λ (z : Bool). cond {A = ℕ} z 1 0) marked in
    rw next (omega (arith, sum, one))
