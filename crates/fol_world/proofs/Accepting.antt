-- Wishes that are accepted while their region still ticks.
use Rattle.std.proofs.Common.{◌≡◌, ℕ, ◌+◌, ◌≤◌, ◌<◌, ◌^◌, refl, sym, ◌∙◌, ap, subst, arith, true, false, inl, inr, List, length}
use Rattle.std.specs.Prelude.{nat_eq, nat_lt, Option, Some}
use Rattle.std.proofs.Math.Path.{fun_ext}
use Rattle.std.proofs.lemmas.Bool.{cases_Bool, eqb-true, ltb-true, true≢false}
use Rattle.fol_model.specs.declared.places.ChunkPos.{ChunkPos}
use Rattle.fol_model.specs.declared.regions.State.TheVariants.{Ticking}
use Rattle.fol_model.specs.declared.actions.Action.{Action}
use Rattle.fol_model.specs.declared.events.Accept.TheVariants.{Posted}
use Rattle.fol_model.specs.declared.events.Event.TheVariants.{Post}
use Rattle.fol_model.specs.Geometry.{is_chunk, section_of}
use Rattle.fol_model.specs.Counters.{owed_after_add}
use Rattle.fol_model.specs.GridState.{GridState, is_loaded}
use Rattle.fol_model.specs.Add.{add}
use Rattle.fol_model.specs.ActionStep.{Recorded, at_id}
use Rattle.fol_model.specs.Job.{Job, is_on, queued}
use Rattle.fol_model.specs.Holds.{posted}
use Rattle.fol_model.specs.World.{World}
use Rattle.fol_laws.proofs.AddKeeps.{add_keeps}
use Rattle.fol_laws.proofs.AddSections.{grid_add}
use Rattle.fol_laws.proofs.TickedBefore.{ticked_before}
use Rattle.fol_laws.proofs.TickingKept.{Kept, kept_posted}
use Rattle.fol_regions.specs.Table.{grid_state}
use Rattle.fol_regions.specs.Answers.{add_answer}
use Rattle.fol_regions.specs.Changes.{add_change}
use Rattle.fol_chunks.specs.Contents.{Contents}
use Rattle.fol_store.specs.Bag.{Bag, Stirred}
use Rattle.fol_store.specs.Stock.{bag_of, jobs_of, next_of}
use Rattle.fol_world.specs.declared.tables.Tables.{Tables}
use Rattle.fol_world.specs.Agenda.{Covers}
use Rattle.fol_world.specs.Bags.{IsBagOf}
use Rattle.fol_world.specs.Follows.{CanCover, CanFollow, CanHold, CanSettle, ChangesTo, IsKnown, Settle, changed_bags, followed, gaining}
use Rattle.fol_world.specs.Hands.{at_rest, in_hands, ticker, went}
use Rattle.fol_world.specs.Underway.{Underway}
use Rattle.fol_world.proofs.Added.{AddedBags, added_bags, gained_bags, off_owed}
use Rattle.fol_world.proofs.GridRuns.{grid_after}
use Rattle.fol_world.proofs.HandSteps.{hands_same, rest_same}
use Rattle.fol_world.proofs.Held.{count_most}
use Rattle.fol_world.proofs.AddBags.{calm_here, calm_home, calm_none}
use Rattle.fol_world.proofs.GainedBags.{can_settle}
use Rattle.fol_world.proofs.SettledBags.{settled_bags}
use Rattle.fol_world.proofs.UnitedBags.{are_in_order}
use Rattle.fol_world.proofs.UnsettledBags.{have_bags, known_bag}

-- ---- a bag that may be calm no more
pub stirred_bag : (g : GridState) (tick owed : ℕ → ℕ) (recorded : ℕ → Recorded) (r : ℕ) (c : ChunkPos) (b d : Bag) → Stirred c b d → IsBagOf g tick owed recorded r b → IsBagOf g tick owed recorded r d
stirred_bag g tick owed recorded r c b d e is =
    let P : Bag → Type 0 = λ k. IsBagOf g tick owed recorded r k in
    subst P (sym e.same) (record {
      here = is.here;
      taken = is.taken;
      counter = is.counter;
      owes = is.owes;
      listed = λ d w. is.listed d w;
      since = is.since;
      out = is.out;
    })

pub covers_stirred : (xs : List ℕ) (g : GridState) (c : ChunkPos) (f k : ℕ → Bag) → ((r : ℕ) → Stirred c (f r) (k r)) → Covers xs g f → Covers xs g k
covers_stirred xs g c f k e cov r x = cov r (let b = (e r).same in rw b at x)

not_below : (k m : ℕ) → m ≤ k → nat_lt k m ≡ false
not_below k m l = elim (cases_Bool (nat_lt k m)) [ inl e ↦ let x = ltb-true k m e in absurd (omega arith) | inr e ↦ e ]

-- ---- an added hold, in the middle of an End
module _ (t : Tables) (v : Contents) (w : World) (since : ℕ → ℕ) (r n : ℕ) (u : Underway t v w since r (n + 1)) (c : ChunkPos) (limits : is_chunk c ≡ true) where
  abbrev g : GridState
  g = w.grid

  abbrev home : ℕ
  home = (add w.grid c).owner (section_of w.grid.grid c)

  all_bags : AddedBags g (add g c) c (add_change g c) w.owed (owed_after_add g c w.owed) w.tick w.recorded (bag_of t.store)
  all_bags = added_bags g c u.ends.ending.sound.rules u.ends.ending.sound.grid limits w.owed w.tick w.recorded (bag_of t.store) u.midway.stored.bags u.ends.new_ticks

  off_bags : (q : ℕ) → IsBagOf (add g c) w.tick (owed_after_add g c w.owed) w.recorded q (followed (gaining g.grid g c) (add_change g c) (bag_of t.store) q)
  off_bags = gained_bags g (add g c) c (add_change g c) w.owed (owed_after_add g c w.owed) w.tick w.recorded (bag_of t.store) refl all_bags
      (add_keeps g c u.ends.ending.sound.rules u.ends.ending.sound.grid limits).given

  follows : CanFollow t.store (add_change g c)
  follows = record {
    follow = rw u.midway.stored.next all_bags.follow;
    slots = omega (arith, all_bags.few, u.room.slots);
    joins = all_bags.joins;
    order = are_in_order g w.tick w.owed w.recorded (bag_of t.store) u.midway.stored.bags;
  }

  known : IsKnown (changed_bags (add_change g c) (bag_of t.store)) home
  known p = known_bag (add g c) w.tick (owed_after_add g c w.owed) w.recorded home home (changed_bags (add_change g c) (bag_of t.store))
      (all_bags.bags home) ((add_keeps g c u.ends.ending.sound.rules u.ends.ending.sound.grid limits).owner_lives (section_of g.grid c) p)

  settles : (h : ℕ → Bag) → ChangesTo (add_change g c) (bag_of t.store) h → CanSettle (is_loaded g c) (add_answer g c) (add g c) c home (changed_bags (add_change g c) (bag_of t.store)) h
  settles = can_settle g c u.ends.ending.sound.rules u.ends.ending.sound.grid limits (bag_of t.store) (λ q w d. (u.midway.stored.bags q).listed d w)
      (calm_here g c u.ends.ending.sound.rules u.ends.ending.sound.grid limits w.owed w.tick w.recorded (bag_of t.store) u.midway.stored.bags)
      (calm_home g c u.ends.ending.sound.rules u.ends.ending.sound.grid limits w.owed w.tick w.recorded (bag_of t.store) u.midway.stored.bags)
      (calm_none g c u.ends.ending.sound.rules u.ends.ending.sound.grid limits w.owed w.tick w.recorded (bag_of t.store) u.midway.stored.bags)
      (are_in_order g w.tick w.owed w.recorded (bag_of t.store) u.midway.stored.bags) known

  can_cover : CanCover t.agenda.items (add g c) (add_change g c) (followed (gaining g.grid g c) (add_change g c) (bag_of t.store))
  can_cover = record {
    bags = have_bags (add g c) w.tick (owed_after_add g c w.owed) w.recorded (followed (gaining g.grid g c) (add_change g c) (bag_of t.store)) off_bags;
    covers = λ q x. let e = off_owed (gaining g.grid g c) (changed_bags (add_change g c) (bag_of t.store)) q in all_bags.covers t.agenda.items u.midway.covers q (rw e at x);
  }

  few_holds : g.holds c < 2 ^ 62
  few_holds = omega (arith, u.ends.ending.sound.holds c, u.ends.few_tickets c, count_most (λ k. is_on c (w.jobs k)) w.next_job, u.ends.few_jobs)

  pub can_hold : CanHold t c
  can_hold = record {
    in_range = limits;
    spare = omega (arith, u.room.regions);
    few = rw u.midway.regions few_holds;
    few_ids = rw u.midway.regions (omega (arith, u.ends.few_ids));
    few_tickets = omega (arith, u.midway.tickets c, u.ends.few_tickets c);
    bags = rw u.midway.regions follows;
    settles = rw (u.midway.regions, u.midway.grid) settles;
    covers = rw (u.midway.regions, u.midway.grid) can_cover;
    room = omega (arith, u.room.agenda);
    tickets = u.room.tickets;
  }

  -- ---- after it
  pub held_bags : (f : ℕ → Bag) → Settle (add (grid_state t.regions) c) (followed (gaining t.grid (grid_state t.regions) c) (add_change (grid_state t.regions) c) (bag_of t.store)) f
      → (q : ℕ) → IsBagOf (add g c) w.tick (owed_after_add g c w.owed) w.recorded q (f q)
  held_bags f b q = let b' = rw (u.midway.regions, u.midway.grid) at b in settled_bags (add g c) w.tick (owed_after_add g c w.owed) w.recorded (followed (gaining g.grid g c) (add_change g c) (bag_of t.store)) f off_bags b' q

  pub held_next : (k : ℕ) → k ≡ next_of t.store + length (add_change (grid_state t.regions) c).created → k ≡ (add g c).next
  held_next k q = let q' : k ≡ next_of t.store + length (add_change g c).created = rw u.midway.regions at q in omega (arith, u.midway.stored.next, all_bags.next, q')

  pub few_made : length (add_change (grid_state t.regions) c).created ≤ 1
  few_made = rw u.midway.regions all_bags.few

  pub new_next : (add g c).next ≤ g.next + 1
  new_next = omega (arith, all_bags.next, all_bags.few)

  pub next_grows : g.next ≤ (add g c).next
  next_grows = omega (arith, all_bags.next)

  pub grid_stays : (add g c).grid ≡ g.grid
  grid_stays = grid_add g c

  -- ---- where the task is accepted
  module _ (d : ℕ) (a : Action) where
    abbrev p : World
    p = posted w c d a

    pub post_kept : (q : ℕ) → g.state q ≡ Ticking → Kept q w (posted w c d a)
    post_kept q ticks = kept_posted q w u.ends.ending.sound ticks c d a limits

    post_back : (q : ℕ) → (posted w c d a).grid.state q ≡ Ticking → g.state q ≡ Ticking
    post_back q ticks = elim (ticked_before q w (Post 0 c d a (Posted 0)) ticks) [ inl k ↦ k.0 | inr b ↦ absurd (true≢false (sym b)) ]

    post_grid : (posted w c d a).grid.grid ≡ g.grid
    post_grid = grid_after w (Post 0 c d a (Posted 0))

    pub post_hands : in_hands (posted w c d a).grid (posted w c d a).recorded ≡ in_hands g w.recorded
    post_hands = hands_same w (posted w c d a) post_grid post_kept post_back

    pub post_rest : (k : ℕ) (x : Option Job) → at_rest (posted w c d a).grid since k x ≡ at_rest g since k x
    post_rest = rest_same w (posted w c d a) post_grid post_kept post_back since

    -- the new task did not go with an open tick
    post_new : at_rest (posted w c d a).grid since w.next_job (Some (queued c d a)) ≡ Some (queued c d a)
    unfolding went
    post_new = let q = ticker (posted w c d a).grid c in let z : nat_lt w.next_job (since q) ≡ false = not_below w.next_job (since q) (u.ends.since_most q) in
        elim (cases_Bool (nat_lt 0 (ticker (posted w c d a).grid c))) [ inl e ↦ rw (e, z) refl | inr e ↦ rw e refl ]

    pub post_jobs : (js : ℕ → Option Job) → js ≡ jobs_of t.store → at_id js w.next_job (Some (queued c d a)) ≡ (λ k. at_rest (posted w c d a).grid since k (at_id w.jobs w.next_job (Some (queued c d a)) k))
    post_jobs js e = fun_ext (λ k. elim (cases_Bool (nat_eq w.next_job k)) [
      | inl h ↦ let same : w.next_job ≡ k = eqb-true _ _ h in let z = post_new in rw (h, ← same) (sym z)
      | inr h ↦ rw h (ap (λ (f : ℕ → Option Job). f k) (e ∙ u.midway.stored.jobs) ∙ sym (post_rest k (w.jobs k)))
    ])
