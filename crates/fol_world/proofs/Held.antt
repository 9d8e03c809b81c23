-- An added hold of a chunk: what it needs, and what the tables stand for after it.
use Rattle.std.proofs.Common.{◌≡◌, ℕ, zero, suc, ◌+◌, ◌≤◌, ◌<◌, ◌^◌, refl, sym, ◌∙◌, ap, arith, Bool, true, false, inl, inr, List, [], ◌∷◌, length}
use Rattle.std.specs.Prelude.{Option}
use Rattle.std.specs.Global.{Vec}
use Rattle.std.proofs.Math.Path.{fun_ext}
use Rattle.std.proofs.lemmas.Bool.{cases_Bool}
use Rattle.std.proofs.lemmas.List.{append-nil}
use Rattle.fol_model.specs.declared.places.ChunkPos.{ChunkPos}
use Rattle.fol_model.specs.declared.openings.Opening.{Opening}
use Rattle.fol_model.specs.declared.actions.Action.{Action}
use Rattle.fol_model.specs.declared.events.Event.{Event}
use Rattle.fol_model.specs.declared.events.Event.TheVariants.{End}
use Rattle.fol_model.specs.declared.events.Entry.{Entry}
use Rattle.fol_model.specs.Geometry.{is_chunk, section_of}
use Rattle.fol_model.specs.Counting.{count_below}
use Rattle.fol_model.specs.Counters.{owed_after_add}
use Rattle.fol_model.specs.GridState.{GridState, is_loaded}
use Rattle.fol_model.specs.Add.{add, is_full}
use Rattle.fol_model.specs.ActionStep.{Flat, Recorded}
use Rattle.fol_model.specs.Holds.{loaded, posted}
use Rattle.fol_model.specs.Job.{Job, is_on}
use Rattle.fol_model.specs.OpenTick.{is_begin, is_end}
use Rattle.fol_model.specs.World.{World}
use Rattle.fol_model.specs.Run.{Allowed, after, world}
use Rattle.fol_laws.specs.Growth.{ends, ends_in}
use Rattle.fol_laws.proofs.AddKeeps.{add_keeps}
use Rattle.fol_laws.proofs.NewCounters.{new_counters}
use Rattle.fol_laws.proofs.NumberGrowth.{ids_grow, jobs_grow}
use Rattle.fol_laws.proofs.WholeRuns.{Good}
use Rattle.fol_regions.specs.Table.{grid_state}
use Rattle.fol_regions.specs.Answers.{add_answer}
use Rattle.fol_regions.specs.Changes.{add_change}
use Rattle.fol_chunks.specs.Contents.{outside}
use Rattle.fol_store.specs.Bag.{Bag}
use Rattle.fol_store.specs.Stock.{Stock, bag_of, flat_of, next_of}
use Rattle.fol_world.specs.declared.tables.Tables.{Tables}
use Rattle.fol_world.specs.Hands.{at_rest, in_hands, since}
use Rattle.fol_world.specs.Bags.{IsBagOf}
use Rattle.fol_world.specs.Follows.{CanCover, CanFollow, CanHold, CanSettle, ChangesTo, IsKnown, Settle, changed_bags, followed, gaining}
use Rattle.fol_world.specs.Grown.{HasGrown}
use Rattle.fol_world.specs.Stands.{Stands}
use Rattle.fol_world.proofs.Added.{AddedBags, added_bags, gained_bags, off_owed}
use Rattle.fol_world.proofs.HandSteps.{hands_by, rest_by}
use Rattle.fol_world.proofs.Longer.{good_of}
use Rattle.fol_world.proofs.GainedBags.{can_settle}
use Rattle.fol_world.proofs.SettledBags.{settled_bags}
use Rattle.fol_world.proofs.UnitedBags.{are_in_order}
use Rattle.fol_world.proofs.AddBags.{calm_here, calm_home, calm_none}
use Rattle.fol_world.proofs.TicketRuns.{tickets_most}
use Rattle.fol_world.proofs.UnsettledBags.{have_bags, known_bag}

-- v has one hold more of c than w, unless it is Full; tickets and tasks are not said
pub record HeldMore (w v : World) (c : ChunkPos) : Type 0 where
  pub grid : v.grid ≡ add w.grid c
  pub owed : v.owed ≡ owed_after_add w.grid c w.owed
  pub flat : v.flat ≡ w.flat
  pub tick : v.tick ≡ w.tick
  pub recorded : v.recorded ≡ w.recorded

owed_full : (g : GridState) (c : ChunkPos) (owed : ℕ → ℕ) → is_full g c ≡ true → owed ≡ owed_after_add g c owed
unfolding owed_after_add
owed_full g c owed f = fun_ext (λ r. rw f refl)

add_full : (g : GridState) (c : ChunkPos) → is_full g c ≡ true → g ≡ add g c
unfolding add
add_full g c f = rw f refl

pub held_loaded : (w : World) (c : ChunkPos) → HeldMore w (loaded w c) c
unfolding loaded
held_loaded w c = elim (cases_Bool (is_full w.grid c)) [
  | inl f ↦ let a = add_full w.grid c f in let b = owed_full w.grid c w.owed f in rw f (record { grid = a; owed = b; flat = refl; tick = refl; recorded = refl })
  | inr f ↦ rw f (record { grid = refl; owed = refl; flat = refl; tick = refl; recorded = refl })
]

pub held_posted : (w : World) (c : ChunkPos) (d : ℕ) (a : Action) → HeldMore w (posted w c d a) c
unfolding posted
held_posted w c d x = elim (cases_Bool (is_full w.grid c)) [
  | inl f ↦ let a = add_full w.grid c f in let b = owed_full w.grid c w.owed f in rw f (record { grid = a; owed = b; flat = refl; tick = refl; recorded = refl })
  | inr f ↦ rw f (record { grid = refl; owed = refl; flat = refl; tick = refl; recorded = refl })
]

pub count_most : (p : ℕ → Bool) (n : ℕ) → count_below p n ≤ n
unfolding count_below
count_most p zero = omega arith
count_most p (suc n) = elim (cases_Bool (p n)) [ inl e ↦ rw e (omega (arith, count_most p n)) | inr e ↦ rw e (omega (arith, count_most p n)) ]

one_end : (e : Event) → ends_in e ≤ 1
one_end (End worker r tick ran accepts) = omega arith
one_end _ = omega arith

pub ends_most : (es : List Entry) → ends es ≤ length es
ends_most [] = omega arith
ends_most (e ∷ es) = omega (arith, one_end e.event, ends_most es)

module _ (o : Opening) (h : List Entry) (t : Tables) (s : Stands o h t) where
  abbrev w : World
  w = world o h

  abbrev g : GridState
  g = (world o h).grid

  good : Good o w
  good = good_of o h t s

  pub few_next : t.course.size ≤ 2 ^ 50 + 1 → w.grid.next < 2 ^ 62
  few_next l = omega (arith, ids_grow o h [] s.grid (rw (append-nil h) s.run), ends_most h, s.size.size)

  pub few_jobs : w.next_job ≤ 1 + t.course.size
  few_jobs = omega (arith, jobs_grow o h [] s.grid (rw (append-nil h) s.run), s.size.size)

  pub few_tickets : (c : ChunkPos) → w.tickets c ≤ t.course.size
  few_tickets c = omega (arith, tickets_most o h c, s.size.size)

  pub few_holds : t.course.size ≤ 2 ^ 50 + 1 → (c : ChunkPos) → w.grid.holds c < 2 ^ 62
  few_holds l c = omega (arith, good.sound.holds c, few_tickets c, count_most (λ n. is_on c (w.jobs n)) w.next_job, few_jobs)

  zero_new : (r : ℕ) → w.grid.next ≤ r → w.tick r ≡ 0
  zero_new = new_counters o h [] s.grid (rw (append-nil h) s.run)

  module _ (c : ChunkPos) (limits : is_chunk c ≡ true) where
    all_bags : AddedBags g (add g c) c (add_change g c) w.owed (owed_after_add g c w.owed) w.tick w.recorded (bag_of t.store)
    all_bags = added_bags g c good.sound.rules good.sound.grid limits w.owed w.tick w.recorded (bag_of t.store) s.fits.stored.bags zero_new

    off_bags : (r : ℕ) → IsBagOf (add g c) w.tick (owed_after_add g c w.owed) w.recorded r (followed (gaining g.grid g c) (add_change g c) (bag_of t.store) r)
    off_bags = gained_bags g (add g c) c (add_change g c) w.owed (owed_after_add g c w.owed) w.tick w.recorded (bag_of t.store) refl all_bags
        (add_keeps g c good.sound.rules good.sound.grid limits).given

    can_follow : 1 ≤ t.store.slots → CanFollow t.store (add_change g c)
    can_follow l = record {
      follow = rw s.fits.stored.next all_bags.follow;
      slots = omega (arith, all_bags.few);
      joins = all_bags.joins;
      order = are_in_order g w.tick w.owed w.recorded (bag_of t.store) s.fits.stored.bags;
    }

    known : IsKnown (changed_bags (add_change g c) (bag_of t.store)) ((add g c).owner (section_of g.grid c))
    known p = known_bag (add g c) w.tick (owed_after_add g c w.owed) w.recorded ((add g c).owner (section_of g.grid c)) ((add g c).owner (section_of g.grid c)) (changed_bags (add_change g c) (bag_of t.store))
        (all_bags.bags ((add g c).owner (section_of g.grid c)))
        ((add_keeps g c good.sound.rules good.sound.grid limits).owner_lives (section_of g.grid c) p)

    settles : (h : ℕ → Bag) → ChangesTo (add_change g c) (bag_of t.store) h
        → CanSettle (is_loaded g c) (add_answer g c) (add g c) c ((add g c).owner (section_of g.grid c)) (changed_bags (add_change g c) (bag_of t.store)) h
    settles = can_settle g c good.sound.rules good.sound.grid limits (bag_of t.store) (λ r w d. (s.fits.stored.bags r).listed d w)
        (calm_here g c good.sound.rules good.sound.grid limits w.owed w.tick w.recorded (bag_of t.store) s.fits.stored.bags)
        (calm_home g c good.sound.rules good.sound.grid limits w.owed w.tick w.recorded (bag_of t.store) s.fits.stored.bags)
        (calm_none g c good.sound.rules good.sound.grid limits w.owed w.tick w.recorded (bag_of t.store) s.fits.stored.bags)
        (are_in_order g w.tick w.owed w.recorded (bag_of t.store) s.fits.stored.bags) known

    can_cover : CanCover t.agenda.items (add g c) (add_change g c) (followed (gaining g.grid g c) (add_change g c) (bag_of t.store))
    can_cover = record {
      bags = have_bags (add g c) w.tick (owed_after_add g c w.owed) w.recorded (followed (gaining g.grid g c) (add_change g c) (bag_of t.store)) off_bags;
      covers = λ r x. let e = off_owed (gaining g.grid g c) (changed_bags (add_change g c) (bag_of t.store)) r in
          all_bags.covers t.agenda.items s.fits.agenda.covers r (rw e at x);
    }

    pub can_hold : (v : Vec Entry) (wanted early : ℕ) → HasGrown t v wanted early → CanHold t c
    can_hold v wanted early room = record {
      in_range = limits;
      spare = room.regions;
      few = rw s.fits.regions (few_holds (omega (arith, room.size)) c);
      few_ids = rw s.fits.regions (few_next (omega (arith, room.size)));
      few_tickets = omega (arith, s.fits.tickets c, few_tickets c, room.size);
      bags = rw s.fits.regions (can_follow room.bags);
      settles = rw (s.fits.regions, s.fits.grid) settles;
      covers = rw (s.fits.regions, s.fits.grid) can_cover;
      room = omega (arith, room.agenda);
      tickets = room.tickets;
    }

    -- the store after an added hold
    module _ (e : Event) (ok : Allowed w e) (no_begin : (r : ℕ) → is_begin r e ≡ false) (no_end : (r : ℕ) → is_end r e ≡ false) (m : HeldMore w (after w e) c) where
      pub held_flat : (k : Stock) → flat_of k ≡ flat_of t.store → flat_of k ≡ outside (in_hands (after w e).grid (after w e).recorded) (after w e).flat
      held_flat k f = f ∙ s.fits.stored.flat ∙ sym (ap (λ (x : Recorded). outside x (after w e).flat) (hands_by w e good.sound ok no_begin no_end) ∙ ap (λ (x : Flat). outside (in_hands w.grid w.recorded) x) m.flat)

      pub held_rest : (n : ℕ) (x : Option Job) → at_rest (after w e).grid (since o h) n x ≡ at_rest w.grid (since o h) n x
      held_rest = rest_by w e good.sound ok no_begin no_end (since o h)

      pub held_bags : (f : ℕ → Bag) → Settle (add (grid_state t.regions) c) (followed (gaining t.grid (grid_state t.regions) c) (add_change (grid_state t.regions) c) (bag_of t.store)) f → (r : ℕ) → IsBagOf (after w e).grid (after w e).tick (after w e).owed (after w e).recorded r (f r)
      held_bags f b r = let b' = rw (s.fits.regions, s.fits.grid) at b in rw (m.grid, m.tick, m.owed, m.recorded) (settled_bags (add g c) w.tick (owed_after_add g c w.owed) w.recorded (followed (gaining g.grid g c) (add_change g c) (bag_of t.store)) f off_bags b' r)

      pub held_next : (n : ℕ) → n ≡ next_of t.store + length (add_change (grid_state t.regions) c).created → n ≡ (after w e).grid.next
      held_next n q = let q' : n ≡ next_of t.store + length (add_change g c).created = rw s.fits.regions at q in
          let a : (after w e).grid.next ≡ (add g c).next = ap (λ (y : GridState). y.next) m.grid in omega (arith, s.fits.stored.next, all_bags.next, q')
