-- A gathering leaves what the tables stand for.
use Rattle.std.proofs.Common.{◌≡◌, ◌≢◌, ℕ, refl, sym, ◌∙◌, ap, subst, true, false, inl, inr, List, filter}
use Rattle.std.specs.Prelude.{nat_lt, Result, Ok, Err, OnOk, OnErr}
use Rattle.std.proofs.lemmas.Bool.{and_parts, cases_eq, true≢false, false_from_ne_true}
use Rattle.fol_model.specs.declared.regions.State.{State}
use Rattle.fol_model.specs.declared.regions.State.TheVariants.{Transient, Ready, Ticking, Dead}
use Rattle.fol_model.specs.declared.openings.Opening.{Opening}
use Rattle.fol_model.specs.declared.places.ChunkPos.{ChunkPos}
use Rattle.fol_model.specs.declared.events.Entry.{Entry}
use Rattle.fol_model.specs.Geometry.{section_of}
use Rattle.fol_model.specs.Universe.{all_chunks}
use Rattle.fol_model.specs.GridState.{GridState, is_ready}
use Rattle.fol_model.specs.ActionStep.{Recorded}
use Rattle.fol_model.specs.Outputs.{is_chunk_of}
use Rattle.fol_model.specs.World.{World}
use Rattle.fol_model.specs.Run.{world}
use Rattle.fol_laws.proofs.AddTarget.{is_ticking-true}
use Rattle.fol_laws.proofs.UnseenEnds.{recorded_owner}
use Rattle.fol_chunks.specs.Contents.{is_recorded}
use Rattle.fol_regions.specs.Answers.{IsGiven}
use Rattle.fol_regions.specs.Table.{grid_state}
use Rattle.fol_store.specs.Bag.{Bag}
use Rattle.fol_store.specs.Gathered.{AreFree, OthersSpared, Spared, Touched}
use Rattle.fol_store.specs.Stock.{Stock, bag_of, next_of}
use Rattle.fol_world.specs.declared.tables.Tables.{Tables}
use Rattle.fol_world.specs.Agenda.{IsAgenda, owes}
use Rattle.fol_world.specs.Bags.{IsBagOf}
use Rattle.fol_world.specs.Begun.{Gathered}
use Rattle.fol_world.specs.Same.{SameThings}
use Rattle.fol_world.specs.Stands.{Stands}
use Rattle.fol_world.proofs.ChunkLists.{kept_passes, owned}
use Rattle.fol_world.proofs.KeptUp.{keeps_exact, keeps_like}
use Rattle.fol_world.proofs.Longer.{good_of}
use Rattle.fol_world.proofs.UnsettledBags.{rests_home}

pub is_ready-true : (s : State) → is_ready s ≡ true → s ≡ Ready
is_ready-true Ready h = refl
is_ready-true Transient h = absurd (true≢false (sym h))
is_ready-true Ticking h = absurd (true≢false (sym h))
is_ready-true Dead h = absurd (true≢false (sym h))

pub gathered_bag : (g : GridState) (tick owed : ℕ → ℕ) (recorded : ℕ → Recorded) (r : ℕ) (b c : Bag) → IsBagOf g tick owed recorded r b → Gathered g r b c → IsBagOf g tick owed recorded r c
gathered_bag g tick owed recorded r b c is e = record {
  here = e.here ∙ is.here;
  taken = e.taken ∙ is.taken;
  counter = λ x. e.counter ∙ is.counter x;
  owes = λ x. e.owes ∙ is.owes x;
  listed = λ d w. elim (e.listed w) [ inl k ↦ keeps_like b.since c.since b.chunks c.chunks (filter (is_chunk_of g r) all_chunks) k.2 k.1 (is.listed d k.0) | inr k ↦ k ];
  since = λ x. e.since (is.taken ∙ rests_home (g.state r) x) ∙ is.since x;
  out = λ x. e.out (is.taken ∙ rw x refl) ∙ is.out x;
}

-- ---- the bags after the store gathered that of region r
touched_bag : (g : GridState) (r : ℕ) (a b : Bag) → a.taken ≡ false → Touched a b → Gathered g r a b
touched_bag g r a b home t = record {
  here = ap (λ (x : Bag). x.here) t.same;
  taken = ap (λ (x : Bag). x.taken) t.same;
  counter = ap (λ (x : Bag). x.tick) t.same;
  owes = ap (λ (x : Bag). x.owed) t.same;
  listed = λ w. let e = t.listed w in inl (ap (λ (x : Bag). x.listed) (sym e) ∙ w, ap (λ (x : Bag). x.chunks) e, ap (λ (x : Bag). x.since) e);
  since = λ x. ap (λ (x : Bag). x.since) t.same;
  out = λ x. absurd (true≢false (sym x ∙ home));
}

own_bag : {T E : Type 0} (o : Result T E) (g : GridState) (r : ℕ) (chunks : List ChunkPos) (a b : Bag) → chunks ≡ filter (is_chunk_of g r) all_chunks → a.taken ≡ false
    → OnOk o (b ≡ record a { listed = true; calm = true; chunks = chunks }) → OnErr o (Touched a b) → Gathered g r a b
own_bag (Ok x) g r chunks a b same home e t = record {
  here = ap (λ (x : Bag). x.here) e;
  taken = ap (λ (x : Bag). x.taken) e;
  counter = ap (λ (x : Bag). x.tick) e;
  owes = ap (λ (x : Bag). x.owed) e;
  listed = λ w. inr (keeps_exact b.since b.chunks (is_chunk_of g r) (ap (λ (x : Bag). x.chunks) e ∙ same));
  since = λ x. ap (λ (x : Bag). x.since) e;
  out = λ x. absurd (true≢false (sym x ∙ home));
}
own_bag (Err x) g r chunks a b same home e t = touched_bag g r a b home t

spared_bag : (g : GridState) (r : ℕ) (chunks : List ChunkPos) (a b : Bag) → Spared chunks a b → Gathered g r a b
spared_bag g r chunks a b s = record {
  here = ap (λ (x : Bag). x.here) s.same;
  taken = ap (λ (x : Bag). x.taken) s.same;
  counter = ap (λ (x : Bag). x.tick) s.same;
  owes = ap (λ (x : Bag). x.owed) s.same;
  listed = λ w. inl (s.lost w, ap (λ (x : Bag). x.chunks) s.same, ap (λ (x : Bag). x.since) s.same);
  since = λ x. ap (λ (x : Bag). x.since) s.same;
  out = λ x. ap (λ (x : Bag). x.chunks) s.same;
}

pub gathered_all : {T E : Type 0} (o : Result T E) (g : GridState) (id : ℕ) (chunks : List ChunkPos) (f k : ℕ → Bag) → chunks ≡ filter (is_chunk_of g id) all_chunks → (f id).taken ≡ false
    → OnOk o (k id ≡ record (f id) { listed = true; calm = true; chunks = chunks }) → OnErr o (Touched (f id) (k id)) → OthersSpared id chunks f k → (r : ℕ) → Gathered g r (f r) (k r)
gathered_all o g id chunks f k same home whole err others r = elim (cases_eq r id) [
  | inl e ↦ let P : ℕ → Type 0 = λ n. Gathered g n (f n) (k n) in subst P (sym e) (own_bag o g id chunks (f id) (k id) same home whole err)
  | inr d ↦ spared_bag g r chunks (f r) (k r) (others r d)
]

pub gathered_agenda : (xs : List ℕ) (g : GridState) (f h : ℕ → Bag) → ((r : ℕ) → (h r).owed ≡ (f r).owed) → IsAgenda xs g f → IsAgenda xs g h
gathered_agenda xs g f h e a = record {
  covers = λ r o. let x = e r in a.covers r (rw x at o);
  top = λ ys r s. let x = e r in rw x (a.top ys r s);
}

-- a region owes a tick where it owed one
pub owes_as_before : (g : GridState) (f k : ℕ → Bag) (id : ℕ) → ((r : ℕ) → Gathered g r (f r) (k r)) → owes g k id ≡ owes g f id
owes_as_before g f k id bags = let e = (bags id).owes in rw e refl

module _ (o : Opening) (h : List Entry) (t : Tables) (s : Stands o h t) where
  pub gathered_stands : (k : Stock) → SameThings t.store k → next_of k ≡ next_of t.store → ((r : ℕ) → Gathered (grid_state t.regions) r (bag_of t.store r) (bag_of k r)) → Stands o h (record t { store = k })
  gathered_stands k things next bags = record {
    grid = s.grid;
    run = s.run;
    fits = record {
      grid = s.fits.grid;
      regions = s.fits.regions;
      stored = record {
        flat = things.flat ∙ s.fits.stored.flat;
        jobs = things.jobs ∙ s.fits.stored.jobs;
        next = next ∙ s.fits.stored.next;
        bags = λ r. gathered_bag (world o h).grid (world o h).tick (world o h).owed (world o h).recorded r (bag_of t.store r) (bag_of k r) (s.fits.stored.bags r) (rw s.fits.regions at (bags r));
      };
      tickets = s.fits.tickets;
      agenda = gathered_agenda t.agenda.items (world o h).grid (bag_of t.store) (bag_of k) (λ r. (bags r).owes) s.fits.agenda;
      course = s.fits.course;
    };
    size = s.size;
  }

  pub ready_now : (id : ℕ) → owes (grid_state t.regions) (bag_of t.store) id ≡ true → (world o h).grid.state id ≡ Ready
  ready_now id x = let y : owes (world o h).grid (bag_of t.store) id ≡ true = rw s.fits.regions at x in is_ready-true ((world o h).grid.state id) (and_parts (is_ready ((world o h).grid.state id)) (nat_lt 0 (bag_of t.store id).owed) y).0

  pub owing_given : (id : ℕ) → owes (grid_state t.regions) (bag_of t.store) id ≡ true → IsGiven (grid_state t.regions) id
  owing_given id x =
      let ready = ready_now id x in
      let lives : (world o h).grid.state id ≢ Dead = λ d. let e : Ready ≡ Dead = sym ready ∙ d in absurd (cc) in
      let rules = (good_of o h t s).sound.rules in
      rw s.fits.regions (record { above = rules.given id lives; below = rules.below_next id lives })

  pub ready_here : (id : ℕ) → owes (grid_state t.regions) (bag_of t.store) id ≡ true → (bag_of t.store id).here ≡ true
  ready_here id x = let e = ready_now id x in (s.fits.stored.bags id).here ∙ rw e refl

  pub ready_home : (id : ℕ) → owes (grid_state t.regions) (bag_of t.store) id ≡ true → (bag_of t.store id).taken ≡ false
  ready_home id x = let e = ready_now id x in (s.fits.stored.bags id).taken ∙ rw e refl

  -- no worker has a chunk of a region that is Ready
  pub ready_free : (id : ℕ) → owes (grid_state t.regions) (bag_of t.store) id ≡ true → AreFree (bag_of t.store) (filter (is_chunk_of (grid_state t.regions) id) all_chunks)
  ready_free id x u taken c m = false_from_ne_true (is_recorded (bag_of t.store u).chunks c) (λ y.
      let w : World = world o h in
      let ready = ready_now id x in
      let ticks : (world o h).grid.state u ≡ Ticking = is_ticking-true ((world o h).grid.state u) (sym (s.fits.stored.bags u).taken ∙ taken) in
      let rec : (world o h).recorded u c ≡ true = kept_passes ((world o h).recorded u) c (sym (ap (λ xs. is_recorded xs c) ((s.fits.stored.bags u).out ticks)) ∙ y) in
      let mine : (world o h).grid.owner (section_of (world o h).grid.grid c) ≡ id = owned (world o h).grid id c (kept_passes (is_chunk_of (world o h).grid id) c (rw s.fits.regions at m)) in
      let theirs = recorded_owner (world o h) u c (good_of o h t s).recorded.margin ticks rec in
      let same : u ≡ id = sym theirs ∙ mine in
      let both : (world o h).grid.state u ≡ (world o h).grid.state id = ap (world o h).grid.state same in cc)
