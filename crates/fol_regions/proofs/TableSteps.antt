-- What the calls of a region table keep and say.
use Rattle.std.proofs.Common.{◌≡◌, ℕ, ◌+◌, ◌-◌, ◌*◌, ◌≤◌, ◌<◌, refl, sym, ◌∙◌, ap, arith, true, false, inl, inr, ◌&&◌, not, filter, List}
use Rattle.std.specs.Prelude.{◌≢◌, nat_eq, nat_lt, if◌then◌else◌, Some, None, min, count_by}
use Rattle.std.proofs.Math.Path.{fun_ext}
use Rattle.std.proofs.lemmas.Bool.{cases_Bool, cases_eq, true≢false, lt-ltb, le-ltb}
use Rattle.fol_model.specs.declared.places.SectionPos.{SectionPos}
use Rattle.fol_model.specs.declared.places.ChunkPos.{ChunkPos}
use Rattle.fol_model.specs.declared.grids.Grid.{Grid}
use Rattle.fol_model.specs.declared.regions.State.{State}
use Rattle.fol_model.specs.declared.regions.State.TheVariants.{Transient, Ready, Ticking, Dead}
use Rattle.fol_model.specs.Geometry.{is_chunk, section_of}
use Rattle.fol_model.specs.GridNumbers.{IsGrid}
use Rattle.fol_model.specs.Universe.{square}
use Rattle.fol_model.specs.GridState.{at_chunk, empty, is_ready}
use Rattle.fol_model.specs.Begin.{begin}
use Rattle.fol_model.specs.Drop.{drop_hold}
use Rattle.fol_model.specs.Release.{release}
use Rattle.fol_model.specs.Rules.{Rules}
use Rattle.fol_laws.proofs.SmallSteps.{begin_keeps, drop_keeps, empty_keeps}
use Rattle.fol_laws.proofs.ReleaseKeeps.{release_keeps}
use Rattle.fol_sections.specs.Table.{IsEmpty, IsSame, holds_of, in_margin_of, presence_of, removed}
use Rattle.fol_sections.specs.declared.answers.Removed.TheVariants.{Gone}
use Rattle.fol_sections.specs.Table as sections
use Rattle.fol_regions.specs.Answers.{begun_state, remove_answer, some_id, unbegun}
use Rattle.fol_region_tables.specs.Book.{Book, HasRoomFor, IsAlike, IsBook, KeepsRoom, SetsState, owner_of, state_of, waits_of, is_live}
use Rattle.fol_lists.specs.Numbered.{total}
use Rattle.fol_regions.specs.declared.dead_bounds.Known.{Known}
use Rattle.fol_regions.specs.DeadBounds.{BoundsDead, most_in}
use Rattle.fol_regions.specs.Kept.{IsKept}
use Rattle.fol_regions.specs.Released.{IsPresence, grid_of}
use Rattle.fol_regions.specs.Table.{Table, grid_state}
use Rattle.fol_region_tables.proofs.BookFacts.{waiter_lives}
use Rattle.fol_regions.proofs.DeadKept.{bounds_same}
use Rattle.fol_regions.proofs.DyingSteps.{bounds_kept, bounds_noted, gone_one, one_gone}
use Rattle.fol_regions.proofs.JoinTest.{grid_is}

pub state_is : (t : Table) → grid_state t ≡ grid_of t.sections t.book
unfolding grid_state grid_of
state_is t = refl

pub dead_if : (x : State) → ((x ≢ Dead) → ⊥) → x ≡ Dead
dead_if Transient h = absurd (h (λ e. cc))
dead_if Ready h = absurd (h (λ e. cc))
dead_if Ticking h = absurd (h (λ e. cc))
dead_if Dead h = refl

-- ---- nothing yet
module _ (grid : Grid) (s : sections.Table) (b : Book) (h : IsBook b) (same : s.grid ≡ grid) (none : IsEmpty s) (owner : (q : SectionPos) → owner_of b q ≡ 0) (live : (r : ℕ) → is_live b r ≡ false)
    (lives : (r : ℕ) → state_of b r ≢ Dead → is_live b r ≡ true) (next : b.next ≡ 1) where
  no_state : (r : ℕ) → state_of b r ≡ Dead
  no_state r = dead_if (state_of b r) (λ n. true≢false (sym (lives r n) ∙ live r))

  no_wait : (u t : ℕ) → waits_of b u t ≡ false
  no_wait u t = elim (cases_Bool (waits_of b u t)) [ inl e ↦ absurd (true≢false (sym (waiter_lives b h u t e) ∙ live u)) | inr e ↦ e ]

  pub new_state : grid_of s b ≡ empty grid
  unfolding grid_of
  new_state = grid_is (grid_of s b) (empty grid) same none.holds (fun_ext owner) (fun_ext no_state) (fun_ext (λ u. fun_ext (λ t. no_wait u t))) next

  pub new_kept : IsGrid grid → IsKept grid s b 0
  new_kept ok = record {
    same = sym same;
    numbers = let e = same in rw e ok;
    rules = let e = new_state in rw e (empty_keeps grid);
    presence = λ q. let o = owner q in ap (λ f. f q) none.presence ∙ rw o refl;
    spare = omega arith;
    room = record { pages = omega arith; ahead = omega (arith, h.ahead_fits); behind = omega (arith, h.behind_fits) };
  }

module _ (grid : Grid) (s : sections.Table) (b : Book) (events : ℕ) (k : IsKept grid s b events) where
  -- ---- a removed hold
  module _ (e : sections.Table) (c : ChunkPos) (same : e.grid ≡ s.grid) (spare : e.spare ≡ s.spare) (holds : holds_of e ≡ at_chunk (holds_of s) c (holds_of s c - 1)) (presence : presence_of e ≡ presence_of s) where
    pub removed_state : grid_of e b ≡ drop_hold (grid_of s b) c
    unfolding grid_of drop_hold
    removed_state = grid_is (grid_of e b) (drop_hold (grid_of s b) c) same holds refl refl refl refl

    pub gone_limits : removed s c ≡ Gone → is_chunk c ≡ true
    unfolding grid_of
    gone_limits g = let one = gone_one s c g in k.rules.chunk_limits c (omega arith)

    pub removed_kept : IsKept grid e b events
    removed_kept = record {
      same = k.same ∙ sym same;
      numbers = let g = same in rw g k.numbers;
      rules = let g = removed_state in rw g (drop_keeps (grid_of s b) c k.rules);
      presence = λ q. ap (λ f. f q) presence ∙ k.presence q;
      spare = omega (arith, k.spare, spare);
      room = k.room;
    }

    -- ---- the numbers of dead sections, where those that are dead since are noted
    pub removed_bounds : (old new : List Known) → BoundsDead (grid_of s b) (most_in old) → (died : List SectionPos)
        → (removed s c ≡ Gone → died ≡ filter (λ q. presence_of e q && not (in_margin_of e q)) (square (section_of s.grid c) s.grid.create))
        → ((r : ℕ) → 0 < r → min 16384 (most_in old r + count_by (λ q. nat_eq (owner_of b q) r) died) ≤ most_in new r)
        → BoundsDead (grid_of e b) (most_in new)
    removed_bounds old new bounds died are noted = elim (cases_eq (holds_of s c) 1) [
      | inl one ↦ bounds_noted s e b c same holds old new bounds removed_kept.rules died noted k.numbers (gone_limits (one_gone s c one)) removed_kept.presence (are (one_gone s c one))
      | inr n ↦ bounds_kept s e b c same holds old new bounds removed_kept.rules died noted n
    ]

  pub removed_answer : (c : ChunkPos) → removed s c ≡ remove_answer (grid_of s b) c
  unfolding grid_of removed
  removed_answer c = refl

  -- ---- the same, with more room
  module _ (e : sections.Table) (d : Book) (more : ℕ) (same : IsSame s e) (alike : IsAlike b d) where
    pub alike_state : grid_of e d ≡ grid_of s b
    unfolding grid_of
    alike_state = grid_is (grid_of e d) (grid_of s b) same.grid same.holds alike.owner alike.state alike.waits alike.next

    pub alike_bounds : (most : List Known) → BoundsDead (grid_of s b) (most_in most) → BoundsDead (grid_of e d) (most_in most)
    unfolding grid_of
    alike_bounds most = bounds_same (grid_of s b) (grid_of e d) most same.grid alike.owner same.holds

    pub alike_kept : events ≤ more → more ≤ e.spare → HasRoomFor d (34 * more) (625 * more) → IsKept grid e d more
    alike_kept l m r = record {
      same = k.same ∙ sym same.grid;
      numbers = let g = same.grid in rw g k.numbers;
      rules = let g = alike_state in rw g k.rules;
      presence = λ q. ap (λ f. f q) same.presence ∙ k.presence q ∙ ap (λ f. nat_lt 0 (f q)) (sym alike.owner);
      spare = m;
      room = r;
    }

  -- ---- another state of one region
  module _ (d : Book) (id : ℕ) (value : State) (sets : SetsState b d id value) where
    pub set_kept : Rules (grid_of s d) → IsKept grid s d events
    set_kept rules = record {
      same = k.same;
      numbers = k.numbers;
      rules = rules;
      presence = λ q. k.presence q ∙ ap (λ f. nat_lt 0 (f q)) (sym sets.owner);
      spare = k.spare;
      room = record { pages = omega (arith, k.room.pages, sets.rooms.free); ahead = omega (arith, k.room.ahead, sets.rooms.ahead, sets.rooms.ahead_room); behind = omega (arith, k.room.behind, sets.rooms.behind, sets.rooms.behind_room) };
    }

    pub set_bounds : (most : List Known) → BoundsDead (grid_of s b) (most_in most) → BoundsDead (grid_of s d) (most_in most)
    unfolding grid_of
    set_bounds most = bounds_same (grid_of s b) (grid_of s d) most refl sets.owner refl

  -- ---- a tick begins
  module _ (d : Book) (id : ℕ) (ready : state_of b id ≡ Ready) (sets : SetsState b d id Ticking) where
    begun_is : grid_of s d ≡ begin (grid_of s b) id
    unfolding grid_of begin
    begun_is = grid_is (grid_of s d) (begin (grid_of s b) id) refl refl sets.owner sets.state sets.waits sets.next

    at_id : (grid_of s b).state id ≡ Ready
    unfolding grid_of
    at_id = ready

    pub begun_kept : IsKept grid s d events
    begun_kept = set_kept d id Ticking sets (let g = begun_is in rw g (begin_keeps (grid_of s b) id k.rules at_id))

    pub begun_state_is : grid_of s d ≡ begun_state (grid_of s b) id
    unfolding grid_of
    begun_state_is = let r = ready in begun_is ∙ rw r refl

  -- ---- a Begin is taken back
  module _ (d : Book) (id : ℕ) (sets : SetsState b d id Ready) where
    pub unbegun_is : grid_of s d ≡ unbegun (grid_of s b) id
    unfolding grid_of unbegun
    unbegun_is = grid_is (grid_of s d) (unbegun (grid_of s b) id) refl refl sets.owner sets.state sets.waits sets.next

    pub unbegun_kept : Rules (unbegun (grid_of s b) id) → IsKept grid s d events
    unbegun_kept rules = set_kept d id Ready sets (let g = unbegun_is in rw g rules)

  -- ---- a tick ends
  module _ (e : sections.Table) (d : Book) (id : ℕ) (ticks : (grid_of s b).state id ≡ Ticking) (state : grid_of e d ≡ release (grid_of s b) id) (presence : IsPresence e d) (rooms : KeepsRoom b d)
      (same : e.grid ≡ s.grid) (spare : e.spare ≡ s.spare) where
    ok : IsGrid (grid_of s b).grid
    unfolding grid_of
    ok = k.numbers

    pub released_kept : IsKept grid e d events
    released_kept = record {
      same = k.same ∙ sym same;
      numbers = let g = same in rw g k.numbers;
      rules = let g = state in rw g (release_keeps (grid_of s b) id k.rules ok ticks);
      presence = presence;
      spare = omega (arith, k.spare, spare);
      room = record { pages = omega (arith, k.room.pages, rooms.free); ahead = omega (arith, k.room.ahead, rooms.ahead, rooms.ahead_room); behind = omega (arith, k.room.behind, rooms.behind, rooms.behind_room) };
    }

-- ---- answers
pub owner_none : (n : ℕ) → n ≡ 0 → None ≡ some_id n
owner_none n e = rw e refl

pub owner_some : (n : ℕ) → n ≢ 0 → Some n ≡ some_id n
owner_some n e = let l : nat_lt 0 n ≡ true = lt-ltb 0 n (omega (arith, e)) in rw l refl

pub not_ready : (x : State) → (x ≡ Ready → ⊥) → is_ready x ≡ false
not_ready Transient h = refl
not_ready Ready h = absurd (h refl)
not_ready Ticking h = refl
not_ready Dead h = refl

pub state_some : (n next : ℕ) (x y : State) → n ≢ 0 → n < next → x ≡ y → Some x ≡ (if (nat_lt 0 n && nat_lt n next) then Some y else None)
state_some n next x y e l same = let a : nat_lt 0 n ≡ true = lt-ltb 0 n (omega (arith, e)) in let b : nat_lt n next ≡ true = lt-ltb n next l in rw (a, b) (ap (λ (z : State). Some z) same)

pub state_none : (n next : ℕ) (y : State) → next ≤ n → None ≡ (if (nat_lt 0 n && nat_lt n next) then Some y else None)
state_none n next y l = let b : nat_lt n next ≡ false = le-ltb n next l in elim (cases_Bool (nat_lt 0 n)) [ inl a ↦ rw (a, b) refl | inr a ↦ rw a refl ]

pub alike_same : (b : Book) → IsAlike b b
alike_same b = record { owner = refl; state = refl; waits = refl; live = refl; next = refl }

-- the room for as many events as before
pub room_kept : (b d : Book) (pages pairs : ℕ) → HasRoomFor b pages pairs → b.free ≤ d.free → (total d.ahead ≡ total b.ahead) × (b.ahead.room ≤ d.ahead.room) → (total d.behind ≡ total b.behind) × (b.behind.room ≤ d.behind.room) → HasRoomFor d pages pairs
room_kept b d n m h f a e = record { pages = omega (arith, h.pages, f); ahead = omega (arith, h.ahead, a.0, a.1); behind = omega (arith, h.behind, e.0, e.1) }
