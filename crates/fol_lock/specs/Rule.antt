-- The rule of a lock, which holds between any two steps.
-- Word 0 is the next ticket and word 1 the ticket that is served, each modulo 2^64. The slot has the state, or the state is out with the seat that has the turn.
-- In place of 'these differ' the books have functions: no two seats have one number, since `owner` gives one seat, and no two have one ticket, since `holder` does.
use Rattle.std.specs.Prelude.{◌≡◌, ◌⊎◌, ℕ, ◌+◌, ◌%◌, ◌^◌, ◌<◌, ◌≤◌, true, false, List, length, slice_index, Option, Some, All, Contains, sum_by}
use mathlib.Core.Option.{some, none}
use lib.ListN.{get_elem?}
use Rattle.atomic_table.specs.Table.{State}
use Rattle.fol_lock.specs.declared.view.Claim.{Claim}
use Rattle.fol_lock.specs.declared.view.View.{View}
use Rattle.fol_lock.specs.Log.{given_by, StartsWith}
use Rattle.fol_lock.specs.View.{claims}

module _ {O E : Type 0} (by : E → ℕ) (origin : O) (log : List E) (dealt : ℕ) (owner : ℕ → ℕ) (seat : ℕ) where
  -- what a seat claims of a number is so, and the number is the seat's
  pub record Claimed (c : Claim O E) : Type 0 where
    pub origin_is : c.origin ≡ Some origin
    pub seen : StartsWith log c.seen
    pub mine : given_by by c.number log ≡ c.mine
    pub given_out : c.number < dealt
    pub owned : owner c.number ≡ seat

-- what the rule keeps count of; tickets are counted without end
pub record Books (E : Type 0) : Type 0 where
  -- as the last turn left it
  pub log : List E
  -- how many seat numbers were dealt
  pub dealt : ℕ
  -- the seat that has a number, itself or by a seat that was joined into it
  pub owner : ℕ → ℕ
  -- the ticket that is served, and the next one
  pub served : ℕ
  pub drawn : ℕ
  -- the seat that drew a ticket
  pub holder : ℕ → ℕ

module _ {O E : Type 0} (by : E → ℕ) (origin : O) (books : Books E) (seat : ℕ) where
  -- what the seat with this place among the views knows and has fits the books
  pub record Fits (v : View O E) : Type 0 where
    pub live : v.live ≤ 1
    pub draws : v.draws ≤ v.live
    pub own : v.live ≡ 1 → Claimed by origin books.log books.dealt books.owner seat v.own
    pub joined : All (Claimed by origin books.log books.dealt books.owner seat) v.joined
    -- only the seat with the last number deals others
    pub deals : v.deals ≡ true → (v.live ≡ 1) × (v.own.number + 1 ≡ books.dealt)
    pub ticket : v.draws ≡ 1 → (books.served ≤ v.ticket) × (v.ticket < books.drawn) × (books.holder v.ticket ≡ seat)
    -- the turn is of the ticket that is served
    pub turn : v.turn ≡ true → (v.draws ≡ 1) × (v.ticket ≡ books.served) × (v.own.seen ≡ books.log)

module _ {S O E : Type 0} where
  -- the state is out of the slot, with a seat that has the turn
  pub record IsOut (s : State (Option S) (View O E)) : Type 0 where
    pub slot : get_elem? s.homes 0 ≡ some none
    pub seat : ℕ
    pub view : View O E
    pub there : get_elem? s.views seat ≡ some view
    pub turn : view.turn ≡ true

module _ {O E : Type 0} where
  -- a live seat has seen the whole log, itself or by a seat that was joined into it
  pub record SeenWhole (log : List E) (views : List (View O E)) : Type 0 where
    pub seat : ℕ
    pub view : View O E
    pub there : get_elem? views seat ≡ some view
    pub live : view.live ≡ 1
    pub claim : Claim O E
    pub claimed : Contains (claims view) claim
    pub seen : claim.seen ≡ log

module _ {S O E : Type 0} (log_of : S → List E) (origin_of : S → O) where
  -- the state is in the slot, with this log and origin, and nobody has the turn
  pub record AtHome (origin : O) (log : List E) (s : State (Option S) (View O E)) : Type 0 where
    pub state : S
    pub slot : get_elem? s.homes 0 ≡ some (some (Some state))
    pub log_is : log_of state ≡ log
    pub origin_is : origin_of state ≡ origin
    pub no_turn : (j : ℕ) (v : View O E) → get_elem? s.views j ≡ some v → v.turn ≡ false

module _ {S O E : Type 0} (log_of : S → List E) (origin_of : S → O) (by : E → ℕ) where
  -- origin is the state's, and count is how many seats the lock deals
  pub record Ruled (origin : O) (count : ℕ) (s : State (Option S) (View O E)) : Type 0 where
    pub books : Books E
    pub two_words : length s.words ≡ 2
    pub next_is : slice_index s.words 0 ≡ books.drawn % 2 ^ 64
    pub serving_is : slice_index s.words 1 ≡ books.served % 2 ^ 64
    -- as many tickets are out as lie between the one that is served and the next one
    pub tickets : books.drawn ≡ books.served + sum_by (λ v. v.draws) s.views
    pub living : sum_by (λ v. v.live) s.views ≤ books.dealt
    pub at_most : books.dealt ≤ count
    pub few : count < 65536
    -- each entry is of a number that was dealt
    pub authors : All (λ e. by e < books.dealt) books.log
    pub each : (j : ℕ) (v : View O E) → get_elem? s.views j ≡ some v → Fits by origin books j v
    pub longest : SeenWhole books.log s.views
    pub home : AtHome log_of origin_of origin books.log s ⊎ IsOut s
