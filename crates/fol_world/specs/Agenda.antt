-- The stack of regions that may owe a tick.
use Rattle.std.specs.Prelude.{ℕ, ◌≡◌, ◌+◌, ◌≤◌, Bool, true, ◌&&◌, ◌||◌, nat_eq, nat_lt, List, [], ◌∷◌, ◌++◌, vec_len, vec_capacity}
use Rattle.std.specs.Global.{Vec}
use Rattle.std.specs.List.{list_any}
use Rattle.fol_model.specs.GridState.{GridState, is_ready, is_ticking}
use Rattle.fol_store.specs.Bag.{Bag}

-- the region is Ready and owes a tick
abbrev pub owes : GridState → (ℕ → Bag) → ℕ → Bool
owes g f r = is_ready (g.state r) && nat_lt 0 (f r).owed

-- every region that owes a tick is in the stack
abbrev pub Covers : List ℕ → GridState → (ℕ → Bag) → Type 0
Covers xs g f = (r : ℕ) → owes g f r ≡ true → list_any (nat_eq r) xs ≡ true

-- the top owes a tick
abbrev pub TopOwes : List ℕ → GridState → (ℕ → Bag) → Type 0
TopOwes xs g f = (ys : List ℕ) (r : ℕ) → xs ≡ ys ++ r ∷ [] → owes g f r ≡ true

-- the region is on top
abbrev pub IsTop : List ℕ → ℕ → Type 0
IsTop xs r = (ys : List ℕ) × (xs ≡ ys ++ r ∷ [])

-- the stack has at most n regions more, in the memory that it had
pub record GrowsBy (n : ℕ) (old new : Vec ℕ) : Type 0 where
  pub len : vec_len new ≤ vec_len old + n
  pub capacity : vec_capacity new ≡ vec_capacity old

pub record IsAgenda (xs : List ℕ) (g : GridState) (f : ℕ → Bag) : Type 0 where
  pub covers : Covers xs g f
  pub top : TopOwes xs g f

-- each Ready region has its bag in the store
abbrev pub HaveBags : GridState → (ℕ → Bag) → Type 0
HaveBags g f = (r : ℕ) → is_ready (g.state r) ≡ true → (f r).here ≡ true

-- the region ticks, or is Ready and owes a tick
abbrev pub is_busy_in : GridState → (ℕ → Bag) → ℕ → Bool
is_busy_in g f r = is_ticking (g.state r) || owes g f r
