-- A loop that parts a list: it looks at the elements in turn, moves one that passes, and puts the last element in its place.
use Rattle.std.proofs.Common.{◌≡◌, ℕ, ◌+◌, ◌<◌, ◌≤◌, Bool, true, false, cond, List, [], ◌∷◌, ◌++◌, length, get_or, map, refl, sym, ◌∙◌, ap, subst, arith, append_assoc, length-append}
use Rattle.std.specs.Prelude.{All, Contains, count_by}
use Rattle.std.specs.List.{AllWithin, swap_remove}
use Rattle.std.specs.List.Sorted.{IsPermutation}
use Rattle.std.proofs.lemmas.List.Elements.{AllWithin-none, AllWithin-more, AllWithin-upto, All-from_all_within, All-push, All-nil, Contains-get_or, Contains-append_right}
use Rattle.std.proofs.lemmas.List.Sorted.{IsPermutation-refl, IsPermutation-sym, IsPermutation-trans, IsPermutation-append_left, IsPermutation-append_right, IsPermutation-pop_more, IsPermutation-swap_remove, All-permutation, Contains-permutation, length_permutation, sum_by-IsPermutation}
use Rattle.std.proofs.lemmas.List.Sums.{sum_by-append, sum_by-cons, get_or-le-sum_by}
use Rattle.std.proofs.lemmas.List.{map-append, length-map, append-nil}
use Rattle.fol_model.specs.declared.tasks.Task.{Task}
use Rattle.fol_keyed.specs.Parted.{Parted}
use Rattle.fol_keyed.proofs.Keyed.{count_all}
use Rattle.fol_queues.specs.declared.dated.Dated.{Dated}
use Rattle.fol_queues.specs.Waiting.{is_due}
use Rattle.fol_queues.specs.Parted.{DueParted, IsTakingDue, MovedInto}

-- what was moved passes, and none of the first i of what is left
pub record IsParting {X : Type 0} (p : X → Bool) (xs left moved : List X) (i : ℕ) : Type 0 where
  pub all : IsPermutation xs (moved ++ left)
  pub yes : All (λ x. p x ≡ true) moved
  pub no : AllWithin (λ x. p x ≡ false) left 0 i

module _ {X : Type 0} (p : X → Bool) (xs : List X) where
  pub parting_none : IsParting p xs xs [] 0
  parting_none = record { all = IsPermutation-refl xs; yes = All-nil (λ x. p x ≡ true); no = AllWithin-none (λ x. p x ≡ false) xs 0 }

  pub parting_stays : (left moved : List X) (i : ℕ) → IsParting p xs left moved i → ((d : X) → p (get_or left i d) ≡ false) → IsParting p xs left moved (i + 1)
  parting_stays left moved i h n = record { all = h.all; yes = h.yes; no = AllWithin-more (λ x. p x ≡ false) left 0 i h.no n }

  -- rest is what is left once the element at i has gone
  pub parting_moves : (left moved rest : List X) (i : ℕ) (x : X) → IsParting p xs left moved i → i < length left → x ≡ get_or left i x → ((d : X) → p (get_or left i d) ≡ true) → rest ≡ swap_remove left i x
      → ((k : ℕ) (d : X) → k < i → get_or rest k d ≡ get_or left k d) → IsParting p xs rest (moved ++ x ∷ []) i
  parting_moves left moved rest i x h l e t r same =
      let a : IsPermutation left (x ∷ rest) = rw r (IsPermutation-swap_remove left i x l e) in
      record {
        all = IsPermutation-pop_more xs moved left rest x h.all a;
        yes = All-push (λ z. p z ≡ true) moved x h.yes (ap p e ∙ t x);
        no = λ k d low high. ap p (same k d high) ∙ h.no k d low high;
      }

  pub parting_done : (left moved : List X) (i : ℕ) → IsParting p xs left moved i → length left ≤ i → Parted p xs left moved
  parting_done left moved i h l = record { all = h.all; yes = h.yes; no = All-from_all_within (λ x. p x ≡ false) left (AllWithin-upto (λ x. p x ≡ false) left 0 i (length left) l h.no) }

  -- one that passes has still to be moved
  pub room_left : (left moved : List X) (i : ℕ) (d : X) → IsPermutation xs (moved ++ left) → All (λ x. p x ≡ true) moved → i < length left → p (get_or left i d) ≡ true → length moved < count_by p xs
  room_left left moved i d all passing l t =
      let a : count_by p (moved ++ left) ≡ count_by p xs = sum_by-IsPermutation (λ z. cond (p z) 1 0) xs (moved ++ left) all in
      let b : count_by p (moved ++ left) ≡ count_by p moved + count_by p left = sum_by-append (λ z. cond (p z) 1 0) moved left in
      let one : cond (p (get_or left i d)) 1 0 ≤ count_by p left = get_or-le-sum_by (λ z. cond (p z) 1 0) left i d l in
      let some : 1 ≤ count_by p left = rw t at one in
      omega (arith, count_all p moved passing)

  -- what is left is still of the list
  pub still_there : (left moved : List X) (i : ℕ) (d : X) → IsPermutation xs (moved ++ left) → i < length left → Contains xs (get_or left i d)
  still_there left moved i d all l = Contains-permutation (moved ++ left) xs (get_or left i d) (IsPermutation-sym xs (moved ++ left) all) (Contains-append_right moved left (get_or left i d) (Contains-get_or left i d l))

-- the list may have stood in another order before
pub parted_before : {X : Type 0} (p : X → Bool) (xs ys left moved : List X) → IsPermutation xs ys → Parted p ys left moved → Parted p xs left moved
parted_before p xs ys left moved m h = record { all = IsPermutation-trans xs ys (moved ++ left) m h.all; yes = h.yes; no = h.no }

-- what is left may stand in another order
pub parted_again : {X : Type 0} (p : X → Bool) (xs left rest moved : List X) → Parted p xs left moved → IsPermutation left rest → Parted p xs rest moved
parted_again p xs left rest moved h m = record {
  all = IsPermutation-trans xs (moved ++ left) (moved ++ rest) h.all (IsPermutation-append_right moved left rest m);
  yes = h.yes;
  no = All-permutation (λ x. p x ≡ false) left rest m h.no;
}

module _ (now : ℕ) (xs : List Dated) where
  pub due_moves : (left rest : List Dated) (out more : List Task) (d : Dated) → IsTakingDue now xs left out → IsPermutation left (d ∷ rest) → is_due now d ≡ true → more ≡ out ++ d.task ∷ [] → IsTakingDue now xs rest more
  due_moves left rest out more d h m t e =
      record {
        due = h.due ++ d ∷ [];
        tasks = e ∙ ap (λ ts. ts ++ d.task ∷ []) h.tasks ∙ sym (map-append (λ (e : Dated). e.task) h.due (d ∷ []));
        all = IsPermutation-pop_more xs h.due left rest d h.all m;
        yes = All-push (λ d. is_due now d ≡ true) h.due d h.yes t;
      }

  pub due_done : (left : List Dated) (out : List Task) → IsTakingDue now xs left out → All (λ d. is_due now d ≡ false) left → DueParted now xs left out
  due_done left out h none = record {
    due = h.due;
    tasks = rw h.tasks (IsPermutation-refl _);
    parted = record { all = h.all; yes = h.yes; no = none };
  }

-- the tasks that were taken stand in another order now
pub due_again : (now : ℕ) (xs left : List Dated) (out ts : List Task) → IsPermutation out ts → DueParted now xs left out → DueParted now xs left ts
due_again now xs left out ts m h = record { due = h.due; tasks = IsPermutation-trans _ _ _ h.tasks m; parted = h.parted }

-- all that is due has gone, or is left
pub taking_count : (now : ℕ) (xs left : List Dated) (out : List Task) → IsTakingDue now xs left out → length out + count_by (is_due now) left ≡ count_by (is_due now) xs
taking_count now xs left out h =
    let one : Dated → ℕ = λ d. cond (is_due now d) 1 0 in
    let gone : length out ≡ length h.due = ap (λ (ts : List Task). length ts) h.tasks ∙ length-map h.due (λ (d : Dated). d.task) in
    omega (arith, sum_by-IsPermutation one xs (h.due ++ left) h.all, sum_by-append one h.due left, count_all (is_due now) h.due h.yes)

-- so far moved to others: elements that pass, each changed by f
pub record IsMovingInto (p : Dated → Bool) (f : Dated → Dated) (xs left others joined : List Dated) (i : ℕ) : Type 0 where
  pub moved : List Dated
  pub joins : IsPermutation (others ++ map f moved) joined
  pub parting : IsParting p xs left moved i

module _ (p : Dated → Bool) (f : Dated → Dated) (xs others : List Dated) where
  pub moving_none : IsMovingInto p f xs xs others others 0
  moving_none = record { moved = []; joins = rw (append-nil others) (IsPermutation-refl others); parting = parting_none p xs }

  pub moving_stays : (left joined : List Dated) (i : ℕ) → IsMovingInto p f xs left others joined i → ((d : Dated) → p (get_or left i d) ≡ false) → IsMovingInto p f xs left others joined (i + 1)
  moving_stays left joined i h n = record { moved = h.moved; joins = h.joins; parting = parting_stays p xs left h.moved i h.parting n }

  pub moving_moves : (left rest joined more : List Dated) (i : ℕ) (x : Dated) → IsMovingInto p f xs left others joined i → i < length left → x ≡ get_or left i x → ((d : Dated) → p (get_or left i d) ≡ true) → rest ≡ swap_remove left i x
      → ((k : ℕ) (d : Dated) → k < i → get_or rest k d ≡ get_or left k d) → IsPermutation (joined ++ f x ∷ []) more → IsMovingInto p f xs rest others more i
  moving_moves left rest joined more i x h l e t r same m =
      record {
        moved = h.moved ++ x ∷ [];
        joins =
            let P : List Dated → Type 0 = λ l. IsPermutation l more in
            subst P (append_assoc others (map f h.moved) (f x ∷ []) ∙ ap (λ l. others ++ l) (sym (map-append f h.moved (x ∷ []))))
            (IsPermutation-trans _ _ _ (IsPermutation-append_left (f x ∷ []) (others ++ map f h.moved) joined h.joins) m);
        parting = parting_moves p xs left h.moved rest i x h.parting l e t r same;
      }

  -- one that passes has still to be moved
  pub moving_room : (left joined : List Dated) (i : ℕ) (d : Dated) → IsMovingInto p f xs left others joined i → i < length left → p (get_or left i d) ≡ true → length joined < length others + count_by p xs
  moving_room left joined i d h l t =
      omega (
        arith,
        length_permutation (others ++ map f h.moved) joined h.joins,
        length-append others (map f h.moved),
        length-map h.moved f,
        room_left p xs left h.moved i d h.parting.all h.parting.yes l t,
      )

  pub moving_done : (left joined : List Dated) (i : ℕ) → IsMovingInto p f xs left others joined i → length left ≤ i → MovedInto p f xs left others joined
  moving_done left joined i h l = record { moved = h.moved; joins = h.joins; parted = parting_done p xs left h.moved i h.parting l }

-- one that passes goes
pub one_less : {X : Type 0} (p : X → Bool) (xs rest : List X) (x : X) → IsPermutation xs (x ∷ rest) → p x ≡ true → count_by p xs ≡ 1 + count_by p rest
one_less p xs rest x m t =
    sym (sum_by-IsPermutation (λ z. cond (p z) 1 0) xs (x ∷ rest) m) ∙ sum_by-cons (λ z. cond (p z) 1 0) x rest ∙ ap (λ b. cond b 1 0 + count_by p rest) t

-- both lists may have stood in another order before
pub moved_before : (p : Dated → Bool) (f : Dated → Dated) (xs ys left others more joined : List Dated) → IsPermutation xs ys → IsPermutation others more → MovedInto p f ys left more joined → MovedInto p f xs left others joined
moved_before p f xs ys left others more joined m n h = record {
  moved = h.moved;
  joins = IsPermutation-trans _ _ _ (IsPermutation-append_left (map f h.moved) others more n) h.joins;
  parted = parted_before p xs ys left h.moved m h.parted;
}

-- where none is counted, none passes
pub all_fail : {X : Type 0} (p : X → Bool) (xs : List X) → count_by p xs ≡ 0 → All (λ x. p x ≡ false) xs
all_fail p xs e = λ k d l. fails (p (get_or xs k d)) (omega (arith, e, get_or-le-sum_by (λ z. cond (p z) 1 0) xs k d l))
  where
    fails : (b : Bool) → cond b 1 0 ≤ 0 → b ≡ false
    fails false l = refl
    fails true l = absurd (omega arith)
