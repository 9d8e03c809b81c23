-- Lists of values whose words follow one another.
use Rattle.std.proofs.Common.{◌≡◌, ℕ, ◌^◌, ◌<◌, sym, ap, ◌∙◌, List, [], ◌∷◌, ◌++◌, flat_map, length, append_assoc, append-nil, arith, decimal}
use Rattle.std.specs.List.{AllByRecursion}
use Rattle.std.proofs.lemmas.Grind.{flat_map-append}
use Rattle.fol_model.specs.LineWords.{Word}
use Rattle.fol_report_laws.proofs.Numbers.{natural_in, natural_again}
use Rattle.fol_events.specs.Pieces.{NoneIn, counted, CountInRange}

-- what follows a value is known from the words or bytes
abbrev pub Cuts : {T X : Type 0} → (T → List X) → (T → Type 0) → Type 0
Cuts {T} {X} spelt Kind = (x y : T) (l m : List X) → Kind x → Kind y → spelt x ++ l ≡ spelt y ++ m → l ≡ m

-- two numbers of 64 bits with the same spelling are the same
pub same_number : (m n : ℕ) → m < 2 ^ 64 → n < 2 ^ 64 → decimal m ≡ decimal n → m ≡ n
same_number m n h k e = sym (natural_again m (omega arith)) ∙ ap natural_in e ∙ natural_again n (omega arith)

behind_first : {T X : Type 0} (spelt : T → List X) (x : T) (xs : List T) (l : List X) → flat_map spelt (x ∷ xs) ++ l ≡ spelt x ++ (flat_map spelt xs ++ l)
behind_first spelt x xs l = append_assoc (spelt x) (flat_map spelt xs) l

pub same_rest : {T X : Type 0} (spelt : T → List X) (Kind : T → Type 0) → Cuts spelt Kind → (xs ys : List T) (l m : List X) → length xs ≡ length ys → AllByRecursion Kind xs → AllByRecursion Kind ys → flat_map spelt xs ++ l ≡ flat_map spelt ys ++ m → l ≡ m
same_rest spelt Kind cuts [] [] l m n h k e = e
same_rest spelt Kind cuts [] (y ∷ ys) l m n h k e = absurd (omega arith)
same_rest spelt Kind cuts (x ∷ xs) [] l m n h k e = absurd (omega arith)
same_rest spelt Kind cuts (x ∷ xs) (y ∷ ys) l m n h k e =
    let next = cuts x y (flat_map spelt xs ++ l) (flat_map spelt ys ++ m) h.0 k.0 (sym (behind_first spelt x xs l) ∙ e ∙ behind_first spelt y ys m) in
    same_rest spelt Kind cuts xs ys l m (omega arith) h.1 k.1 next

-- one more value stands behind fewer
pub next_of : {T X : Type 0} (spelt : T → List X) (Kind : T → Type 0) → Cuts spelt Kind → (xs ys : List T) (l m : List X) → length xs < length ys → AllByRecursion Kind xs → AllByRecursion Kind ys → flat_map spelt xs ++ l ≡ flat_map spelt ys ++ m → NoneIn spelt Kind l → ⊥
next_of spelt Kind cuts [] [] l m n h k e none = absurd (omega arith)
next_of spelt Kind cuts [] (y ∷ ys) l m n h k e none = none y (flat_map spelt ys ++ m) k.0 (e ∙ behind_first spelt y ys m)
next_of spelt Kind cuts (x ∷ xs) [] l m n h k e none = absurd (omega arith)
next_of spelt Kind cuts (x ∷ xs) (y ∷ ys) l m n h k e none =
    let next = cuts x y (flat_map spelt xs ++ l) (flat_map spelt ys ++ m) h.0 k.0 (sym (behind_first spelt x xs l) ∙ e ∙ behind_first spelt y ys m) in
    next_of spelt Kind cuts xs ys l m (omega arith) h.1 k.1 next none

-- ---- a list with its length in front

pub counted_cuts : {T : Type 0} (spelt : T → List Word) (Kind : T → Type 0) → Cuts spelt Kind → Cuts (counted spelt) (CountInRange Kind)
counted_cuts spelt Kind cuts xs ys l m h k e =
    let first : decimal (length xs) ≡ decimal (length ys) = cc in
    let rest : flat_map spelt xs ++ l ≡ flat_map spelt ys ++ m = cc in
    same_rest spelt Kind cuts xs ys l m (same_number (length xs) (length ys) h.0 k.0 first) h.1 k.1 rest

-- where a value is missing among so many, there is no such list
pub none_counted : {T : Type 0} (spelt : T → List Word) (Kind : T → Type 0) → Cuts spelt Kind → (xs : List T) (n : ℕ) (old behind now : List Word) → old ≡ decimal n ∷ behind → n < 2 ^ 64 → length xs < n → AllByRecursion Kind xs → behind ≡ flat_map spelt xs ++ now → NoneIn spelt Kind now → NoneIn (counted spelt) (CountInRange Kind) old
none_counted spelt Kind cuts xs n old behind now count small more h so_far none ys m k e =
    let first : decimal n ≡ decimal (length ys) = cc in
    let rest : flat_map spelt xs ++ now ≡ flat_map spelt ys ++ m = cc in
    let same : n ≡ length ys = same_number n (length ys) small k.0 first in
    next_of spelt Kind cuts xs ys now m (omega arith) h k.1 rest none

-- ---- one more value behind a list

pub all_more : {T : Type 0} (Kind : T → Type 0) (xs : List T) (x : T) → AllByRecursion Kind xs → Kind x → AllByRecursion Kind (xs ++ x ∷ [])
all_more Kind [] x h k = (k, tt)
all_more Kind (y ∷ ys) x h k = (h.0, all_more Kind ys x h.1 k)

pub so_far_more : {T X : Type 0} (spelt : T → List X) (xs : List T) (x : T) (behind now next : List X) → behind ≡ flat_map spelt xs ++ now → now ≡ spelt x ++ next → behind ≡ flat_map spelt (xs ++ x ∷ []) ++ next
so_far_more {T} {X} spelt xs x behind now next e f =
    e ∙ ap (λ (l : List X). flat_map spelt xs ++ l) f ∙ sym (append_assoc (flat_map spelt xs) (spelt x) next)
    ∙ ap (λ (l : List X). l ++ next) (ap (λ (l : List X). flat_map spelt xs ++ l) (sym (append-nil (spelt x))) ∙ sym (flat_map-append spelt xs (x ∷ [])))
