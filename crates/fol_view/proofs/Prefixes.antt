-- Beginnings of one list, and fronts that rise.
use Rattle.std.proofs.Common.{◌≡◌, ℕ, zero, ◌≤◌, List, [], ◌∷◌, ◌++◌, length, All, refl, sym, subst, arith, append-nil}
use Rattle.std.proofs.lemmas.List.Elements.{All-nil, All-cons, All-head, All-tail, All-push, All-contains, Contains-append_right}
use mathlib.Core.List.{IsPrefix}
use Rattle.fol_lock.specs.Log.{StartsWith}
use Rattle.fol_view.specs.Publications.{Publication}
use Rattle.fol_model.specs.declared.places.SectionPos.{SectionPos}
use Rattle.fol_view.specs.Publications.{Rises, MayFollow}
use Rattle.fol_view.specs.Looks.{Answers, FrontsNeverFall}
use Rattle.fol_view.specs.declared.board.SeenOwner.{SeenOwner}

pub starts : {A : Type 0} (xs ys : List A) → IsPrefix xs ys → StartsWith ys xs
starts xs ys p = (p.0, sym p.1)

pub starts_self : {A : Type 0} (xs : List A) → StartsWith xs xs
starts_self xs = ([], sym (append-nil xs))

pub prefix_shorter : {A : Type 0} (xs ys zs : List A) → IsPrefix xs zs → IsPrefix ys zs → length xs ≤ length ys → IsPrefix xs ys
prefix_shorter [] ys zs p q le = (ys, refl)
prefix_shorter (x ∷ xs) [] zs p q le = absurd (omega arith)
prefix_shorter (x ∷ xs) (y ∷ ys) [] p q le = absurd (cc (p.1))
prefix_shorter (x ∷ xs) (y ∷ ys) (z ∷ zs) p q le =
    let heads : x ≡ y = cc (p.1, q.1) in
    let rest = prefix_shorter xs ys zs (p.0, cc (p.1)) (q.0, cc (q.1)) (omega arith) in
    (rest.0, cc (heads, rest.1))

pub prefix_whole : {A : Type 0} (xs ys : List A) → IsPrefix xs ys → length ys ≤ length xs → xs ≡ ys
prefix_whole [] [] p le = refl
prefix_whole [] (y ∷ ys) p le = absurd (omega arith)
prefix_whole (x ∷ xs) [] p le = absurd (cc (p.1))
prefix_whole (x ∷ xs) (y ∷ ys) p le =
    let rest = prefix_whole xs ys (p.0, cc (p.1)) (omega arith) in cc (p.1, rest)

pub rises_push : (xs : List Publication) (p : Publication) → Rises xs → MayFollow xs p → Rises (xs ++ p ∷ [])
rises_push [] p h a = (All-nil (λ (q : Publication). p.front ≤ q.front), tt)
rises_push (x ∷ xs) p h a = (
  All-push (λ (q : Publication). x.front ≤ q.front) xs p h.0 (All-head (λ (r : Publication). r.front ≤ p.front) x xs a),
  rises_push xs p h.1 (All-tail (λ (r : Publication). r.front ≤ p.front) x xs a),
)

-- the last front of a list is not below any other
last_front : (ps : List Publication) (p : Publication) → Rises (ps ++ p ∷ []) → All (λ (q : Publication). q.front ≤ p.front) (ps ++ p ∷ [])
last_front [] p h = All-cons (λ (q : Publication). q.front ≤ p.front) p [] (omega arith) (All-nil (λ (q : Publication). q.front ≤ p.front))
last_front (x ∷ xs) p h = All-cons (λ (q : Publication). q.front ≤ p.front) x (xs ++ p ∷ []) (All-contains (λ (q : Publication). x.front ≤ q.front) (xs ++ p ∷ []) p h.0 (Contains-append_right xs (p ∷ []) p (zero, omega arith, refl))) (last_front xs p h.1)

all_before : {X : Type 0} (P : X → Type 0) (xs ys : List X) → All P (xs ++ ys) → All P xs
all_before P [] ys h = All-nil P
all_before P (x ∷ xs) ys h = All-cons P x xs (All-head P x (xs ++ ys) h) (all_before P xs ys (All-tail P x (xs ++ ys) h))

pub fronts_below : FrontsNeverFall
fronts_below old new s a h =
    let P : Publication → Type 0 = λ p. p.front ≤ a.front in
    let top : All (λ (q : Publication). q.front ≤ h.publication.front) new = subst (λ (l : List Publication). All (λ (q : Publication). q.front ≤ h.publication.front) l) (sym h.last.1) (last_front h.last.0 h.publication (subst Rises h.last.1 h.rises)) in
    let all : All P new = subst (λ (n : ℕ). All (λ (p : Publication). p.front ≤ n) new) (sym h.is.front) top in
    (all_before P old h.goes_on.0 (subst (λ (l : List Publication). All P l) h.goes_on.1 all), all)
