-- Where the posts of a seat stand, as its history grows.
use Rattle.std.proofs.Common.{◌≡◌, ℕ, suc, ◌+◌, true, false, nat_eq, ◌&&◌, if◌then◌else◌, List, [], ◌∷◌, ◌++◌, length, sym, refl, ap, ◌∙◌, inl, inr, arith, append-nil, append_assoc}
use Rattle.std.specs.List.{AllByRecursion}
use Rattle.std.proofs.lemmas.Bool.{cases_eq, eq-eqb, ne_eqb}
use Rattle.fol_model.specs.declared.events.Entry.{Entry}
use Rattle.fol_model.specs.declared.events.Event.{Event}
use Rattle.fol_model.specs.declared.events.Event.TheVariants.{Begin}
use Rattle.fol_live.specs.Turns.{IsLate}
use Rattle.fol_seat_laws.specs.Signed.{is_start, own_of}
use Rattle.fol_inbox.specs.declared.letter.Letter.{Letter}
use Rattle.fol_inbox.specs.declared.letter.Receipt.{Receipt}
use Rattle.fol_inbox.specs.Letters.{post_of}
use Rattle.fol_inbox.specs.Receipts.{is_post, post_places}

places_append : (n p : ℕ) (xs ys : List Entry) → post_places n p (xs ++ ys) ≡ post_places n p xs ++ post_places n (p + length xs) ys
unfolding post_places
places_append n p [] ys = ap (λ q. post_places n q ys) (omega arith)
places_append n p (x ∷ xs) ys =
    let here : List ℕ = if nat_eq x.by n && is_post x.event then p ∷ [] else [] in
    ap (λ l. here ++ l) (places_append n (suc p) xs ys ∙ ap (λ q. post_places n (suc p) xs ++ post_places n q ys) (omega arith))
    ∙ sym (append_assoc here (post_places n (suc p) xs) (post_places n (p + suc (length xs)) ys))

-- where the seat recorded nothing
places_apart : (n p : ℕ) (es : List Entry) → own_of n es ≡ [] → post_places n p es ≡ []
unfolding post_places
places_apart n p [] none = refl
places_apart n p (e ∷ es) none = elim (cases_eq e.by n) [
  | inl own ↦
      let test : nat_eq e.by n ≡ true = eq-eqb e.by n own in
      let some : e ∷ own_of n es ≡ [] = rw test at none in absurd (cc)
  | inr other ↦
      let test : nat_eq e.by n ≡ false = ne_eqb e.by n other in
      let rest : own_of n es ≡ [] = rw test at none in
      rw test (places_apart n (suc p) es rest)
]

begin_no_post : (event : Event) → is_start event ≡ true → is_post event ≡ false
begin_no_post (Begin worker r) begins = refl
begin_no_post _ begins = absurd (cc)

-- where it recorded Begins that it learnt of
places_late : (n p : ℕ) (es : List Entry) → AllByRecursion (IsLate n) es → post_places n p es ≡ []
unfolding post_places
places_late n p [] late = refl
places_late n p (e ∷ es) late =
    let own : nat_eq e.by n ≡ true = eq-eqb e.by n late.0.own in
    let test : is_post e.event ≡ false = begin_no_post e.event late.0.begins in
    rw (own, test) (places_late n (suc p) es late.1)

-- where others recorded entries, and then it such Begins
places_none : (n p : ℕ) (between learnt : List Entry) → own_of n between ≡ [] → AllByRecursion (IsLate n) learnt → post_places n p (between ++ learnt) ≡ []
places_none n p between learnt none late =
    places_append n p between learnt
    ∙ ap (λ ps. ps ++ post_places n (p + length between) learnt) (places_apart n p between none)
    ∙ places_late n (p + length between) learnt late

places_one : (n p : ℕ) (l : Letter) (r : Receipt) → post_places n p (post_of n l r ∷ []) ≡ p ∷ []
unfolding post_places
places_one n p l r = let test : nat_eq n n ≡ true = eq-eqb n n refl in rw test refl

-- others recorded entries, and it Begins that it learnt of
pub places_same : (n : ℕ) (seen between learnt : List Entry) → own_of n between ≡ [] → AllByRecursion (IsLate n) learnt → post_places n 0 (seen ++ (between ++ learnt)) ≡ post_places n 0 seen
places_same n seen between learnt none late =
    places_append n 0 seen (between ++ learnt)
    ∙ ap (λ ps. post_places n 0 seen ++ ps) (places_none n (0 + length seen) between learnt none late)
    ∙ append-nil (post_places n 0 seen)

-- and then it posted
pub places_more : (n : ℕ) (seen between learnt : List Entry) (l : Letter) (r : Receipt) → own_of n between ≡ [] → AllByRecursion (IsLate n) learnt → r.entry ≡ length (seen ++ (between ++ learnt))
    → post_places n 0 ((seen ++ (between ++ learnt)) ++ post_of n l r ∷ []) ≡ post_places n 0 seen ++ r.entry ∷ []
places_more n seen between learnt l r none late at =
    let before : List Entry = seen ++ (between ++ learnt) in
    places_append n 0 before (post_of n l r ∷ [])
    ∙ ap (λ ps. post_places n 0 before ++ ps) (places_one n (0 + length before) l r)
    ∙ ap (λ ps. ps ++ (0 + length before) ∷ []) (places_same n seen between learnt none late)
    ∙ ap (λ p. post_places n 0 seen ++ p ∷ []) (omega (arith, at))
