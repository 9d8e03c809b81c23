-- What the words name, and what the shelf holds under these names.
use Rattle.std.proofs.Common.{◌≡◌, ℕ, ◌<◌, ◌≤◌, refl, sym, ap, ◌∙◌, List, [], ◌∷◌, ◌++◌, length, arith}
use Rattle.std.specs.Prelude.{Option, Some}
use Rattle.std.specs.List.{AllByRecursion, AllZip}
use Rattle.fol_io.specs.Shelf.{IsHeld}
use Rattle.fol_top.specs.Command.{Request, make, names_of, request_in}
use Rattle.fol_top.specs.Inputs.{AreHeld, Held, Inputs, IsShort, Overlong, ReadingEnds, size_limit}
use Rattle.fol_top.specs.Outcome.{Course, IsLong, TellsLong, Told}

-- ---- lists

pub at_middle : {X : Type 0} (P : X → Type 0) (before : List X) (x : X) (behind : List X) → AllByRecursion P (before ++ x ∷ behind) → P x
at_middle P [] x behind h = h.0
at_middle P (y ∷ ys) x behind h = at_middle P ys x behind h.1

pub not_empty : {X : Type 0} (before : List X) (x : X) (behind : List X) → [] ≡ before ++ x ∷ behind → ⊥
not_empty [] x behind e = cc
not_empty (y ∷ ys) x behind e = cc

-- of two places in one list, the second is not behind the first where none that stands before it is as the first is
module _ {X : Type 0} (P : X → Type 0) (x : X) (behind : List X) (y : X) (rest : List X) (not : P x → ⊥) where
  pub no_further : (a b : List X) → AllByRecursion P b → a ++ x ∷ behind ≡ b ++ y ∷ rest → (more : List X) × (a ++ x ∷ [] ≡ b ++ y ∷ more)
  no_further [] [] all e = let s : x ≡ y = cc in ([], ap (λ (z : X). z ∷ []) s)
  no_further [] (z ∷ b) all e = let s : z ≡ x = cc in absurd (not (rw s at all.0))
  no_further (z ∷ a) [] all e = let s : z ≡ y = cc in (a ++ x ∷ [], ap (λ (w : X). w ∷ (a ++ x ∷ [])) s)
  no_further (z ∷ a) (w ∷ b) all e =
      let s : z ≡ w = cc in
      let t : a ++ x ∷ behind ≡ b ++ y ∷ rest = cc in
      let r = no_further a b all.1 t in
      let u : a ++ x ∷ [] ≡ b ++ y ∷ r.0 = r.1 in
      (r.0, cc)

-- ---- what the words ask for is one thing

pub same_request : (words : List (List ℕ)) (p q : Request) → request_in words ≡ Some p → request_in words ≡ Some q → p ≡ q
same_request words p q a b = let e : Some p ≡ Some q = sym a ∙ b in cc

-- ---- what is held

pub held_is : (held : Option (List ℕ)) (bytes known : List ℕ) → IsHeld held bytes → held ≡ Some known → bytes ≡ known
held_is held bytes known h e = rw e at h

module _ (held : Held) where
  abbrev AreTold : List (List ℕ) → List (List ℕ) → Type 0
  AreTold names files = AllZip (λ name bytes. (held name ≡ Some bytes) × (length bytes ≤ size_limit)) names files

  same_files : (names files told : List (List ℕ)) → AreHeld held names files → AreTold names told → files ≡ told
  same_files [] [] [] a b = refl
  same_files [] (f ∷ fs) told a b = absurd a
  same_files [] [] (t ∷ ts) a b = absurd b
  same_files (n ∷ ns) [] told a b = absurd a
  same_files (n ∷ ns) (f ∷ fs) [] a b = absurd b
  same_files (n ∷ ns) (f ∷ fs) (t ∷ ts) a b =
      let e : f ≡ t = held_is (held n) f t a.0.0 b.0.0 in
      let r : fs ≡ ts = same_files ns fs ts a.1 b.1 in
      cc

  pub told_within : (names told : List (List ℕ)) → AreTold names told → AllByRecursion (λ (bytes : List ℕ). length bytes ≤ size_limit) told
  told_within [] [] b = tt
  told_within [] (t ∷ ts) b = absurd b
  told_within (n ∷ ns) [] b = absurd b
  told_within (n ∷ ns) (t ∷ ts) b = (b.0.1, told_within ns ts b.1)

  held_at : (before : List (List ℕ)) (name : List ℕ) (behind files : List (List ℕ)) → AreHeld held (before ++ name ∷ behind) files → IsShort (held name)
  held_at [] name behind [] h = absurd h
  held_at [] name behind (f ∷ fs) h = (f, h.0.0, h.0.1)
  held_at (n ∷ ns) name behind [] h = absurd h
  held_at (n ∷ ns) name behind (f ∷ fs) h = held_at ns name behind fs h.1

  told_at : (before : List (List ℕ)) (name : List ℕ) (behind files : List (List ℕ)) → AreTold (before ++ name ∷ behind) files
      → (bytes : List ℕ) × (held name ≡ Some bytes) × (length bytes ≤ size_limit)
  told_at [] name behind [] h = absurd h
  told_at [] name behind (f ∷ fs) h = (f, h.0.0, h.0.1)
  told_at (n ∷ ns) name behind [] h = absurd h
  told_at (n ∷ ns) name behind (f ∷ fs) h = told_at ns name behind fs h.1

  long_is_not_short : (name : List ℕ) → IsLong (held name) → IsShort (held name) → ⊥
  long_is_not_short name long short =
      let e : short.0 ≡ long.0 = held_is (held name) short.0 long.0 short.1 long.1 in
      let l : size_limit < length short.0 = rw e long.2 in
      omega (arith, short.2)

module _ (v : Course) (files : List (List ℕ)) (told : Told v files) where
  pub inputs_same : (others : List (List ℕ)) → Inputs v.words v.held others → others ≡ files
  inputs_same others i =
      let e : i.request ≡ told.request = same_request v.words i.request told.request i.command told.command in
      same_files v.held (names_of told.request) others files (rw e at i.are_held) told.held

  pub not_overlong : Overlong v.words v.held v.taken v.taken_later v.reads v.reads_later → ⊥
  not_overlong f =
      let e : f.request ≡ told.request = same_request v.words f.request told.request f.command told.command in
      let order : names_of told.request ≡ f.ends.before ++ f.ends.name ∷ f.ends.behind = rw e at f.ends.order in
      let at = told_at v.held f.ends.before f.ends.name f.ends.behind files (rw order at told.held) in
      let long : size_limit < length at.0 = rw at.1 at f.ends.ends in
      omega (arith, at.2)

-- ---- a request for no file

module _ (v : Course) (clusters : ℕ) (command : request_in v.words ≡ Some (make clusters)) where
  pub make_has_no_inputs : (file : List ℕ) (files : List (List ℕ)) → Inputs v.words v.held (file ∷ files) → ⊥
  make_has_no_inputs file files i =
      let e : i.request ≡ make clusters = same_request v.words i.request (make clusters) i.command command in
      let h : AreHeld v.held (names_of (make clusters)) (file ∷ files) = rw e at i.are_held in
      h

  pub make_tells_no_files : (file : List ℕ) (files : List (List ℕ)) → Told v (file ∷ files) → ⊥
  make_tells_no_files file files t =
      let e : t.request ≡ make clusters = same_request v.words t.request (make clusters) t.command command in
      let h : AreTold v.held (names_of (make clusters)) (file ∷ files) = rw e at t.held in
      h

  pub make_reads_no_files : (request : Request) (Ends : List ℕ → Type 0) → request_in v.words ≡ Some request → ReadingEnds v.held v.reads v.reads_later (names_of request) Ends → ⊥
  make_reads_no_files request Ends same r =
      let e : request ≡ make clusters = same_request v.words request (make clusters) same command in
      not_empty r.before r.name r.behind (rw e at r.order)

-- ---- a file that is too long

module _ (v : Course) (tells : TellsLong v) where
  pub long_is_not_read : (files : List (List ℕ)) → Inputs v.words v.held files → ⊥
  long_is_not_read files i =
      let e : i.request ≡ tells.request = same_request v.words i.request tells.request i.command tells.command in
      let h : AreHeld v.held (tells.before ++ tells.name ∷ tells.behind) files = rw (e, tells.order) at i.are_held in
      long_is_not_short v.held tells.name tells.long (held_at v.held tells.before tells.name tells.behind files h)

  pub make_is_not_long : (clusters : ℕ) → request_in v.words ≡ Some (make clusters) → ⊥
  make_is_not_long clusters command =
      let e : tells.request ≡ make clusters = same_request v.words tells.request (make clusters) tells.command command in
      not_empty tells.before tells.name tells.behind (rw e at tells.order)

  pub ends_no_further : (request : Request) (Ends : List ℕ → Type 0) → request_in v.words ≡ Some request → ReadingEnds v.held v.reads v.reads_later (names_of request) Ends
      → ReadingEnds v.held v.reads v.reads_later (tells.before ++ tells.name ∷ []) Ends
  ends_no_further request Ends same r =
      let e : tells.request ≡ request = same_request v.words tells.request request tells.command same in
      let order : tells.before ++ tells.name ∷ tells.behind ≡ r.before ++ r.name ∷ r.behind = sym tells.order ∙ (ap names_of e ∙ r.order) in
      let cut = no_further (λ n. IsShort (v.held n)) tells.name tells.behind r.name r.behind (long_is_not_short v.held tells.name tells.long) tells.before r.before r.short order in
      record { before = r.before; name = r.name; behind = cut.0; order = cut.1; short = r.short; ends = r.ends; counted = r.counted }
