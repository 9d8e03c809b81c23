-- Chains of sections, turned round, joined, and over another list of the same sections.
use Rattle.std.proofs.Common.{◌≡◌, ℕ, ◌++◌, refl, sym, ◌∙◌, true, List, [], ◌∷◌}
use Rattle.fol_model.specs.declared.places.SectionPos.{SectionPos}
use Rattle.fol_model.specs.Geometry.{is_within, is_among}
use Rattle.fol_split.specs.Parts.{IsChain, IsJoined, IsPart}
use Rattle.fol_split.proofs.Places.{within-swap}

module _ (sections : List SectionPos) (merge : ℕ) where
  pub chain_more : (a : SectionPos) (ms : List SectionPos) (b t : SectionPos) → IsChain sections merge a ms b → is_among sections t ≡ true → is_within b merge t ≡ true
      → IsChain sections merge a (ms ++ t ∷ []) t
  chain_more a [] b t h i w = (i, rw h w, refl)
  chain_more a (m ∷ ms) b t h i w = (h.0, h.1, chain_more m ms b t h.2 i w)

  joins : (a : SectionPos) (ms : List SectionPos) (b : SectionPos) (ns : List SectionPos) (c : SectionPos) → IsChain sections merge a ms b → IsChain sections merge b ns c
      → IsChain sections merge a (ms ++ ns) c
  joins a [] b ns c p q = rw p q
  joins a (m ∷ ms) b ns c p q = (p.0, p.1, joins m ms b ns c p.2 q)

  pub joined_both : (a b c : SectionPos) → IsJoined sections merge a b → IsJoined sections merge b c → IsJoined sections merge a c
  joined_both a b c p q = (p.0 ++ q.0, joins a p.0 b q.0 c p.1 q.1)

  pub joined_back : (a : SectionPos) (ms : List SectionPos) (b : SectionPos) → is_among sections a ≡ true → IsChain sections merge a ms b → IsJoined sections merge b a
  joined_back a [] b i h = ([], sym h)
  joined_back a (m ∷ ms) b i h =
      let back = joined_back m ms b h.0 h.2 in
      (back.0 ++ a ∷ [], chain_more b back.0 m a back.1 i (within-swap m merge a ∙ h.1))

-- over another list of the same sections
module _ (xs ys : List SectionPos) (same : (s : SectionPos) → is_among xs s ≡ is_among ys s) (merge : ℕ) where
  pub chain_over : (a : SectionPos) (ms : List SectionPos) (b : SectionPos) → IsChain xs merge a ms b → IsChain ys merge a ms b
  chain_over a [] b h = h
  chain_over a (m ∷ ms) b h = (sym (same m) ∙ h.0, h.1, chain_over m ms b h.2)

pub part_over : (xs ys : List SectionPos) (same : (s : SectionPos) → is_among xs s ≡ is_among ys s) (merge : ℕ) (part : List SectionPos) → IsPart xs merge part → IsPart ys merge part
part_over xs ys same merge part h = record {
  some = h.some;
  in_order = h.in_order;
  whole = λ a b i.
      let w = h.whole a b i in (
        (λ j. let k = w.0 j in (sym (same b) ∙ k.0, (k.1.0, chain_over xs ys same merge a k.1.0 b k.1.1))),
        (λ j. w.1 (same b ∙ j.0, (j.1.0, chain_over ys xs (λ s. sym (same s)) merge a j.1.0 b j.1.1))),
      );
}
