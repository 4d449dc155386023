-- One face more is opened, behind a border of those that are: what becomes of the borders. Of every sound chart. Assumes nothing.
use Rattle.std.specs.Prelude.{◌≡◌, refl, ◌⊎◌, Bool, true, false, not, ◌&&◌, List, ◌++◌, map, ℕ, ◌<◌, eqb, ℤ, neg_ℤ}
use Rattle.std.proofs.Common.{sym, ◌∙◌, inl, inr, arith}
use Rattle.std.proofs.Math.Path.{subst, ap}
use Rattle.std.proofs.lemmas.Bool.{false≢true}
use borrow.Author.Tests.{eq-eqb, ne_eqb, eqb-false, not-true}
use Rattle.whole.specs.Bools.{and-true}
use Rattle.faceset.specs.Set.{one}
use Rattle.geometry.specs.declared.Place.{Place}
use Rattle.geometry.specs.Plane.{circle}
use Rattle.geometry.specs.Laws.{circle-turn}
use Rattle.chart.specs.Chart.{Chart, partner, partner-twice, partner-in, from_of, to_of, outer}
use Rattle.sound.specs.Sound.{Sound, Inner}
use Rattle.flips.specs.Search.{Found, in_circle, should_flip}
use Rattle.cavity.specs.Edge.{same-face}
use Rattle.signs.specs.Signs.{Pos}
use Rattle.signs.specs.Order.{test-pos, pos-test}
use Rattle.nearby.specs.Chart as Ch
use Rattle.nearby.specs.Windows as Wn

-- x is a border of the faces o: its face is one of them and its partner's is not
abbrev pub border : Chart → (ℕ → Bool) → ℕ → Bool
border c o x = o (c.face x) && not (o (c.face (partner x)))

-- the listed edges, then the partners of those that wait
abbrev pub ring_of : List ℕ → Found → List ℕ
ring_of s w = w.listed ++ map partner s

-- ---- tests
pub border-yes : (a b : Bool) → a ≡ true → b ≡ false → (a && not b) ≡ true
border-yes true false e f = refl
border-yes true true e f = absurd (false≢true (sym f))
border-yes false b e f = absurd (false≢true e)

pub left-off : (a b : Bool) → a ≡ false → (a && not b) ≡ false
left-off true b e = absurd (false≢true (sym e))
left-off false b e = refl

pub right-off : (a b : Bool) → b ≡ true → (a && not b) ≡ false
right-off true true e = refl
right-off true false e = absurd (false≢true e)
right-off false b e = refl

pub one-true : (b : Bool) → 0 < one b → b ≡ true
one-true true h = refl
one-true false h = absurd (omega arith)

pub one_of : (x y : ℕ) → x ≡ y → one (eqb x y) ≡ 1
one_of x y e = ap one (eq-eqb x y e)

pub zero_of : (x y : ℕ) → (x ≡ y → ⊥) → one (eqb x y) ≡ 0
zero_of x y e = ap one (ne_eqb x y e)

module _ (c : Chart) (snd : Sound c) (q : Place) where
  abbrev sd : ℕ → ℤ
  sd = Wn.sd c snd q

  abbrev circ : ℕ → ℤ
  circ = Wn.circ c snd q

  -- ---- the circle as the search tests it
  circ-is : (h : ℕ) → h < c.half_edges → circle (from_of c (c.prev h)) (from_of c h) (to_of c h) q ≡ circ h
  circ-is h l =
      circle-turn (from_of c (c.prev h)) (from_of c h) (to_of c h) q
      ∙ ap (λ (v : ℕ). circle (from_of c h) (c.place v) (from_of c (c.prev h)) q) (sym (snd.next_start h l))

  pub flip-circ : (h : ℕ) → h < c.half_edges → in_circle c q h ≡ true → Pos (circ h)
  unfolding in_circle
  flip-circ h l e = subst Pos (circ-is h l) (test-pos e)

  pub circ-flip : (h : ℕ) → h < c.half_edges → Pos (circ h) → in_circle c q h ≡ true
  unfolding in_circle
  circ-flip h l p = pos-test (subst Pos (sym (circ-is h l)) p)

  pub circ-face : (h x : ℕ) → Inner c h → x < c.half_edges → c.face x ≡ c.face h → circ x ≡ circ h
  circ-face h x i m e = pick (same-face c snd h x i (m, λ z. i.1 (sym e ∙ z)) e)
    where
      pick : (x ≡ h) ⊎ ((x ≡ c.next h) ⊎ (x ≡ c.prev h)) → circ x ≡ circ h
      pick (inl u) = ap circ u
      pick (inr (inl u)) = ap circ u ∙ Wn.circ-next c snd q h i.0 i.1
      pick (inr (inr u)) = ap circ u ∙ Wn.circ-prev c snd q h i.0 i.1

  -- what the test says of h, and what says it
  pub flip-parts : (o : ℕ → Bool) (h : ℕ) → h < c.half_edges → should_flip c q o h ≡ true → Inner c h × (o (c.face h) ≡ false) × Pos (circ h)
  unfolding should_flip
  flip-parts o h l y =
      let u = and-true (not (outer c h)) (not (o (c.face h)) && in_circle c q h) y in
      let v = and-true (not (o (c.face h))) (in_circle c q h) u.1 in
      ((l, eqb-false (c.face h) 0 (not-true (outer c h) u.0)), not-true (o (c.face h)) v.0, flip-circ h l v.1)

  pub parts-flip : (o : ℕ → Bool) (h : ℕ) → Inner c h → o (c.face h) ≡ false → Pos (circ h) → should_flip c q o h ≡ true
  unfolding should_flip
  parts-flip o h i n p = simp (ne_eqb (c.face h) 0 i.1, n, circ-flip h i.0 p)

  -- the side from the partner
  pub side-back : (e : ℕ) → e < c.half_edges → sd e ≡ neg_ℤ (sd (partner e))
  side-back e l = ap sd (sym (partner-twice e)) ∙ Ch.twin-side c snd (partner e) q (partner-in snd.range e l)
