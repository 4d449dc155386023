-- A ray from a place that is strictly left of no outer half-edge crosses the rim once at most, downwards; so the faces that it counts are one. Assumes nothing.
use Rattle.std.specs.Prelude.{◌≡◌, ◌⊎◌, Bool, true, false, ◌&&◌, [], ◌∷◌, ℕ, ◌<◌, eqb, ℤ, pos, ◌+ℤ◌, ◌-ℤ◌}
use Rattle.std.proofs.Common.{sym, ap, ◌∙◌, inl, inr}
use Rattle.std.proofs.Math.Path.{subst}
use Rattle.std.proofs.Math.Decide.{ℕ_discrete}
use Rattle.std.proofs.Math.IntN.{+ℤ_comm}
use borrow.Author.Tests.{eq-eqb, ne_eqb, eqb-true}
use Rattle.whole.specs.Poly.{var, con, ◌⊕◌, ◌⊖◌, env, agree, solve! }
use Rattle.whole.specs.Bools.{and-true, and_left}
use Rattle.whole.specs.First.{some_or_none}
use Rattle.signs.specs.Signs.{S, sg, up, dn, ze, lo, hi, fail, ◌⇒◌, ◌&◌, ev, Is, Pos, Neg, Low, High, fire, left, right, both, never, failed, holds, refuted, test3, every3, eq-zero, zero-eq}
use Rattle.signs.specs.Order.{zero_high, pos-high, pos-zero, add-high, add-pos, one-pos}
use Rattle.signs.specs.Sum.{sum, sum-ext, sum-zero, sum-only, only, four-ones}
use Rattle.geometry.specs.declared.Place.{Place}
use Rattle.cells.specs.Points.{ray}
use Rattle.cells.specs.Rays.{kap}
use Rattle.chart.specs.Chart.{Chart}
use Rattle.sound.specs.Sound.{Sound}
use Rattle.nearby.specs.Chart as Ch
use Rattle.nearby.specs.Line.{Differ, at_most_one}
use Rattle.nearby.specs.Tally as T

-- a step from the right or along the line crosses down at most; and only where it goes down
no_step : (a b s : S) → Is (lo s ⇒ (up a & dn b ⇒ fail) ⇒ ze (sg (kap a b s)))
unfolding test3 kap sg
no_step = every3 (λ a b s. lo s ⇒ (up a & dn b ⇒ fail) ⇒ ze (sg (kap a b s))) tt

least_step : (a b s : S) → Is (lo s ⇒ hi (sg (pos 1 +ℤ kap a b s)))
unfolding test3 kap sg
least_step = every3 (λ a b s. lo s ⇒ hi (sg (pos 1 +ℤ kap a b s))) tt

-- three times a number that is 1 at most, and four ones in it
too_many : (o i x : ℤ) → o +ℤ i ≡ pos 0 → High (pos 1 +ℤ o) → i +ℤ i +ℤ i ≡ pos 1 +ℤ (pos 1 +ℤ (pos 1 +ℤ (pos 1 +ℤ x))) → High x → ⊥
unfolding agree
too_many o i x b h e p =
    let f : (pos 1 +ℤ o) +ℤ ((pos 1 +ℤ o) +ℤ (pos 1 +ℤ o)) +ℤ (pos 1 +ℤ x) ≡ pos 0 =
    solve! (env (o ∷ i ∷ x ∷ [])) (con (pos 1) ⊕ var 0 ⊕ (con (pos 1) ⊕ var 0 ⊕ (con (pos 1) ⊕ var 0)) ⊕ (con (pos 1) ⊕ var 2))
    ((var 0 ⊕ var 1) ⊕ ((var 0 ⊕ var 1) ⊕ (var 0 ⊕ var 1)) ⊕ ((con (pos 1) ⊕ (con (pos 1) ⊕ (con (pos 1) ⊕ (con (pos 1) ⊕ var 2)))) ⊖ (var 1 ⊕ var 1 ⊕ var 1))) tt
    ∙ ap (λ (u : ℤ). u +ℤ (u +ℤ u) +ℤ ((pos 1 +ℤ (pos 1 +ℤ (pos 1 +ℤ (pos 1 +ℤ x)))) -ℤ (i +ℤ i +ℤ i))) b
    ∙ ap (λ (u : ℤ). pos 0 +ℤ (pos 0 +ℤ pos 0) +ℤ ((pos 1 +ℤ (pos 1 +ℤ (pos 1 +ℤ (pos 1 +ℤ x)))) -ℤ u)) e
    ∙ solve! (env (x ∷ [])) (con (pos 0) ⊕ (con (pos 0) ⊕ con (pos 0)) ⊕ ((con (pos 1) ⊕ (con (pos 1) ⊕ (con (pos 1) ⊕ (con (pos 1) ⊕ var 0)))) ⊖ (con (pos 1) ⊕ (con (pos 1) ⊕ (con (pos 1) ⊕ (con (pos 1) ⊕ var 0)))))) (con (pos 0)) tt in
    let g : High ((pos 1 +ℤ o) +ℤ ((pos 1 +ℤ o) +ℤ (pos 1 +ℤ o))) = add-high h (add-high h h) in
    pos-zero (add-pos (add-pos one-pos p) g) (eq-zero (+ℤ_comm (pos 1 +ℤ x) ((pos 1 +ℤ o) +ℤ ((pos 1 +ℤ o) +ℤ (pos 1 +ℤ o))) ∙ f))

module _ (c : Chart) (snd : Sound c) (q ρ : Place) (dif : Differ c snd q ρ) (low : (h : ℕ) → h < c.half_edges → c.face h ≡ 0 → Low (Ch.sd c snd h q)) where
  abbrev al : ℕ → ℤ
  al h = ray ρ q (c.place (c.origin h))

  abbrev sd : ℕ → ℤ
  sd h = Ch.sd c snd h q

  abbrev outs : ℕ → ℤ
  outs = T.outs c snd q ρ

  abbrev tri : ℕ → ℤ
  tri = T.tri c snd q ρ

  -- ---- an outer half-edge that goes down
  pub record Down (h : ℕ) : Type 0 where
    pub there : h < c.half_edges
    pub outer : c.face h ≡ 0
    pub from_up : Pos (al h)
    pub to-down : Neg (al (c.next h))

  down_b : ℕ → Bool
  down_b h = eqb (c.face h) 0 && ev (up (sg (al h)) & dn (sg (al (c.next h))))

  down-of : (h : ℕ) → h < c.half_edges → down_b h ≡ true → Down h
  unfolding down_b
  down-of h l e =
      let b = and-true (eqb (c.face h) 0) (ev (up (sg (al h)) & dn (sg (al (c.next h))))) e in
      let t = holds (up (sg (al h)) & dn (sg (al (c.next h)))) b.1 in
      record { there = l; outer = eqb-true (c.face h) 0 b.0; from_up = record { is = left t }; to-down = record { is = right t } }

  not-down : (h : ℕ) → down_b h ≡ false → Down h → ⊥
  unfolding down_b
  not-down h e d =
      never
      (fire (refuted (up (sg (al h)) & dn (sg (al (c.next h)))) (and_left (eqb (c.face h) 0) (ev (up (sg (al h)) & dn (sg (al (c.next h))))) e (eq-eqb (c.face h) 0 d.outer)))
      (both d.from_up.is d.to-down.is))

  pub down-or-none : ((h : ℕ) × Down h) ⊎ ((h : ℕ) → Down h → ⊥)
  down-or-none = pick (some_or_none down_b c.half_edges)
    where
      pick : ((i : ℕ) × (i < c.half_edges) × (down_b i ≡ true)) ⊎ ((i : ℕ) → i < c.half_edges → down_b i ≡ false) → ((h : ℕ) × Down h) ⊎ ((h : ℕ) → Down h → ⊥)
      pick (inl r) = inl (r.0, down-of r.0 r.1 r.2)
      pick (inr n) = inr (λ h d. not-down h (n h d.there) d)

  -- ---- what the rim adds
  pub outs-out : (h : ℕ) → c.face h ≡ 0 → outs h ≡ T.cr c snd q ρ h
  unfolding T.outs
  outs-out h e = rw (eq-eqb (c.face h) 0 e)

  outs-in : (h : ℕ) → (c.face h ≡ 0 → ⊥) → outs h ≡ pos 0
  unfolding T.outs
  outs-in h e = rw (ne_eqb (c.face h) 0 e)

  outs-other : (h : ℕ) → h < c.half_edges → (Down h → ⊥) → outs h ≡ pos 0
  unfolding T.cr
  outs-other h l n = pick (ℕ_discrete (c.face h) 0)
    where
      still : c.face h ≡ 0 → Is (up (sg (al h)) & dn (sg (al (c.next h)))) → ⊥
      still e p = n (record { there = l; outer = e; from_up = record { is = left p }; to-down = record { is = right p } })

      pick : Dec (c.face h ≡ 0) → outs h ≡ pos 0
      pick (no e) = outs-in h e
      pick (yes e) =
          outs-out h e ∙ zero-eq (record { is = fire (fire (no_step (sg (al h)) (sg (al (c.next h))) (sg (sd h))) (low h l e).is) (failed (still e)) })

  outs-least : (h : ℕ) → h < c.half_edges → c.face h ≡ 0 → High (pos 1 +ℤ outs h)
  unfolding T.cr
  outs-least h l e =
      subst (λ (x : ℤ). High (pos 1 +ℤ x)) (sym (outs-out h e)) (record { is = fire (least_step (sg (al h)) (sg (al (c.next h))) (sg (sd h))) (low h l e).is })

  -- all of it at the one that goes down
  pub outs-at : (k : ℕ) → Down k → sum outs c.half_edges ≡ outs k
  outs-at k d =
      sum-ext outs (only k (outs k)) c.half_edges (λ h l. same h l (ℕ_discrete h k)) ∙ sum-only k (outs k) c.half_edges d.there
    where
      same : (h : ℕ) → h < c.half_edges → Dec (h ≡ k) → outs h ≡ only k (outs k) h
      same h l (yes e) = rw (eq-eqb h k e) (ap outs e)
      same h l (no e) =
          rw (ne_eqb h k e)
          (outs-other h l (λ w. e (at_most_one c snd q ρ dif h k l d.there w.outer d.outer w.from_up w.to-down d.from_up d.to-down)))

  rim-once : High (pos 1 +ℤ sum outs c.half_edges)
  rim-once = pick down-or-none
    where
      pick : ((h : ℕ) × Down h) ⊎ ((h : ℕ) → Down h → ⊥) → High (pos 1 +ℤ sum outs c.half_edges)
      pick (inl r) = subst (λ (x : ℤ). High (pos 1 +ℤ x)) (sym (outs-at r.0 r.1)) (outs-least r.0 r.1.there r.1.outer)
      pick (inr n) =
          subst (λ (x : ℤ). High (pos 1 +ℤ x))
          (sym (sum-ext outs (λ h. pos 0) c.half_edges (λ h l. outs-other h l (n h)) ∙ sum-zero c.half_edges))
          (pos-high one-pos)

  -- ---- so of the faces only one adds 1
  module _ (adds : (h : ℕ) → h < c.half_edges → (c.face h ≡ 0 → ⊥) → T.Adds c snd q ρ h) where
    pub tri-high : (h : ℕ) → h < c.half_edges → High (tri h)
    tri-high h l = pick (ℕ_discrete (c.face h) 0)
      where
        pick : Dec (c.face h ≡ 0) → High (tri h)
        pick (yes e) = zero_high (eq-zero (T.tri-out c snd q ρ h e))
        pick (no i) = (adds h l i).least

    pub unique : (i k : ℕ) → i < c.half_edges → k < c.half_edges → (c.face i ≡ 0 → ⊥) → (c.face k ≡ 0 → ⊥) → Pos (tri i) → Pos (tri k) → (k ≡ i) ⊎ ((k ≡ c.next i) ⊎ (k ≡ c.prev i))
    unique i k il kl ii ki pi pk = pick (ℕ_discrete k i) (ℕ_discrete k (c.next i)) (ℕ_discrete k (c.prev i))
      where
        one : tri i ≡ pos 1
        one = (adds i il ii).most pi

        pick : Dec (k ≡ i) → Dec (k ≡ c.next i) → Dec (k ≡ c.prev i) → (k ≡ i) ⊎ ((k ≡ c.next i) ⊎ (k ≡ c.prev i))
        pick (yes e) y z = inl e
        pick (no e) (yes y) z = inr (inl y)
        pick (no e) (no y) (yes z) = inr (inr z)
        pick (no e) (no y) (no z) =
            let r = four-ones tri c.half_edges i (c.next i) (c.prev i) k tri-high il (snd.range.nexts i il) (snd.range.prevs i il) kl
            (snd.next-differs i il) (snd.prev-differs i il) (λ w. snd.next-prev-differ i (il, ii) (sym w)) e y z
            one (T.tri-next c snd q ρ i il ii ∙ one) (T.tri-prev c snd q ρ i il ii ∙ one) ((adds k kl ki).most pk) in
            absurd (too_many (sum outs c.half_edges) (sum (T.ins c snd q ρ) c.half_edges) r.0 (T.balanced c snd q ρ) rim-once (sym (T.tri-sum c snd q ρ) ∙ r.1) r.2)
