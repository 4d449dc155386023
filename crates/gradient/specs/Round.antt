-- The turn about a vertex of a sound chart: it is back at its start within as many steps as there are half-edges, so its bound is never what stops
-- it, and every half-edge that it meets starts at the vertex. Assumes nothing.
use Rattle.std.specs.Prelude.{◌≡◌, Bool, true, false, cond, List, [], ◌∷◌, eqb}
use Rattle.std.proofs.Common.{sym, ap, subst, ◌∙◌, add-zero, arith}
use Prim.Native.Nat.{ℕ, zero, suc, ◌+◌, ◌-◌, ◌≤◌, ◌<◌}
use Rattle.whole.specs.Orbit.{after, Back, comes_back}
use Rattle.chart.specs.Chart.{Chart, partner, partner-twice}
use Rattle.sound.specs.Sound.{Sound}
use Rattle.gradient.specs.Turn.{ccw, turn, other_out_edges, turn-back, turn_on, ccw-in}

-- n numbers, from h on by f
abbrev pub stretch : (ℕ → ℕ) → ℕ → ℕ → List ℕ
stretch f zero h = []
stretch f (suc n) h = h ∷ stretch f n (f h)

-- of each number of a list
abbrev pub Each : (ℕ → Type 0) → List ℕ → Type 0
Each P [] = Unit {0}
Each P (h ∷ hs) = P h × Each P hs

pub record Round (c : Chart) (v : ℕ) : Type 0 where
  -- counterclockwise steps from the out half-edge: at most as many as there are half-edges, then it is met for the first time again
  pub turned : Back (ccw c) c.half_edges (c.out v)
  -- any larger bound lists the same: one half-edge for each step
  pub all : (n : ℕ) → c.half_edges - 1 ≤ n → turn c (c.out v) n (ccw c (c.out v)) ≡ stretch (ccw c) (turned.steps - 1) (ccw c (c.out v))
  -- all of them start at v
  pub starts : Each (λ h. c.origin h ≡ v) (c.out v ∷ other_out_edges c v)

module _ (c : Chart) (a : Sound c) where
  -- partner and prev are one-to-one
  ccw-one : (i j : ℕ) → i < c.half_edges → j < c.half_edges → ccw c i ≡ ccw c j → i ≡ j
  ccw-one i j l m e =
      let p : c.prev i ≡ c.prev j = sym (partner-twice (c.prev i)) ∙ ap partner e ∙ partner-twice (c.prev j) in
      sym (a.next-prev i l) ∙ ap c.next p ∙ a.next-prev j m

  -- the next half-edge counterclockwise starts where this one does
  pub ccw-starts : (h : ℕ) → h < c.half_edges → c.origin (ccw c h) ≡ c.origin h
  ccw-starts h l = sym (a.next_start (c.prev h) (a.range.prevs h l)) ∙ ap c.origin (a.next-prev h l)

  -- ---- what the turn lists
  either : (P : ℕ → Type 0) (b : Bool) (hs : List ℕ) → Each P hs → Each P (cond b [] hs)
  either P true hs e = tt
  either P false hs e = e

  turn-starts : (v s n h : ℕ) → h < c.half_edges → c.origin h ≡ v → Each (λ k. c.origin k ≡ v) (turn c s n h)
  unfolding turn
  turn-starts v s zero h l e = tt
  turn-starts v s (suc n) h l e =
      either (λ k. c.origin k ≡ v) (eqb h s) (h ∷ turn c s n (ccw c h)) (e, turn-starts v s n (ccw c h) (ccw-in a.range h l) (ccw-starts h l ∙ e))

  -- after k steps, m before it is back
  listed : (s : ℕ) (b : Back (ccw c) c.half_edges s) (m k n : ℕ) → 0 < k → k + m ≡ b.steps → m ≤ n → turn c s n (after (ccw c) k s) ≡ stretch (ccw c) m (after (ccw c) k s)
  listed s b zero k n z e i = turn-back c s n _ (subst (λ (j : ℕ). after (ccw c) j s ≡ s) (sym e ∙ add-zero k) b.back)
  listed s b (suc m) k n z e i =
      turn_on c s n _ (b.not-before k z (omega arith)) (omega arith)
      ∙ ap (λ (t : List ℕ). after (ccw c) k s ∷ t) (listed s b m (suc k) (n - 1) (omega arith) (omega arith) (omega arith))

  -- ---- the theorem
  pub round : (v : ℕ) → v < c.vertices → Round c v
  round v l =
      let s = c.out v in
      let m = a.range.outs v l in
      let e = a.out-start v l in
      let b = comes_back (ccw c) c.half_edges (ccw-in a.range) ccw-one s m in
      let z = b.some-step in
      let w = b.within in
      record {
        turned = b;
        all = λ n i. listed s b (b.steps - 1) 1 n (omega arith) (omega arith) (omega arith);
        starts = (e, turn-starts v s (c.half_edges - 1) (ccw c s) (ccw-in a.range s m) (ccw-starts s m ∙ e));
      }
