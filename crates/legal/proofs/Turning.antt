-- The tests of a wanted flip in the code's order, and the loop of flips over tables that hold a chart and no more. Assumes nothing.
use Rattle.std.specs.Prelude.{◌≡◌, Bool, false, true, List, length, ℕ, ◌-◌, ◌/◌, ◌≤◌, ◌<◌, ℤ, pos}
use Rattle.std.proofs.Common.{sym, subst, ap, ◌∙◌, eq-eqb, ne_eqb, le-ltb}
use Rattle.std.specs.Int.Signed.{lt_z}
use Rattle.whole.specs.Bools.{is_false}
use Rattle.whole.specs.First.{first, first_found, none-at}
use Rattle.geometry.specs.declared.Place.{Place}
use Rattle.geometry.specs.Plane.{circle}
use Rattle.chart.specs.Tables.{rows}
use Rattle.chart.specs.Chart.{Chart, chart_of, partner, from_of, to_of}
use Rattle.patches.specs.Flip.{flipped}
use Rattle.rewire.specs.Tables.{KeepsOuts}
use Rattle.legal.specs.Legal.{wants_flip, Reached, degree, Legal}
use Rattle.legal.proofs.Legal.{wanted, none-wanted, flip-reached, flip-less}

-- ---- where the loop ends, and where it goes on
pub ended : (s c : Chart) (n h : ℕ) → Reached s n c → h ≡ first (wants_flip c n) c.half_edges → c.half_edges ≤ h → Legal s n c
ended s c n h r e l =
    record { reached = r; settled = none-wanted c n (none-at (wants_flip c n) c.half_edges (le-ltb (first (wants_flip c n) c.half_edges) c.half_edges (subst (λ (k : ℕ). c.half_edges ≤ k) e l))) }

pub found : (c : Chart) (n h : ℕ) → h ≡ first (wants_flip c n) c.half_edges → h < c.half_edges → wants_flip c n h ≡ true
found c n h e l = subst (λ (k : ℕ). wants_flip c n k ≡ true) (sym e) (first_found (wants_flip c n) c.half_edges (subst (λ (k : ℕ). k < c.half_edges) e l))

-- ---- the tests in the code's order
pub wants-outer : (c : Chart) (n h f : ℕ) → f ≡ c.face h → f ≡ 0 → false ≡ wants_flip c n h
wants-outer c n h f p e = sym (is_false (wants_flip c n h) (λ t. (wanted c n h t).inner (sym p ∙ e)))

pub wants-other : (c : Chart) (n h o p : ℕ) → p ≡ c.prev h → o ≡ c.origin p → (o ≡ n → ⊥) → false ≡ wants_flip c n h
wants-other c n h o p pp po e = sym (is_false (wants_flip c n h) (λ t. e (po ∙ ap c.origin pp ∙ (wanted c n h t).across)))

pub wants-rim : (c : Chart) (n h t f : ℕ) → t ≡ partner h → f ≡ c.face t → f ≡ 0 → false ≡ wants_flip c n h
wants-rim c n h t f pt pf e = sym (is_false (wants_flip c n h) (λ w. (wanted c n h w).beyond (ap c.face (sym pt) ∙ sym pf ∙ e)))

pub wants-last : (c : Chart) (n h t f g o p u : ℕ) (a b d q : Place) (r : Bool) → f ≡ c.face h → (f ≡ 0 → ⊥) → p ≡ c.prev h → o ≡ c.origin p → o ≡ n → t ≡ partner h → g ≡ c.face t → (g ≡ 0 → ⊥)
    → b ≡ to_of c h → a ≡ from_of c h → u ≡ c.prev t → d ≡ c.place (c.origin u) → q ≡ c.place n → r ≡ lt_z (pos 0) (circle b a d q) → r ≡ wants_flip c n h
unfolding wants_flip
wants-last c n h t f g o p u a b d q r pf nf pp po on pt pg ng pb pa pu pd pq pr =
    let x : d ≡ c.place (c.origin (c.prev (partner h))) = pd ∙ ap (λ (k : ℕ). c.place (c.origin k)) (pu ∙ ap c.prev pt) in
    let y : lt_z (pos 0) (circle b a d q) ≡ lt_z (pos 0) (circle (to_of c h) (from_of c h) (c.place (c.origin (c.prev (partner h)))) (c.place n)) = λ i. lt_z (pos 0) (circle (pb i) (pa i) (x i) (pq i)) in
    pr ∙ y
    ∙ sym (simp (
      ne_eqb (c.face h) 0 (λ z. nf (pf ∙ z)),
      eq-eqb (c.origin (c.prev h)) n (ap c.origin (sym pp) ∙ sym po ∙ on),
      ne_eqb (c.face (partner h)) 0 (λ z. ng (pg ∙ ap c.face pt ∙ z)),
    ))

-- ---- the loop over tables
pub record Turning (vs₀ : List ℤ) (es₀ fs₀ : List ℕ) (vs : List ℤ) (es fs : List ℕ) (n h : ℕ) : Type 0 where
  pub reached : Reached (chart_of vs₀ es₀ fs₀) n (chart_of vs es fs)
  pub next : h ≡ first (wants_flip (chart_of vs es fs) n) (rows es)
  pub v-long : length vs ≡ length vs₀
  pub e-long : length es ≡ length es₀
  pub f-long : length fs ≡ length fs₀
  pub outed : KeepsOuts vs₀ vs

module _ (vs₀ : List ℤ) (es₀ fs₀ : List ℕ) (vs : List ℤ) (es fs : List ℕ) (n h : ℕ) (t : Turning vs₀ es₀ fs₀ vs es fs n h) (l : h < rows es₀) where
  pub turning-in : h < rows es
  turning-in = subst (λ (k : ℕ). h < k / 4) (sym t.e-long) l

  abbrev c : Chart
  c = chart_of vs es fs

  wants : wants_flip c n h ≡ true
  wants = found c n h t.next turning-in

  module _ (vs' : List ℤ) (es' fs' : List ℕ) (q : chart_of vs' es' fs' ≡ flipped c h) where
    pub turned : Reached (chart_of vs₀ es₀ fs₀) n (chart_of vs' es' fs')
    turned = flip-reached (chart_of vs₀ es₀ fs₀) c (chart_of vs' es' fs') n h t.reached turning-in wants q

    pub turned-less : rows es' - degree (chart_of vs' es' fs') n < rows es - degree c n
    turned-less = flip-less (chart_of vs₀ es₀ fs₀) c (chart_of vs' es' fs') n h t.reached turning-in wants q

    pub turned_on : (h' : ℕ) → h' ≡ first (wants_flip (chart_of vs' es' fs') n) (rows es') → length vs' ≡ length vs → length es' ≡ length es → length fs' ≡ length fs → KeepsOuts vs vs' → Turning vs₀ es₀ fs₀ vs' es' fs' n h'
    turned_on h' e a b d k = record { reached = turned; next = e; v-long = a ∙ t.v-long; e-long = b ∙ t.e-long; f-long = d ∙ t.f-long; outed = λ u o. k u (t.outed u o) }
