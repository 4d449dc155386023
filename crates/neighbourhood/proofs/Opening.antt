-- One face more is opened, behind a border of those that are: what becomes of the borders. Of every sound chart. Assumes nothing.
use Rattle.std.specs.Prelude.{◌≡◌, refl, ◌⊎◌, ◌||◌, Bool, true, false, not, ◌&&◌, ℕ, ◌+◌, ◌<◌, eqb, ℤ}
use Rattle.std.proofs.Common.{sym, ◌∙◌, inl, inr, arith}
use Rattle.std.proofs.Math.Path.{subst, ap}
use Rattle.std.proofs.lemmas.Bool.{false≢true}
use Rattle.std.proofs.Math.Decide.{ℕ_discrete}
use borrow.Author.Tests.{eq-eqb, ne_eqb, not-true}
use Rattle.whole.specs.Bools.{and-true, is_false}
use Rattle.faceset.specs.Set.{add, one}
use Rattle.geometry.specs.declared.Place.{Place}
use Rattle.chart.specs.Chart.{Chart, partner, partner-twice, partner-in}
use Rattle.sound.specs.Sound.{Sound, Inner}
use Rattle.cavity.specs.Edge.{same-face, faces-differ}
use Rattle.signs.specs.Signs.{Pos, Low, High}
use Rattle.signs.specs.Order.{neg-hi, neg-pos, neg-high, pos-high}
use Rattle.nearby.specs.Chart as Ch
use Rattle.nearby.specs.Windows as Wn
use Rattle.neighbourhood.specs.Opening as S
use Rattle.neighbourhood.specs.Opening.{border, border-yes, left-off, right-off, one_of, zero_of}

module _ (c : Chart) (snd : Sound c) (q : Place) where
  abbrev sd : ℕ → ℤ
  sd = Wn.sd c snd q

  abbrev circ : ℕ → ℤ
  circ = Wn.circ c snd q

  -- ---- the face of e is opened, behind the border h = partner e
  module _ (o : ℕ → Bool) (e : ℕ) (i : Inner c e) (new : o (c.face e) ≡ false) (hole : Pos (circ e)) (at-border : border c o (partner e) ≡ true) (high : (x : ℕ) → x < c.half_edges → border c o x ≡ true → High (sd x)) where
    abbrev T : ℕ
    T = c.face e

    abbrev o' : ℕ → Bool
    o' = add (c.face e) o

    l : e < c.half_edges
    l = i.0

    hl : partner e < c.half_edges
    hl = partner-in snd.range e l

    h-open : o (c.face (partner e)) ≡ true
    h-open = (and-true (o (c.face (partner e))) (not (o (c.face (partner (partner e))))) at-border).0

    -- q is not strictly left of e, so strictly left of the other two
    low-e : Low (sd e)
    low-e = neg-hi (S.side-back c snd q e l) (high (partner e) hl at-border)

    pub win : Pos (sd (c.next e)) × Pos (sd (c.prev e))
    win = Wn.one-window-at c snd q e l i.1 hole low-e

    -- behind a side with q strictly left nothing is opened
    behind : (k : ℕ) → k < c.half_edges → c.face k ≡ T → Pos (sd k) → o (c.face (partner k)) ≡ false
    behind k m f p = is_false (o (c.face (partner k))) (λ u. neg-high (neg-pos (Ch.twin-side c snd k q m) p) (high (partner k) (partner-in snd.range k m) (border-yes (o (c.face (partner k))) (o (c.face (partner (partner k)))) u (ap (λ (x : ℕ). o (c.face x)) (partner-twice k) ∙ ap o f ∙ new))))

    inner_of : (k : ℕ) → k < c.half_edges → c.face k ≡ T → Inner c k
    inner_of k m f = (m, λ z. i.1 (sym f ∙ z))

    differ : (k : ℕ) → k < c.half_edges → c.face k ≡ T → c.face (partner k) ≡ T → ⊥
    differ k m f g = faces-differ c snd k (inner_of k m f) (inner_of (partner k) (partner-in snd.range k m) g) (g ∙ sym f)

    -- the faces opened now
    o'-at : (f : ℕ) → f ≡ T → o' f ≡ true
    unfolding add
    o'-at f w = ap (λ (b : Bool). b || o f) (eq-eqb f T w)

    o'-off : (f : ℕ) → (f ≡ T → ⊥) → o' f ≡ o f
    unfolding add
    o'-off f w = ap (λ (b : Bool). b || o f) (ne_eqb f T w)

    pub o'-more : (f : ℕ) → o f ≡ true → o' f ≡ true
    o'-more f w = pick (ℕ_discrete f T)
      where
        pick : Dec (f ≡ T) → o' f ≡ true
        pick (yes u) = o'-at f u
        pick (no u) = o'-off f u ∙ w

    pub o'-new : o' T ≡ true
    o'-new = o'-at T refl

    -- a face is T or was opened before
    o'-cases : (f : ℕ) → o' f ≡ true → (f ≡ T) ⊎ (o f ≡ true)
    o'-cases f w = pick (ℕ_discrete f T)
      where
        pick : Dec (f ≡ T) → (f ≡ T) ⊎ (o f ≡ true)
        pick (yes u) = inl u
        pick (no u) = inr (sym (o'-off f u) ∙ w)

    of_T : (x : ℕ) → x < c.half_edges → c.face x ≡ T → (x ≡ e) ⊎ ((x ≡ c.next e) ⊎ (x ≡ c.prev e))
    of_T x m f = same-face c snd e x i (inner_of x m f) f

    -- the other two are borders now, e is not
    side-border : (k : ℕ) → k < c.half_edges → c.face k ≡ T → Pos (sd k) → border c o' k ≡ true
    side-border k m f p =
        border-yes (o' (c.face k)) (o' (c.face (partner k))) (o'-at (c.face k) f) (o'-off (c.face (partner k)) (differ k m f) ∙ behind k m f p)

    e-no-border : border c o' e ≡ false
    e-no-border = right-off (o' T) (o' (c.face (partner e))) (o'-more (c.face (partner e)) h-open)

    nl : c.next e < c.half_edges
    nl = snd.range.nexts e l

    pl : c.prev e < c.half_edges
    pl = snd.range.prevs e l

    nf : c.face (c.next e) ≡ T
    nf = snd.next-face e l

    pf : c.face (c.prev e) ≡ T
    pf = snd.prev-face e l

    -- ---- how often each border stands in the list: t times before, m times after the place that changes
    pub bordered : (x : ℕ) → x < c.half_edges → (t m : ℕ) → t + (one (eqb x (partner e)) + m) ≡ one (border c o x) → t + (one (eqb x (c.prev e)) + (one (eqb x (c.next e)) + m)) ≡ one (border c o' x)
    bordered x xl t m eq = pick (ℕ_discrete (c.face x) T) (ℕ_discrete (c.face (partner x)) T)
      where
        Goal : Type 0
        Goal = t + (one (eqb x (c.prev e)) + (one (eqb x (c.next e)) + m)) ≡ one (border c o' x)

        in-T : c.face x ≡ T → (x ≡ e) ⊎ ((x ≡ c.next e) ⊎ (x ≡ c.prev e)) → Goal
        in-T f w = which w
          where
            nought : one (border c o x) ≡ 0
            nought = ap one (left-off (o (c.face x)) (o (c.face (partner x))) (ap o f ∙ new))

            which : (x ≡ e) ⊎ ((x ≡ c.next e) ⊎ (x ≡ c.prev e)) → Goal
            which (inl u) =
                let z1 : one (eqb x (c.prev e)) ≡ 0 = zero_of x (c.prev e) (λ y. snd.prev-differs e l (sym y ∙ u)) in
                let z2 : one (eqb x (c.next e)) ≡ 0 = zero_of x (c.next e) (λ y. snd.next-differs e l (sym y ∙ u)) in
                let z3 : one (border c o' x) ≡ 0 = ap (λ (k : ℕ). one (border c o' k)) u ∙ ap one e-no-border in
                omega (arith, nought)
            which (inr (inl u)) =
                let z1 : one (eqb x (c.prev e)) ≡ 0 = zero_of x (c.prev e) (λ y. snd.next-prev-differ e i (sym u ∙ y)) in
                let z2 : one (eqb x (c.next e)) ≡ 1 = one_of x (c.next e) u in
                let z3 : one (border c o' x) ≡ 1 = ap (λ (k : ℕ). one (border c o' k)) u ∙ ap one (side-border (c.next e) nl nf win.0) in
                omega (arith, nought)
            which (inr (inr u)) =
                let z1 : one (eqb x (c.prev e)) ≡ 1 = one_of x (c.prev e) u in
                let z2 : one (eqb x (c.next e)) ≡ 0 = zero_of x (c.next e) (λ y. snd.next-prev-differ e i (sym y ∙ u)) in
                let z3 : one (border c o' x) ≡ 1 = ap (λ (k : ℕ). one (border c o' k)) u ∙ ap one (side-border (c.prev e) pl pf win.1) in
                omega (arith, nought)

        not_T : (c.face x ≡ T → ⊥) → Dec (c.face (partner x) ≡ T) → Goal
        not_T n d = which d
          where
            z1 : one (eqb x (c.prev e)) ≡ 0
            z1 = zero_of x (c.prev e) (λ y. n (ap c.face y ∙ pf))

            z2 : one (eqb x (c.next e)) ≡ 0
            z2 = zero_of x (c.next e) (λ y. n (ap c.face y ∙ nf))

            -- x is the partner of k, of T
            other : (k : ℕ) → k < c.half_edges → c.face k ≡ T → Pos (sd k) → partner x ≡ k → one (border c o x) ≡ 0
            other k kl kf p w =
                let v : x ≡ partner k = sym (partner-twice x) ∙ ap partner w in
                ap one (left-off (o (c.face x)) (o (c.face (partner x))) (ap (λ (y : ℕ). o (c.face y)) v ∙ behind k kl kf p))

            away : c.face (partner x) ≡ T → one (border c o' x) ≡ 0
            away f = ap one (right-off (o' (c.face x)) (o' (c.face (partner x))) (o'-at (c.face (partner x)) f))

            near : c.face (partner x) ≡ T → (partner x ≡ e) ⊎ ((partner x ≡ c.next e) ⊎ (partner x ≡ c.prev e)) → Goal
            near f (inl u) =
                let w : x ≡ partner e = sym (partner-twice x) ∙ ap partner u in
                let y1 : one (eqb x (partner e)) ≡ 1 = one_of x (partner e) w in
                let y2 : one (border c o x) ≡ 1 = ap (λ (k : ℕ). one (border c o k)) w ∙ ap one at-border in
                let y3 = away f in
                omega (arith, z1, z2)
            near f (inr (inl u)) = omega (arith, z1, z2, away f, other (c.next e) nl nf win.0 u)
            near f (inr (inr u)) = omega (arith, z1, z2, away f, other (c.prev e) pl pf win.1 u)

            which : Dec (c.face (partner x) ≡ T) → Goal
            which (yes f) = near f (of_T (partner x) (partner-in snd.range x xl) f)
            which (no g) =
                let y1 : one (eqb x (partner e)) ≡ 0 = zero_of x (partner e) (λ w. g (ap (λ (k : ℕ). c.face (partner k)) w ∙ ap c.face (partner-twice e))) in
                let y2 : one (border c o' x) ≡ one (border c o x) =
                ap (λ (b : Bool). one (b && not (o' (c.face (partner x))))) (o'-off (c.face x) n) ∙ ap (λ (b : Bool). one (o (c.face x) && not b)) (o'-off (c.face (partner x)) g) in
                omega (arith, z1, z2)

        pick : Dec (c.face x ≡ T) → Dec (c.face (partner x) ≡ T) → Goal
        pick (yes f) d = in-T f (of_T x xl f)
        pick (no n) d = not_T n d

    -- ---- q is not strictly right of a border
    pub still-high : (x : ℕ) → x < c.half_edges → border c o' x ≡ true → High (sd x)
    still-high x xl b = pick (o'-cases (c.face x) u.0)
      where
        u : (o' (c.face x) ≡ true) × (not (o' (c.face (partner x))) ≡ true)
        u = and-true (o' (c.face x)) (not (o' (c.face (partner x)))) b

        which : (x ≡ e) ⊎ ((x ≡ c.next e) ⊎ (x ≡ c.prev e)) → High (sd x)
        which (inl w) = absurd (false≢true (sym (ap (border c o') w ∙ e-no-border) ∙ b))
        which (inr (inl w)) = subst (λ (k : ℕ). High (sd k)) (sym w) (pos-high win.0)
        which (inr (inr w)) = subst (λ (k : ℕ). High (sd k)) (sym w) (pos-high win.1)

        closed : o (c.face (partner x)) ≡ false
        closed = is_false (o (c.face (partner x))) (λ w. false≢true (sym (not-true (o' (c.face (partner x))) u.1) ∙ o'-more (c.face (partner x)) w))

        pick : (c.face x ≡ T) ⊎ (o (c.face x) ≡ true) → High (sd x)
        pick (inl f) = which (of_T x xl f)
        pick (inr w) = high x xl (border-yes (o (c.face x)) (o (c.face (partner x))) w closed)

    -- ---- the circle of every opened face holds q
    pub still-holes : ((x : ℕ) → x < c.half_edges → o (c.face x) ≡ true → (c.face x ≡ 0 → ⊥) × Pos (circ x)) → (x : ℕ) → x < c.half_edges → o' (c.face x) ≡ true → (c.face x ≡ 0 → ⊥) × Pos (circ x)
    still-holes was x xl b = pick (o'-cases (c.face x) b)
      where
        pick : (c.face x ≡ T) ⊎ (o (c.face x) ≡ true) → (c.face x ≡ 0 → ⊥) × Pos (circ x)
        pick (inl f) = ((inner_of x xl f).1, subst Pos (sym (S.circ-face c snd q e x i xl f)) hole)
        pick (inr w) = was x xl w
