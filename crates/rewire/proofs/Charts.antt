-- Tables that hold a chart and no more: what a flip writes into them, and what it asks of them. Assumes nothing.
use Rattle.std.specs.Prelude.{◌≡◌, List, ℕ, ◌/◌, ◌<◌, ℤ, length, set}
use Rattle.std.proofs.Common.{sym, ap, subst, ◌∙◌, length-set}
use Rattle.chart.specs.Tables.{rows}
use Rattle.chart.specs.Chart.{Chart, chart_of, partner, InRange, partner-in}
use Rattle.patches.specs.declared.Row.{Row}
use Rattle.patches.specs.Flip.{flip_row, flipped}
use Rattle.rewire.specs.Tables.{Inside, triangle_in, triangles_in, faces_in, out_in, length-triangle, length-out}
use Rattle.rewire.proofs.Flip.{flip-tables}

-- what `flip_cw` writes, one after the other
pub flip-done : (vs v₁ v₂ : List ℤ) (es e₁ e₂ fs f₁ f₂ : List ℕ) (r : InRange (chart_of vs es fs)) (e t : ℕ) (x y : Row) → e < rows es → t ≡ partner e
    → x ≡ flip_row (chart_of vs es fs) e t → y ≡ flip_row (chart_of vs es fs) t e
    → e₁ ≡ triangle_in es y → f₁ ≡ set fs y.face y.key → e₂ ≡ triangle_in e₁ x → f₂ ≡ set f₁ x.face x.key
    → v₁ ≡ out_in vs y.apex y.prev → v₂ ≡ out_in v₁ x.apex x.prev → chart_of v₂ e₂ f₂ ≡ flipped (chart_of vs es fs) e
unfolding triangles_in faces_in
flip-done vs v₁ v₂ es e₁ e₂ fs f₁ f₂ r e t x y l pt px py pe₁ pf₁ pe₂ pf₂ pv₁ pv₂ =
    let c : Chart = chart_of vs es fs in
    let x' : x ≡ flip_row c e (partner e) = px ∙ ap (λ (k : ℕ). flip_row c e k) pt in
    let y' : y ≡ flip_row c (partner e) e = py ∙ ap (λ (k : ℕ). flip_row c k e) pt in
    let a : e₂ ≡ triangle_in (triangle_in es (flip_row c (partner e) e)) (flip_row c e (partner e)) =
    pe₂ ∙ ap (λ (s : List ℕ). triangle_in s x) (pe₁ ∙ ap (triangle_in es) y') ∙ ap (triangle_in (triangle_in es (flip_row c (partner e) e))) x' in
    let b : f₂ ≡ set (set fs (c.face (partner e)) (partner e)) (c.face e) e =
    pf₂ ∙ ap (λ (s : List ℕ). set s x.face x.key) (pf₁ ∙ ap (λ (q : Row). set fs q.face q.key) y') ∙ ap (λ (q : Row). set (set fs (c.face (partner e)) (partner e)) q.face q.key) x' in
    let d : v₂ ≡ out_in (out_in vs (c.origin e) (c.next (partner e))) (c.origin (partner e)) (c.next e) =
    pv₂ ∙ ap (λ (s : List ℤ). out_in s x.apex x.prev) (pv₁ ∙ ap (λ (q : Row). out_in vs q.apex q.prev) y') ∙ ap (λ (q : Row). out_in (out_in vs (c.origin e) (c.next (partner e))) q.apex q.prev) x' in
    (λ i. chart_of (d i) (a i) (b i)) ∙ flip-tables vs es fs r e l

-- ---- what `put_triangle` and `set_out` ask
pub flip-inside : (vs : List ℤ) (es fs : List ℕ) → InRange (chart_of vs es fs) → (e t : ℕ) (x : Row) → e < rows es → t < rows es → x ≡ flip_row (chart_of vs es fs) e t → Inside es fs x
flip-inside vs es fs r e t x l m q = subst (Inside es fs) (sym q) (l, r.prevs t m, r.nexts e l, r.face-numbers e l)

-- after another triangle was put
pub inside-after : (es e₁ fs f₁ : List ℕ) (x y : Row) → e₁ ≡ triangle_in es y → f₁ ≡ set fs y.face y.key → Inside es fs x → Inside e₁ f₁ x
inside-after es e₁ fs f₁ x y p q (a, b, d, g) =
    let n : length es ≡ length e₁ = sym (ap length p ∙ length-triangle es y) in
    let k : length fs ≡ length f₁ = sym (ap length q ∙ length-set fs y.face y.key) in
    (subst (λ (i : ℕ). x.key < i / 4) n a, subst (λ (i : ℕ). x.next < i / 4) n b, subst (λ (i : ℕ). x.prev < i / 4) n d, subst (λ (i : ℕ). x.face < i) k g)

-- the out half-edge of an old end
pub flip-out : (vs : List ℤ) (es fs : List ℕ) → InRange (chart_of vs es fs) → (e t : ℕ) (x : Row) → e < rows es → t < rows es → x ≡ flip_row (chart_of vs es fs) e t → (x.apex < rows vs) × (x.prev < rows es)
flip-out vs es fs r e t x l m q = subst (λ (y : Row). (y.apex < rows vs) × (y.prev < rows es)) (sym q) (r.origins t m, r.nexts e l)

pub out-after : (vs v₁ : List ℤ) (v h k : ℕ) → v₁ ≡ out_in vs v h → k < rows vs → k < rows v₁
out-after vs v₁ v h k p l = subst (λ (i : ℕ). k < i / 4) (sym (ap length p ∙ length-out vs v h)) l

pub partner-at : (vs : List ℤ) (es fs : List ℕ) → InRange (chart_of vs es fs) → (e t : ℕ) → e < rows es → t ≡ partner e → t < rows es
partner-at vs es fs r e t l p = subst (λ (k : ℕ). k < rows es) (sym p) (partner-in r e l)

-- of a row x that is y, in tables as long as those that y was asked in
pub inside-as : (es e₁ fs f₁ : List ℕ) (x y : Row) → x ≡ y → length e₁ ≡ length es → length f₁ ≡ length fs → Inside es fs y → Inside e₁ f₁ x
inside-as es e₁ fs f₁ x y e n k i =
    let (a, b, d, g) = subst (Inside es fs) (sym e) i in
    (subst (λ (i : ℕ). x.key < i / 4) (sym n) a, subst (λ (i : ℕ). x.next < i / 4) (sym n) b, subst (λ (i : ℕ). x.prev < i / 4) (sym n) d, subst (λ (i : ℕ). x.face < i) (sym k) g)
