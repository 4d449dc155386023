-- The scan of the edges, which goes by the two half-edges of an edge, and what a scan has found.
use Rattle.std.specs.Prelude.{cond, ◌≡◌, Bool, true, false, ℕ, zero, suc, ◌+◌, ◌*◌, ◌-◌, ◌/◌, ◌%◌, ◌≤◌, ◌<◌, None, Some}
use Rattle.std.proofs.Common.{refl, sym, ap, ◌∙◌, arith, eq-eqb, ne_eqb, le-ltb}
use Rattle.std.specs.Option.{unwrap_or}
use Rattle.whole.specs.First.{first, from, some, found, some_at, none-at, from-hit, from-miss, from_end}
use Rattle.whole.specs.Test.{bits-false, zero-fits}
use Rattle.geometry.specs.declared.Place.{Place}
use Rattle.chart.specs.Chart.{Chart}
use Rattle.locate.specs.Location.{on_edge, on_even_edge}

-- what a test of a side says
pub ruleset tests = (bits-false, zero-fits, ne_eqb)

-- ---- the number found
found-at : (p : ℕ → Bool) (n i : ℕ) → i < n → p i ≡ true → first p n ≡ i → Some i ≡ found p n
found-at p n i l e f = sym (ap (λ (b : Bool). cond b (Some (first p n)) None) (some_at p n i l e) ∙ ap Some f)

found-none : (p : ℕ → Bool) (n : ℕ) → n ≤ first p n → None ≡ found p n
found-none p n l = sym (ap (λ (b : Bool). cond b (Some (first p n)) None) (le-ltb (first p n) n l))

walk : (p : ℕ → Bool) (i k : ℕ) → ((j : ℕ) → i ≤ j → j < i + k → p j ≡ false) → from p i k ≡ i + k
unfolding from
walk p i zero h = omega arith
walk p i (suc k) h = rw (h i (omega arith) (omega arith), from) (walk p (suc i) k (λ j a b. h j (omega arith) (omega arith)) ∙ omega arith)

-- or the count where there is none
pub first-unwrapped : (p : ℕ → Bool) (n : ℕ) → unwrap_or (found p n) n ≡ first p n
first-unwrapped p n = choose (some p n) refl
  where
    choose : (b : Bool) → some p n ≡ b → unwrap_or (found p n) n ≡ first p n
    choose true e = rw e refl
    choose false e = rw e (sym (walk p 0 n (λ j a b. none-at p n e j (omega arith)) ∙ omega arith))

-- ---- the scan of the edges: q is on that of half-edge 2k, and on none before it
module _ (c : Chart) (q : Place) (k n : ℕ) (l : k < n / 2) (so_far : first (on_even_edge c q) n ≡ from (on_even_edge c q) (2 * k) (n - 2 * k)) where
  even-one : (b : Bool) → on_edge c q (2 * k) ≡ b → on_even_edge c q (2 * k) ≡ b
  even-one b e = rw (eq-eqb (2 * k % 2) 0 (omega arith)) e

  odd-one : on_even_edge c q (2 * k + 1) ≡ false
  odd-one = rw (ne_eqb ((2 * k + 1) % 2) 0 (λ e. omega arith)) refl

  pub edge-hit : on_edge c q (2 * k) ≡ true → Some (2 * k) ≡ found (on_even_edge c q) n
  edge-hit e =
      found-at _ n _ (omega arith) (even-one true e) (so_far ∙ from-hit _ _ n (omega arith) (even-one true e))

  -- q is not on it: the scan goes on
  pub edge-miss : on_edge c q (2 * k) ≡ false → first (on_even_edge c q) n ≡ from (on_even_edge c q) (2 * (k + 1)) (n - 2 * (k + 1))
  edge-miss e =
      let s : 2 * k + 1 + 1 ≡ 2 * (k + 1) = omega arith in
      so_far
      ∙ from-miss _ (2 * k) n (omega arith) (even-one false e)
      ∙ from-miss _ (2 * k + 1) n (omega arith) odd-one
      ∙ ap (λ (j : ℕ). from (on_even_edge c q) j (n - j)) s

-- the scan is at its end
pub edge-none : (c : Chart) (q : Place) (k n : ℕ) → n ≤ 2 * k → first (on_even_edge c q) n ≡ from (on_even_edge c q) (2 * k) (n - 2 * k) → None ≡ found (on_even_edge c q) n
edge-none c q k n l so_far =
    let e = so_far ∙ from_end (on_even_edge c q) (2 * k) n l in found-none (on_even_edge c q) n (omega arith)

pub ruleset edges = (edge-hit, edge-miss, edge-none)
