-- The loop of `inspect_flips` as steps on lists: what holds at its head, and that a turn keeps it.
use Rattle.std.specs.Prelude.{◌≡◌, Bool, true, false, List, [], ◌∷◌, ◌++◌, reverse, ℕ, zero, suc, ◌<◌, length, get_or}
use Rattle.std.proofs.Common.{refl, sym, ap, ◌∙◌, arith, length-append}
use Rattle.std.proofs.lemmas.Bool.{false≢true}
use Rattle.std.proofs.lemmas.List.{reverse-append}
use Rattle.faceset.specs.Set.{add}
use Rattle.faceset.specs.Laws.{below-add}
use Rattle.geometry.specs.declared.Place.{Place}
use Rattle.chart.specs.Chart.{Chart, partner, InRange}
use Rattle.flips.specs.Search.{Found, found, should_flip, inspect_all, free}
use Rattle.flips.specs.Ready.{Ready}
use Rattle.flips.specs.Laws.{one_fewer, e1-in, e2-in, all-open, all-border}

-- from here on `goal` is found, and the search is ready
pub record Held (c : Chart) (q : Place) (goal : Found) (opened : ℕ → Bool) (listed stack : List ℕ) : Type 0 where
  pub runs : inspect_all c q stack (found opened listed) ≡ goal
  pub ready : Ready c opened listed stack

module _ (c : Chart) (q : Place) (r : InRange c) (goal : Found) (opened : ℕ → Bool) (listed : List ℕ) (h : ℕ) (s : List ℕ) (held : Held c q goal opened listed (h ∷ s)) where
  -- the half-edge on top is one of the chart
  pub top-in : h < c.half_edges
  top-in = held.ready.in-range 0 (omega arith)

  -- it is border
  pub border : should_flip c q opened h ≡ false → Held c q goal opened (listed ++ partner h ∷ []) s
  border b =
      record {
        runs = sym (all-border c q r h s (found opened listed) b) ∙ held.runs;
        ready =
            record {
              fits = omega (arith, held.ready.fits, length-append listed (partner h ∷ []));
              in-range = λ k l. held.ready.in-range (suc k) (omega arith);
              below = held.ready.below;
            };
      }

  -- its face is opened: there is one fewer to open
  pub fewer : should_flip c q opened h ≡ true → suc (free c (add (c.face h) opened)) ≡ free c opened
  fewer y = (one_fewer c q r opened h top-in y).1

  two-more : (k : ℕ) → k < suc (suc (length s)) → get_or (partner (c.prev h) ∷ partner (c.next h) ∷ s) k 0 < c.half_edges
  two-more zero l = e2-in c q r h top-in
  two-more (suc zero) l = e1-in c q r h top-in
  two-more (suc (suc k)) l = held.ready.in-range (suc k) (omega arith)

  pub opens : should_flip c q opened h ≡ true → Held c q goal (add (c.face h) opened) listed (partner (c.prev h) ∷ partner (c.next h) ∷ s)
  opens y =
      record {
        runs = sym (all-open c q r h s (found opened listed) top-in y) ∙ held.runs;
        ready =
            record {
              fits = omega (arith, held.ready.fits, fewer y);
              in-range = two-more;
              below = below-add c.faces (c.face h) opened (r.face-numbers h top-in) held.ready.below;
            };
      }

-- ---- the stack as the code keeps it, with the top at the end
pub snoc : (xs : List ℕ) (x : ℕ) → reverse (xs ++ x ∷ []) ≡ x ∷ reverse xs
snoc xs x = reverse-append xs (x ∷ [])

pub two-snoc : (xs ys zs : List ℕ) (x y : ℕ) → ys ≡ xs ++ x ∷ [] → zs ≡ ys ++ y ∷ [] → reverse zs ≡ y ∷ x ∷ reverse xs
two-snoc xs ys zs x y d e =
    ap reverse e ∙ snoc ys y ∙ ap (λ (l : List ℕ). y ∷ l) (ap reverse d ∙ snoc xs x)

pub emptied : (xs : List ℕ) → (0 < length xs → false ≡ true) → reverse xs ≡ []
emptied [] h = refl
emptied (x ∷ xs) h = absurd (false≢true (h (omega arith)))
