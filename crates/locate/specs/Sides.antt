-- What the scan of the edges keeps for the scans after it (01, "Location"). Assumes nothing.
use Rattle.std.specs.Prelude.{◌≡◌, Bool, false, List, ℕ, ◌+◌, ◌*◌, ◌≤◌, ◌<◌, pos, length, get_or, set}
use Rattle.std.proofs.Common.{sym, ap, ◌∙◌, not-suc-le-zero, arith, below_more, length-set, get_or-set_same, get_or-set_other}
use Rattle.std.specs.Int.Signed.{lt_z}
use Rattle.whole.specs.Test.{below-zero}
use Rattle.geometry.specs.declared.Place.{Place}
use Rattle.geometry.specs.Plane.{side}
use Rattle.geometry.specs.Laws.{side-back}
use Rattle.chart.specs.Chart.{Chart, from_of, to_of, partner-even, partner-odd}
use Rattle.locate.specs.Location.{left_of}

-- of each of the first n half-edges, whether q is strictly left of it
pub record SidesOf (c : Chart) (q : Place) (left : List Bool) (n : ℕ) : Type 0 where
  pub room : n ≤ length left
  pub said : (h : ℕ) → h < n → get_or left h false ≡ left_of c q h

pub sides-none : (c : Chart) (q : Place) (left : List Bool) → SidesOf c q left 0
sides-none c q left = record { room = omega arith; said = λ h m. absurd (not-suc-le-zero m) }

-- the sides of an edge's two half-edges: q is strictly left of the odd one where it is strictly right of the even one
pub odd-left : (c : Chart) (q : Place) (k : ℕ) → left_of c q (2 * k + 1) ≡ lt_z (side (from_of c (2 * k)) (to_of c (2 * k)) q) (pos 0)
odd-left c q k =
    ap (λ (j : ℕ). lt_z (pos 0) (side (from_of c (2 * k + 1)) (from_of c j) q)) (partner-odd k)
    ∙ ap (lt_z (pos 0)) (side-back (from_of c (2 * k)) (from_of c (2 * k + 1)) q)
    ∙ below-zero (side (from_of c (2 * k)) (from_of c (2 * k + 1)) q)
    ∙ ap (λ (j : ℕ). lt_z (side (from_of c (2 * k)) (from_of c j) q) (pos 0)) (sym (partner-even k))

-- one edge more
module _ (c : Chart) (q : Place) (left : List Bool) (k : ℕ) (s : SidesOf c q left (2 * k)) (l : 2 * k + 1 < length left) (a b : Bool) (ea : a ≡ left_of c q (2 * k)) (eb : b ≡ left_of c q (2 * k + 1)) where
  abbrev one : List Bool
  one = set left (2 * k) a

  abbrev new : List Bool
  new = set one (2 * k + 1) b

  first_said : (h : ℕ) → h < 2 * k + 1 → get_or one h false ≡ left_of c q h
  first_said =
      below_more _ _ (λ h m. get_or-set_other left (2 * k) h a false (λ e. omega arith) ∙ s.said h m)
      (get_or-set_same left (2 * k) a false (omega arith) ∙ ea)

  both-said : (h : ℕ) → h < 2 * k + 1 + 1 → get_or new h false ≡ left_of c q h
  both-said =
      below_more _ _ (λ h m. get_or-set_other one (2 * k + 1) h b false (λ e. omega arith) ∙ first_said h m)
      (get_or-set_same one (2 * k + 1) b false (omega (arith, length-set left (2 * k) a)) ∙ eb)

  pub sides-more : SidesOf c q new (2 * (k + 1))
  sides-more =
      record {
        room = omega (arith, length-set left (2 * k) a, length-set one (2 * k + 1) b);
        said = λ h m. both-said h (omega arith);
      }
