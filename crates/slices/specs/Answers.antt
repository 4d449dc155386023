-- What each kind of answer leaves in the slices of a call exported for C, and its number: 0 where it is accepted, then the elements in front; a refusal's
-- number else, and the slices as they were.
use Rattle.std.specs.Prelude.{List, [], ◌∷◌, ℕ, Float, length}
use Rattle.locate.specs.declared.Location.{Location}
use Rattle.locate.specs.declared.Location.TheVariants.{OnVertex, OnEdge, OnFace, OutsideOfConvexHull}
use Rattle.weights.specs.Barycentric.{Weights, vertices_of, weights_of}
use Rattle.values.specs.Value.{Answer}
use Rattle.query.specs.Location as L
use Rattle.query.specs.Gradient as G
use Rattle.query.specs.Natural as N
use Rattle.charge.specs.Charging.{Cost}
use Rattle.book.specs.Returned.{Returned}
use Rattle.accounts.specs.Batch.{overlay}
use Rattle.writing.specs.Writing.{Written}
use Rattle.slices.specs.Lent.{kept, Left}
use Rattle.slices.specs.Books.{numbers_of}

-- ---- a location: kind and number
-- 01's kinds in its order; a location that was found is never the last
abbrev pub place_numbers : Location → List ℕ
place_numbers (OnVertex v) = 1 ∷ v ∷ []
place_numbers (OnEdge h) = 2 ∷ h ∷ []
place_numbers (OnFace f) = 3 ∷ f ∷ []
place_numbers (OutsideOfConvexHull h) = 4 ∷ h ∷ []

abbrev pub located_left : L.Located → List ℕ → Left ℕ
located_left (L.Located.at l) lent = record { answer = 0; slice = overlay (place_numbers l) lent }
located_left (L.Located.turned_down n) lent = record { answer = n; slice = lent }

-- ---- weights: vertices, their weights, and one or two counts
pub record WeightsLeft : Type 0 where
  pub answer : ℕ
  pub vertices : List ℕ
  pub weights : List Float
  pub found : List ℕ

-- for the contracts alone
abbrev pub weights_left : ℕ → List ℕ → List Float → List ℕ → WeightsLeft
weights_left n vs ws c = record { answer = n; vertices = vs; weights = ws; found = c }

abbrev pub barycentric_left : Weights → List ℕ → List Float → List ℕ → WeightsLeft
barycentric_left (Weights.weights l) vs ws c =
    record { answer = 0; vertices = overlay (vertices_of l) vs; weights = overlay (weights_of l) ws; found = overlay (length l ∷ []) c }
barycentric_left (Weights.turned_down n) vs ws c = record { answer = n; vertices = vs; weights = ws; found = c }

-- ---- natural neighbours: how many were written, and how many faces were opened
abbrev pub tally_left : N.Tally → List ℕ → Left ℕ
tally_left (N.Tally.listed n o) lent = record { answer = 0; slice = overlay (n ∷ o ∷ []) lent }
tally_left (N.Tally.turned_down n) lent = record { answer = n; slice = lent }

-- ---- a gradient: 2 components
abbrev pub slope_left : G.Slope → List Float → Left Float
slope_left (G.Slope.slope x y) lent = record { answer = 0; slice = overlay (x ∷ y ∷ []) lent }
slope_left (G.Slope.turned_down n) lent = record { answer = n; slice = lent }

-- ---- 1 value
abbrev pub value_left : Answer → List Float → Left Float
value_left (Answer.value v) lent = record { answer = 0; slice = overlay (v ∷ []) lent }
value_left (Answer.turned_down n) lent = record { answer = n; slice = lent }

-- ---- 1 charge
abbrev pub cost_left : Cost → List ℕ → Left ℕ
cost_left (Cost.whole n) lent = record { answer = 0; slice = overlay (n ∷ []) lent }
cost_left (Cost.turned_down k) lent = record { answer = k; slice = lent }

-- ---- 1 length, of the text that was written
abbrev pub length_left : Written → List ℕ → Left ℕ
length_left (Written.wrote n) lent = record { answer = 0; slice = overlay (n ∷ []) lent }
length_left (Written.turned_down k) lent = record { answer = k; slice = lent }

-- ---- a book's numbers
abbrev pub returned_left : Returned → List ℕ → Left ℕ
returned_left r lent = record { answer = r.refusal; slice = kept r.refusal (numbers_of r.book) lent }
